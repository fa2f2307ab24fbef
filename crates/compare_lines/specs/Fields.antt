-- What the fields of a command mean. Assumes nothing.
use Rattle.std.specs.Prelude.{◌≡◌, List, ℕ, ◌≤◌, ◌<◌, Bool, not, eqb, length, take, drop, get_or}
use Rattle.std.specs.Prelude.{if◌then◌else◌}
use Rattle.directory.specs.declared.table.TableKind.{TableKind}
use Rattle.directory.specs.declared.table.TableKind.TheVariants.{Index, Value, RefCount}
use Rattle.words.specs.Words.{little_at}
use Rattle.compare_lines.specs.declared.fault.Fault.{Fault}
use Rattle.compare_lines.specs.declared.fault.Fault.TheVariants.{ShortCommand}

-- kinds in a command: 0 index, 1 value, 2 reference count
abbrev pub kind_of : ℕ → TableKind
kind_of n = if eqb n 0 then Index else if eqb n 1 then Value else RefCount

-- the first n bytes of what was there, and what is left
pub record Took (n : ℕ) (before bytes after : List ℕ) : Type 0 where
  pub enough : n ≤ length before
  pub first : bytes ≡ take n before
  pub rest : after ≡ drop n before

-- a number that they are, the lowest byte first
pub record TookNumber (n : ℕ) (before : List ℕ) (number : ℕ) (after : List ℕ) : Type 0 where
  pub enough : n ≤ length before
  pub first : number ≡ little_at n before 0
  pub rest : after ≡ drop n before

-- a flag: one byte, and all but 0 is set
pub record TookFlag (before : List ℕ) (set : Bool) (after : List ℕ) : Type 0 where
  pub enough : 1 ≤ length before
  pub first : set ≡ not (eqb (get_or before 0 0) 0)
  pub rest : after ≡ drop 1 before

-- a command that has fewer than n bytes left
pub record Cut (n : ℕ) (before : List ℕ) (fault : Fault) : Type 0 where
  pub told : fault ≡ ShortCommand
  pub short : length before < n
