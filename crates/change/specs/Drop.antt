-- What a drop does (document 01: "16 drops of each of the two kinds", "drops in call order, repeats kept"). log.rs lines 517 to 523.
use Rattle.std.specs.Prelude.{ℕ, ◌+◌, leb, set, Result, Ok, Err}
use Rattle.std.specs.Prelude.{if◌then◌else◌}
use Rattle.answer.specs.declared.answer.Answer.{Answer}
use Rattle.answer.specs.declared.answer.Answer.TheVariants.{Done, NoTable, NoRoom, BadState}
use Rattle.directory.specs.Directory.{tables_of, stands}
use Rattle.directory.specs.declared.table.TableKind.{TableKind}
use Rattle.directory.specs.declared.table.TableKind.TheVariants.{Index, RefCount}
use Rattle.directory.specs.declared.directory.Directory.{Directory}
use Rattle.change.specs.Change.{Change, with_drops, with_count_drops, drop_room, change_kept}
use Rattle.change.specs.Insert.{Made, not_made}
use Rattle.change.specs.declared.drops.Drops.{Drops}

-- one more, at the end
abbrev pub drops_with : Drops → ℕ → Drops
drops_with s number = record { tables = set s.tables s.count number; count = s.count + 1 }

-- at a list that keeps its rules: 6, 9. A drop has no key, so a repeat takes room too
unfoldable pub dropped_in : Directory → TableKind → Drops → ℕ → Result Drops Answer
dropped_in d kind s number =
    if stands (tables_of d) kind number
    then if leb drop_room s.count then Err NoRoom else Ok (drops_with s number)  -- 9
    else Err NoTable  -- 6

-- the list with the drops as they then are; a refusal leaves it as it was
abbrev pub drop_made : Change → (Drops → Change) → Result Drops Answer → Made
drop_made l after (Ok s) = record { answer = Done; change = after s }
drop_made l after (Err answer) = not_made answer l

-- `drop_table`, behind 13 and without it
unfoldable pub table_dropped_kept : Directory → Change → ℕ → Made
table_dropped_kept d l number = drop_made l (with_drops l) (dropped_in d Index l.drops number)

-- behind 13
unfoldable pub table_dropped : Directory → Change → ℕ → Made
table_dropped d l number = if change_kept d l then table_dropped_kept d l number else not_made BadState l  -- 13

-- `drop_ref_count_table`
unfoldable pub count_table_dropped_kept : Directory → Change → ℕ → Made
count_table_dropped_kept d l number = drop_made l (with_count_drops l) (dropped_in d RefCount l.count_drops number)

-- behind 13
unfoldable pub count_table_dropped : Directory → Change → ℕ → Made
count_table_dropped d l number = if change_kept d l then count_table_dropped_kept d l number else not_made BadState l  -- 13
