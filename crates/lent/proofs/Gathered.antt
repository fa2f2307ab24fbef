-- `gathered` is the directory by value that holds just these tables. Assumes nothing.
use mathlib.Core.Path.{◌≡◌}
use mathlib.Core.Bool.{false, ◌&&◌}
use mathlib.Core.List.{List}
use Prim.Native.Nat.{ℕ, ◌≤◌, ◌<◌}
use native.Mathlib.Omega.{arith}
use lib.ListN.{length, take, drop, take-append-drop}
use lib.Seq.{length-take-le, take_all, take-append_seam}
use borrow.Author.Tests.{le-leb, lt-leb}
use Rattle.directory.specs.Directory.{no_tables, tables_of, find_from, find_table, each_kept, apart, directory_kept, sizes_of, start_of, image_length}
use Rattle.directory.specs.declared.table.TableKind.{TableKind}
use Rattle.directory.specs.declared.table.TableDescription.{TableDescription}
use Rattle.directory.specs.declared.directory.Directory.{Directory}
use Rattle.lent.specs.Lent.{gathered}

module _ (ts : List TableDescription) where
  -- up to 16: the count is their number, and the tables are these, in their order
  module _ (few : length ts ≤ 16) where
    pub gathered-count : (gathered ts).count ≡ length ts
    unfolding gathered
    gathered-count = rw (le-leb (length ts) 16 few)

    pub gathered-tables : tables_of (gathered ts) ≡ ts
    unfolding gathered
    gathered-tables = rw (le-leb (length ts) 16 few, take_all 16 ts few, take-append_seam)

    -- so what is said of a directory's tables is said of these
    pub gathered-kept : directory_kept (gathered ts) ≡ each_kept ts && apart ts
    unfolding directory_kept
    gathered-kept = rw (gathered-tables, gathered-count, le-leb (length ts) 16 few)

    pub gathered_find : (kind : TableKind) (number : ℕ) → find_table (gathered ts) kind number ≡ find_from 0 ts kind number
    unfolding find_table
    gathered_find kind number = rw gathered-tables

    pub gathered-start : (row : ℕ) → start_of (gathered ts) row ≡ sizes_of (take row ts)
    unfolding start_of
    gathered-start row = rw gathered-tables

    pub gathered-image : image_length (gathered ts) ≡ sizes_of ts
    unfolding image_length
    gathered-image = rw gathered-tables

  -- more: the directory keeps no rule
  pub gathered-many : 16 < length ts → directory_kept (gathered ts) ≡ false
  unfolding gathered directory_kept
  gathered-many h = rw (lt-leb (length ts) 16 h)

-- a directory by value whose rows behind the count are those of no table is what its tables are gathered into: every call answers alike
pub gathered-again : (d : Directory) → length d.tables ≡ 16 → d.count ≤ 16 → drop d.count d.tables ≡ drop d.count no_tables.tables
    → gathered (tables_of d) ≡ d
unfolding gathered
gathered-again d rows few behind =
    let n : length (tables_of d) ≡ d.count = length-take-le d.count d.tables (omega arith) in
    let short : length (tables_of d) ≤ 16 = omega arith in
    rw (le-leb (length (tables_of d)) 16 short, take_all 16 (tables_of d) short, n, ← behind, take-append-drop)
