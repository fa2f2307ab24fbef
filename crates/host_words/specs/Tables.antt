-- A directory as words, six a table: kind (0 index, 1 value, 2 reference count), number, column, count, length, marks. Of marks there are none
-- yet: their word is 0 (document 01, "The directory and the tables").
use Rattle.std.specs.Prelude.{Bool, ◌&&◌, List, ℕ, zero, suc, ◌+◌, ◌*◌, ◌/◌, ◌%◌, ltb, eqb, length, get_or, set}
use Rattle.std.specs.Prelude.{if◌then◌else◌}
use Rattle.directory.specs.Table.{description}
use Rattle.directory.specs.Directory.{no_tables}
use Rattle.directory.specs.declared.table.TableKind.{TableKind}
use Rattle.directory.specs.declared.table.TableKind.TheVariants.{Index, Value, RefCount}
use Rattle.directory.specs.declared.table.TableDescription.{TableDescription}
use Rattle.directory.specs.declared.directory.Directory.{Directory}

-- "kind (index, value, reference count)"
abbrev pub kind_from : ℕ → TableKind
kind_from k = if eqb k 0 then Index else if eqb k 1 then Value else RefCount

-- each of the six words at a place is within its field's range
unfoldable pub row_formed : List ℕ → ℕ → Bool
row_formed w at =
    ltb (get_or w at 0) 3 && (ltb (get_or w (at + 1) 0) 65536 && (ltb (get_or w (at + 2) 0) 256 && (ltb (get_or w (at + 3) 0) 65536
    && (ltb (get_or w (at + 4) 0) 65536 && eqb (get_or w (at + 5) 0) 0))))

-- the table that they describe
abbrev pub row_from : List ℕ → ℕ → TableDescription
row_from w at =
    description (kind_from (get_or w at 0)) (get_or w (at + 1) 0) (get_or w (at + 2) 0) (get_or w (at + 3) 0) (get_or w (at + 4) 0)

-- a directory that breaks a rule, "Up to 16 tables": whoever is handed it answers 13
abbrev pub broken_directory : Directory
broken_directory = record { tables = no_tables.tables; count = 17 }

-- one more table, behind those that are there
abbrev pub table_added : Directory → TableDescription → Directory
table_added d t = record { tables = set d.tables d.count t; count = d.count + 1 }

-- the table that six words describe added, where there is room and they are as they should be
unfoldable pub with_row : Directory → List ℕ → ℕ → Directory
with_row d w at = if ltb d.count 16 && row_formed w at then table_added d (row_from w at) else broken_directory

-- m more, from row i on
unfoldable pub rows_from : ℕ → ℕ → List ℕ → Directory → Directory
rows_from zero i w d = d
rows_from (suc m) i w d = rows_from m (i + 1) w (with_row d w (6 * i))

-- the directory that words describe: whole tables, 16 at most, each word within its range; else a directory that breaks a rule
unfoldable pub directory_from : List ℕ → Directory
directory_from w = if eqb (length w % 6) 0 then rows_from (length w / 6) 0 w no_tables else broken_directory
