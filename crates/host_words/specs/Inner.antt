-- Words read in parts, or refused; nothing to be believed.
use Rattle.std.specs.Prelude.{◌&&◌, List, ℕ, ◌+◌, ltb, eqb, length, Option, Some, None}
use Rattle.std.specs.Prelude.{if◌then◌else◌}
use Rattle.numbers.specs.Numbers.{all_below}
use Rattle.directory.specs.declared.table.TableDescription.{TableDescription}
use Rattle.directory.specs.declared.directory.Directory.{Directory}
use Rattle.change.specs.declared.drops.Drops.{Drops}
use Rattle.change.specs.declared.change.LogChange.{LogChange}
use Rattle.host_words.specs.Tables.{row_formed, row_from, broken_directory, table_added}
use Rattle.host_words.specs.Change.{tables_from, drops_from, list_formed, list_in}

-- the table that six words describe
abbrev pub row_read : List ℕ → Option TableDescription
row_read row = if eqb (length row) 6 && row_formed row 0 then Some (row_from row 0) else None

-- one more, where there is room
abbrev pub row_added : Directory → List ℕ → Option Directory
row_added d row = if ltb d.count 16 && (eqb (length row) 6 && row_formed row 0) then Some (table_added d (row_from row 0)) else None

-- the directory that was read, or one that breaks a rule
abbrev pub directory_or_broken : Option Directory → Directory
directory_or_broken None = broken_directory
directory_or_broken (Some d) = d

-- the drops from a place on
abbrev pub drops_read : List ℕ → ℕ → Option Drops
drops_read w at = if all_below 65536 (tables_from w (at + 1)) then Some (drops_from w at) else None

-- the list that words are
abbrev pub list_read : List ℕ → Option LogChange
list_read w = if list_formed w then Some (list_in w) else None
