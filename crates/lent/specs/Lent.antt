-- The directory as a lent slice (document 01, "The directory and the tables": "The directory is held by value first; afterwards the same
-- entries also take the directory as a lent slice of descriptions"). log.rs has no directory: this part is added.
use Rattle.std.specs.Prelude.{List, ◌++◌, leb, length, take, drop}
use Rattle.std.specs.Prelude.{if◌then◌else◌}
use Rattle.directory.specs.Directory.{no_tables}
use Rattle.directory.specs.declared.table.TableDescription.{TableDescription}
use Rattle.directory.specs.declared.directory.Directory.{Directory}

-- the directory by value of a slice's descriptions: the first 16 in the slice's order, and behind them what the directory of no table has.
-- "Up to 16 tables": more count as 17, which no rule allows, so that every call answers 13
unfoldable pub gathered : List TableDescription → Directory
gathered ts =
    record { tables = take 16 ts ++ drop (length ts) no_tables.tables; count = if leb (length ts) 16 then length ts else 17 }
