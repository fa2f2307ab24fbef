-- What a walk over many actions looks up. Nothing here has to be believed: `Directory` says what the public calls answer.
use Rattle.std.specs.Prelude.{ℕ, Option, option_map}
use Rattle.directory.specs.Directory.{find_table, start_of}
use Rattle.directory.specs.declared.table.TableKind.{TableKind}
use Rattle.directory.specs.declared.table.TableDescription.{TableDescription}
use Rattle.directory.specs.declared.directory.Directory.{Directory}

-- where the first table of a kind and a number begins in the image, and its description
abbrev pub placed_table : Directory → TableKind → ℕ → Option (ℕ × TableDescription)
placed_table d kind number = option_map (λ found. (start_of d found.0, found.1)) (find_table d kind number)
