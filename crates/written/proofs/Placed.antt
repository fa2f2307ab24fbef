-- A table that is found, as the walks over a log have it: with the place where it begins.
use Rattle.std.proofs.Common.{◌≡◌, ap}
use Rattle.std.specs.Prelude.{ℕ, Option, Some, None, option_map}
use Rattle.directory.specs.Directory.{find_table, start_of}
use Rattle.directory.specs.Inner.{placed_table}
use Rattle.directory.specs.declared.directory.Directory.{Directory}
use Rattle.directory.specs.declared.table.TableDescription.{TableDescription}
use Rattle.directory.specs.declared.table.TableKind.{TableKind}

module _ (d : Directory) (kind : TableKind) (number : ℕ) where
  abbrev at_start : Option (ℕ × TableDescription) → Option (ℕ × TableDescription)
  at_start f = option_map (λ (x : ℕ × TableDescription). (start_of d x.0, x.1)) f

  pub placed-found : (row : ℕ) (t : TableDescription) → find_table d kind number ≡ Some (row, t) → placed_table d kind number ≡ Some (start_of d row, t)
  placed-found row t e = ap at_start e

  pub placed-none : find_table d kind number ≡ None → placed_table d kind number ≡ None
  placed-none e = ap at_start e
