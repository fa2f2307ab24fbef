-- What each turn keeps.
use mathlib.Core.Path.{◌≡◌}
use lib.ListN.{drop}
use Rattle.directory.proofs.Tables.{lasting}
use Rattle.directory.proofs.slice.all_kept.Given as goal

-- those from a row on keep the rules exactly if all do
abbrev pub invariant-loop-row : goal.invariant-loop-row
invariant-loop-row l = lasting (drop l.row l.tables) ≡ lasting l.tables
