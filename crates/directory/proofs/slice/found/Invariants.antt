-- What each turn keeps.
use mathlib.Core.Path.{◌≡◌}
use lib.ListN.{drop}
use Rattle.directory.specs.Directory.{find_from}
use Rattle.directory.proofs.slice.found.Given as goal

-- the search from a row on finds what the whole search finds
abbrev pub invariant-loop-row : goal.invariant-loop-row
invariant-loop-row l = find_from l.row (drop l.row l.tables) l.kind l.number ≡ find_from 0 l.tables l.kind l.number
