-- What each turn keeps: what is seen from here on is what is to be answered.
use mathlib.Core.Path.{◌≡◌}
use Prim.Native.Nat.{◌-◌, ◌≤◌}
use lib.ListN.{length}
use Rattle.salvaging.specs.Inner.{search_in}
use Rattle.salvaging.proofs.search.search_in.Given as goal

abbrev pub invariant-loop-at : goal.invariant-loop-at
invariant-loop-at l = (l.from ≤ l.rest) × (search_in l.more l.directory l.log l.from ≡ search_in l.more l.directory l.log l.rest)

abbrev pub decreases-loop-at : goal.decreases-loop-at
decreases-loop-at l = length l.log - l.rest
