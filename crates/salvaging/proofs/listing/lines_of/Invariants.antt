-- What each turn keeps.
use Prim.Native.Nat.{◌-◌}
use lib.ListN.{length}
use Rattle.salvaging.proofs.Rest.{Rest}
use Rattle.salvaging.proofs.listing.lines_of.Given as goal

abbrev pub invariant-loop-f : goal.invariant-loop-f
invariant-loop-f l = Rest l.directory l.log l.lines l.at

abbrev pub decreases-loop-f : goal.decreases-loop-f
decreases-loop-f l = length l.log - l.at
