-- What each turn keeps: from where the walk stands, the record ends as it does from where it began.
use mathlib.Core.Path.{◌≡◌}
use Prim.Native.Nat.{◌-◌, ◌≤◌}
use lib.ListN.{length}
use Rattle.replay.specs.Inner.{moved_to}
use Rattle.replay.specs.Replay.{rest_in, end_in}
use Rattle.replay.proofs.check.end_of.Given as goal

abbrev pub invariant-loop-item : goal.invariant-loop-item
invariant-loop-item l = record {
  in_bounds : l.at ≤ length l.log;
  same : end_in (rest_in l.directory l.log (moved_to l.r l.at)) ≡ end_in (rest_in l.directory l.log l.r);
}

abbrev pub decreases-loop-item : goal.decreases-loop-item
decreases-loop-item l = length l.log - l.at
