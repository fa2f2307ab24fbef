-- What each turn keeps: what is left of the record, applied to the image as it stands, is the record applied to the image as it was.
use mathlib.Core.Path.{◌≡◌}
use mathlib.Core.Bool.{true}
use Prim.Native.Nat.{◌-◌, ◌≤◌}
use lib.ListN.{length}
use Rattle.replay.specs.Inner.{is_walked, moved_to}
use Rattle.replay.specs.Replay.{rest_in, image_after}
use Rattle.replay.proofs.apply.apply_rest.Given as goal

abbrev pub invariant-loop-item : goal.invariant-loop-item
invariant-loop-item l = record {
  in_bounds : l.at ≤ length l.log;
  long : length l.image ≡ length l.initial.image;
  walks : is_walked (rest_in l.layout.directory l.log (moved_to l.r l.at)) ≡ true;
  same : image_after l.layout.directory l.image (rest_in l.layout.directory l.log (moved_to l.r l.at))
      ≡ image_after l.layout.directory l.initial.image (rest_in l.layout.directory l.log l.r);
}

abbrev pub decreases-loop-item : goal.decreases-loop-item
decreases-loop-item l = length l.log - l.at
