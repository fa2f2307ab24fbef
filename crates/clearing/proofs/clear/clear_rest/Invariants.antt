-- What each turn keeps.
use mathlib.Core.Path.{◌≡◌}
use mathlib.Core.Bool.{true}
use Prim.Native.Nat.{◌-◌, ◌≤◌}
use lib.ListN.{length}
use Rattle.replay.specs.Inner.{is_walked, moved_to}
use Rattle.replay.specs.Replay.{rest_in}
use Rattle.memory.specs.declared.span.Holder.TheVariants.{Shared}
use Rattle.memory.specs.Parts.{parts_of, parts_kept}
use Rattle.clearing.specs.Inner.{cleared_walk}
use Rattle.clearing.proofs.clear.clear_rest.Given as goal

abbrev pub invariant-loop-i : goal.invariant-loop-i
invariant-loop-i l = (l.at ≤ length l.log) × (length l.words ≡ length l.initial.words) × (length l.bytes ≡ length l.initial.bytes) × (parts_kept Shared (parts_of Shared l.left l.words l.bytes) ≡ true)
    × (is_walked (rest_in l.directory l.log (moved_to l.r l.at)) ≡ true)
    × (cleared_walk l.id (rest_in l.directory l.log (moved_to l.r l.at)) (parts_of Shared l.left l.words l.bytes) ≡ cleared_walk l.id (rest_in l.directory l.log l.r) (parts_of Shared l.initial.left l.initial.words l.initial.bytes))

abbrev pub decreases-loop-i : goal.decreases-loop-i
decreases-loop-i l = length l.log - l.at
