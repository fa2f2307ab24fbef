-- What each turn keeps.
use mathlib.Core.Path.{◌≡◌}
use Prim.Native.Nat.{◌+◌, ◌-◌, ◌*◌}
use lib.ListN.{length, drop}
use Rattle.output.specs.Put.{put, Wrote}
use Rattle.writer.specs.Bytes.{set_slots}
use Rattle.writer.proofs.slots.put_slots.Given as goal

-- the slots of what is left of the mask are left to write
abbrev pub invariant-loop-r : goal.invariant-loop-r
invariant-loop-r l = record {
  can_next : (goal.iterator-loop-r).can_next l.r-iterator;
  is_finite : (goal.iterator-loop-r).is_finite l.r-iterator;
  long : length l.out ≡ length l.initial.out;
  left : Wrote l.out l.o (set_slots (64 - l.r-iterator.from) l.width l.r-iterator.rest (drop (l.r-iterator.from * l.width) l.chunk)) (put l.initial.out l.at (set_slots 64 l.width l.mask l.chunk)) (l.at + length (set_slots 64 l.width l.mask l.chunk));
}
