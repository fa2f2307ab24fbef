-- What each turn keeps.
use Prim.Native.Nat.{◌+◌, ◌-◌, ◌*◌, ◌≤◌}
use mathlib.Core.Path.{◌≡◌}
use lib.Count.{ones}
use lib.ListN.{length, drop}
use Rattle.effect.specs.Effect.{slot_strokes, puts}
use Rattle.effect.proofs.store.put_slots.Given as goal

-- the slots that are left, put into the image as it is, give what the contract says
abbrev pub invariant-loop-r : goal.invariant-loop-r
invariant-loop-r l = record {
  can_next : (goal.iterator-loop-r).can_next l.r-iterator;
  is_finite : (goal.iterator-loop-r).is_finite l.r-iterator;
  puts : puts (slot_strokes (64 - l.r-iterator.from) l.width (l.at + l.r-iterator.from * l.width) l.r-iterator.rest (drop l.f l.entries)) l.image ≡ puts (slot_strokes 64 l.width l.at l.mask l.entries) l.initial.image;
  long : length l.image ≡ length l.initial.image;
  held : l.f + ones l.r-iterator.rest * l.width ≤ length l.entries;
}
