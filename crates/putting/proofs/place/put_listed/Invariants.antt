-- What each turn keeps.
use Rattle.overlay.specs.Rules.{overlay_of}
use Rattle.memory.specs.declared.span.Holder.TheVariants.{Shared}
use Rattle.putting.specs.Inner.{parts_at, list_put}
use Rattle.putting.proofs.Puts.{Left}
use Rattle.putting.proofs.place.put_listed.Given as goal

abbrev pub invariant-loop-i : goal.invariant-loop-i
invariant-loop-i l = Left l.kind l.id (overlay_of l.room l.listed l.stored l.n) l.i (parts_at Shared l.m l.words l.bytes) (list_put l.kind l.id (overlay_of l.room l.listed l.stored l.n) (parts_at Shared l.initial.m l.initial.words l.initial.bytes))
