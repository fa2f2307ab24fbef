-- What each turn keeps.
use mathlib.Core.Path.{◌≡◌}
use lib.ListN.{take, drop}
use Rattle.overlay.specs.Rules.{rows_of, order_of}
use Rattle.putting.specs.Listed.{last_ids_by}
use Rattle.putting.specs.Inner.{with_last_ids}
use Rattle.putting.proofs.last_id.last_ids.Given as goal

abbrev pub invariant-loop-i : goal.invariant-loop-i
invariant-loop-i l = with_last_ids l.o (last_ids_by l.directory l.id (rows_of l.room l.listed) (drop l.i (take l.n (order_of l.room l.listed))) l.o.last_record_ids) ≡ with_last_ids l.initial.o (last_ids_by l.directory l.id (rows_of l.room l.listed) (take l.n (order_of l.room l.listed)) l.initial.o.last_record_ids)
