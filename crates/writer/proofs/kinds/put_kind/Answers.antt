-- `put_kind` meets its contract. The invariant: the entries from there on are left to write. Assumes nothing.
use mathlib.Core.Path.{refl, ◌∙◌}
use native.Mathlib.Omega.{arith}
use Rattle.memory.specs.Parts.{of_kind}
use Rattle.change.specs.Ruled.{list_of}
use Rattle.output.proofs.Laws.{all_left, joined-room, joined-rest, joined-done}
use Rattle.writer.specs.Bytes.{entry_bytes_at, entries}
use Rattle.writer.proofs.Rules.{few, low, past, lent-writable, lent-bytes}
use Rattle.writer.proofs.kinds.put_kind.Goals as goal

pub loop-place-init : goal.loop-place-init
unfolding entries
loop-place-init c = record { long = refl; left = all_left _ _ _ }

pub put_key-o-requires : goal.put_key-o-requires
put_key-o-requires c =
    let a = c.args in
    let o = of_kind a.kind (list_of a.lent).parts in
    let k = c.keys-keys in
    let l = c.loop-place in
    let j = l.place-index in
    let h = c.loop-place-test.true in
    let room = joined-room (entry_bytes_at a.kind o) o.order o.count (few a.kind a.lent) j l.invariant.left (low a.kind a.lent _ _ _ k.ensures.rows k.ensures.order c.slots-slots.ensures j h) in (
      lent-writable a.kind a.lent _ _ _ k.ensures.rows k.ensures.order c.slots-slots.ensures j h,
      rw (lent-bytes a.kind a.lent _ _ _ k.ensures.rows k.ensures.order c.slots-slots.ensures j h) (omega (arith, room, l.invariant.long, c.requires)),
    )

pub loop-place-preserved : goal.loop-place-preserved
loop-place-preserved c =
    let a = c.args in
    let o = of_kind a.kind (list_of a.lent).parts in
    let k = c.keys-keys in
    let l = c.loop-place in
    let j = l.place-index in
    let h = c.loop-place-test.true in
    record {
      long = c.put_key-o.auto.out ∙ l.invariant.long;
      left = joined-rest (entry_bytes_at a.kind o) o.order o.count (few a.kind a.lent) j l.invariant.left (low a.kind a.lent _ _ _ k.ensures.rows k.ensures.order c.slots-slots.ensures j h)
          (rw (lent-bytes a.kind a.lent _ _ _ k.ensures.rows k.ensures.order c.slots-slots.ensures j h) at c.put_key-o.ensures);
    }

pub returns : goal.returns
returns c =
    let a = c.args in
    let o = of_kind a.kind (list_of a.lent).parts in
    let k = c.keys-keys in
    let j = c.loop-place.place-index in
    joined-done (entry_bytes_at a.kind o) o.order o.count (few a.kind a.lent) j (past a.kind a.lent _ _ _ k.ensures.rows k.ensures.order c.slots-slots.ensures j c.loop-place-test.false) c.loop-place.invariant.left
