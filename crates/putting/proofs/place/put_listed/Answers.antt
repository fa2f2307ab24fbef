-- `put_listed` meets its contract. The invariant: the entries from the i-th of the order on are left to put, and have room. Assumes nothing.
use mathlib.Core.Path.{◌≡◌}
use Prim.Native.Nat.{◌*◌, ◌≤◌}
use native.Mathlib.Omega.{arith}
use lib.ListN.{length}
use Rattle.overlay.specs.Rules.{Overlay, overlay_of}
use Rattle.overlay.proofs.Parts.{words_long}
use Rattle.overlay.proofs.Ruled.{shows}
use Rattle.memory.specs.declared.span.Holder.TheVariants.{Shared}
use Rattle.putting.proofs.Long.{at_words, at-bytes}
use Rattle.putting.proofs.Puts.{left-first, left-done, turn-place, turn_small, turn-goes, turn-next}
use Rattle.putting.proofs.place.put_listed.Goals as goal

pub overflow_mul-cut : goal.overflow_mul-cut
overflow_mul-cut c = omega (arith, c.requires.small)

pub loop-i-init : goal.loop-i-init
loop-i-init c = left-first _ _ _ _ _ c.requires

pub overflow_add-p : goal.overflow_add-p
overflow_add-p c =
    let list : Overlay = overlay_of c.args.room c.args.listed.now c.args.stored.now c.args.n in
    let few : c.args.n ≤ c.args.room = (shows c.args.kind c.args.room list c.requires.listed).fits in
    omega (arith, few, c.loop-i-test.true, c.requires.small)

pub offset_bounds-listed-cut : goal.offset_bounds-listed-cut
offset_bounds-listed-cut c =
    let list : Overlay = overlay_of c.args.room c.args.listed.now c.args.stored.now c.args.n in
    let few : c.args.n ≤ c.args.room = (shows c.args.kind c.args.room list c.requires.listed).fits in
    omega (arith, few, c.loop-i-test.true, c.requires.small)

pub bounds-listed-cut : goal.bounds-listed-cut
bounds-listed-cut c =
    let list : Overlay = overlay_of c.args.room c.args.listed.now c.args.stored.now c.args.n in
    let few : c.args.n ≤ c.args.room = (shows c.args.kind c.args.room list c.requires.listed).fits in
    let long : length c.args.listed.now ≡ 5 * c.args.room = let k = shows c.args.kind c.args.room list c.requires.listed in words_long c.args.room c.args.listed.now k.rows_long k.order-long in
    omega (arith, few, c.loop-i-test.true, long)

pub row_at-row-requires : goal.row_at-row-requires
row_at-row-requires c =
    let list : Overlay = overlay_of c.args.room c.args.listed.now c.args.stored.now c.args.n in
    let long : length c.args.listed.now ≡ 5 * c.args.room = let k = shows c.args.kind c.args.room list c.requires.listed in words_long c.args.room c.args.listed.now k.rows_long k.order-long in
    let a = c.args in
    let t = c.loop-i.invariant in
    let h = c.loop-i-test.true in (
      omega (arith, turn-place a.kind a.id a.room a.listed.now a.stored.now a.n c.requires.listed c.loop-i.i _ _ t h, long),
      turn_small a.kind a.id a.room a.listed.now a.stored.now a.n c.requires.listed c.loop-i.i _ _ t h,
    )

pub put_place-m-requires : goal.put_place-m-requires
put_place-m-requires c =
    let a = c.args in
    turn-goes a.kind a.id a.room a.listed.now a.stored.now a.n c.requires.listed c.loop-i.i _ _ c.loop-i.invariant c.loop-i-test.true _ c.row_at-row.ensures

pub loop-i-preserved : goal.loop-i-preserved
loop-i-preserved c =
    let a = c.args in
    let h = c.loop-i-test.true in
    turn-next a.kind a.id a.room a.listed.now a.stored.now a.n c.requires.listed c.loop-i.i _ _ c.loop-i.invariant h _ c.row_at-row.ensures _ c.put_place-m.ensures

pub shape_of-words : goal.shape_of-words
shape_of-words c =
    let a = c.args in
    omega (arith, at_words Shared c.loop-i.m c.loop-i.words c.loop-i.bytes c.loop-i.invariant.kept, at_words Shared a.counts a.words.now a.bytes.now c.requires.kept)

pub shape_of-bytes : goal.shape_of-bytes
shape_of-bytes c =
    let a = c.args in
    omega (arith, at-bytes Shared c.loop-i.m c.loop-i.words c.loop-i.bytes c.loop-i.invariant.kept, at-bytes Shared a.counts a.words.now a.bytes.now c.requires.kept)

pub returns : goal.returns
returns c =
    let list : Overlay = overlay_of c.args.room c.args.listed.now c.args.stored.now c.args.n in
    left-done c.args.kind c.args.id list c.args.room c.requires.listed c.loop-i.i _ _ c.loop-i.invariant c.loop-i-test.false
