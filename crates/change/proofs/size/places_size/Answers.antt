-- `places_size` meets its contract. The invariant: what was added and the sizes that are left are the whole. Assumes nothing.
use native.Mathlib.Omega.{arith}
use Rattle.overlay.specs.Rules.{row_ruled}
use Rattle.change.proofs.Fitting.{every-at, row-mark}
use Rattle.change.proofs.Sizes.{sizes-next, sizes-past}
use Rattle.change.proofs.size.places_size.Goals as goal

pub loop-place-init : goal.loop-place-init
loop-place-init c = record { most = omega arith; rest = omega arith }

pub entry_size-t-requires : goal.entry_size-t-requires
entry_size-t-requires c =
    let k = c.args.keys in
    row-mark c.args.kind k.rows.now _ (every-at (row_ruled c.args.kind k.rows.now) k.order.now c.loop-place.place-index c.loop-place-test.true c.requires.each)

pub overflow_add-t : goal.overflow_add-t
overflow_add-t c = omega (arith, c.entry_size-t.ensures.1)

pub loop-place-preserved : goal.loop-place-preserved
loop-place-preserved c =
    let k = c.args.keys in
    let next = sizes-next c.args.kind k.rows.now k.order.now c.loop-place.place-index c.loop-place-test.true in
    record { most = omega (arith, c.entry_size-t.ensures.1); rest = omega (arith, c.entry_size-t.ensures.0) }

pub returns : goal.returns
returns c =
    let k = c.args.keys in
    let past = sizes-past c.args.kind k.rows.now k.order.now c.loop-place.place-index c.loop-place-test.false in
    (omega arith, omega arith)
