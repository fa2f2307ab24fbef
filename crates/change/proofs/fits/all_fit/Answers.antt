-- `all_fit` meets its contract. The invariant: the places from there on fit exactly if all do, and what was found is the last table's.
-- Assumes nothing.
use mathlib.Core.Path.{sym, ◌∙◌, refl}
use mathlib.Core.List.{[]}
use native.Mathlib.Omega.{arith}
use lib.ListN.{get_or}
use Rattle.overlay.specs.Rules.{row_ruled, lists_of}
use Rattle.change.specs.Change.{entry_fits}
use Rattle.change.proofs.Fitting.{entry-fits, row_small, every-at, every-next, every-past}
use Rattle.change.proofs.fits.all_fit.Goals as goal

pub loop-place-init : goal.loop-place-init
loop-place-init c = record { found = c.find-found.ensures; rest = refl }

pub overflow_cast-table : goal.overflow_cast-table
overflow_cast-table c =
    let k = c.args.keys in
    omega (arith, row_small c.args.kind k.rows.now _ (every-at (row_ruled c.args.kind k.rows.now) k.order.now c.loop-place.place-index c.loop-place-test.true c.requires))

pub returns-then-not-key_fits : goal.returns-then-not-key_fits
returns-then-not-key_fits c =
    let a = c.args in
    let o = lists_of a.keys.rows.now [] [] 0 in
    let e = entry-fits a.directory a.kind o (get_or a.keys.order.now c.loop-place.place-index 0) _ c.table_after-found.ensures in
    sym (sym c.loop-place.invariant.rest ∙ every-next (entry_fits a.directory a.kind o) _ _ c.loop-place-test.true ∙ rw (sym e ∙ sym c.key_fits.ensures ∙ c.if-not-key_fits.true))

pub loop-place-preserved : goal.loop-place-preserved
loop-place-preserved c =
    let a = c.args in
    let o = lists_of a.keys.rows.now [] [] 0 in
    let e = entry-fits a.directory a.kind o (get_or a.keys.order.now c.loop-place.place-index 0) _ c.table_after-found.ensures in
    let next = every-next (entry_fits a.directory a.kind o) _ _ c.loop-place-test.true in
    record { found = c.table_after-found.ensures; rest = rw (sym e ∙ sym c.key_fits.ensures ∙ c.if-not-key_fits.false) at (sym next ∙ c.loop-place.invariant.rest) }

pub returns : goal.returns
returns c = sym (sym c.loop-place.invariant.rest ∙ every-past _ _ _ c.loop-place-test.false)
