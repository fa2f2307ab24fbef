-- `check_all` meets its contract. Assumes nothing.
use mathlib.Core.Path.{sym, ◌∙◌}
use native.Mathlib.Omega.{arith}
use Rattle.std.proofs.lemmas.Result.{err_from_is_err_and}
use Rattle.checker.proofs.Sound.{went_stands}
use Rattle.checker.proofs.Ways.{step-forward, check_went}
use Rattle.checker.proofs.walk.check_all.Goals as goal

pub returns-in_err-next : goal.returns-in_err-next
returns-in_err-next c =
    let l = c.loop-next in
    let a = c.args in
    let p = err_from_is_err_and c.from_residual.result c.from_residual.ensures.1 in
    rw (p.1, p.2) (check_went a.d a.log.now a.base l.cur _ c.in_err-next.ensures ∙ l.invariant.1)

pub loop-next-smaller : goal.loop-next-smaller
loop-next-smaller c =
    let l = c.loop-next in
    let a = c.args in
    let o = step-forward a.d a.log.now a.base l.cur c.in-Some.next (sym (rw c.in-Some.is at c.in_ok-next.ensures)) in
    omega (arith, o.forward, o.inside)

pub loop-next-preserved : goal.loop-next-preserved
loop-next-preserved c =
    let l = c.loop-next in
    let a = c.args in
    let e = rw c.in-Some.is at c.in_ok-next.ensures in
    (went_stands a.d a.log.now a.base l.cur _ l.invariant.0 (sym e), check_went a.d a.log.now a.base l.cur _ e ∙ l.invariant.1)

pub returns : goal.returns
returns c =
    let l = c.loop-next in
    let a = c.args in
    check_went a.d a.log.now a.base l.cur _ (rw c.in_default.is at c.in_ok-next.ensures) ∙ l.invariant.1
