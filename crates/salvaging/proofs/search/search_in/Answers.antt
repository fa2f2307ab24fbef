-- `search_in` meets its contract. Assumes nothing.
use mathlib.Core.Path.{sym, ◌∙◌}
use native.Mathlib.Omega.{arith}
use Rattle.salvaging.proofs.Seeking.{seeks_record, seeks_open, seeks_on, seeks_nothing}
use Rattle.salvaging.proofs.search.search_in.Goals as goal

pub returns-in-Ok : goal.returns-in-Ok
returns-in-Ok c =
    let a = c.args in
    let l = c.loop-at in
    seeks_record a.more a.directory.now a.log.now a.from l.rest l.invariant.0 l.invariant.1 c.in-Some.at c.in-Some.ensures _ c.in-Ok.ensures

pub returns-then-is_open : goal.returns-then-is_open
returns-then-is_open c =
    let a = c.args in
    let l = c.loop-at in
    seeks_open a.more a.directory.now a.log.now a.from l.rest l.invariant.0 l.invariant.1 c.in-Some.at c.in-Some.ensures _ c.in-Err.ensures (sym c.is_open.ensures ∙ c.if-is_open.true)

pub loop-at-preserved : goal.loop-at-preserved
loop-at-preserved c =
    let a = c.args in
    let l = c.loop-at in (
      omega (arith, l.invariant.0, c.in-Some.ensures.behind),
      seeks_on a.more a.directory.now a.log.now a.from l.rest l.invariant.0 l.invariant.1 c.in-Some.at c.in-Some.ensures _ c.in-Err.ensures (sym c.is_open.ensures ∙ c.if-is_open.false),
    )

pub loop-at-smaller : goal.loop-at-smaller
loop-at-smaller c = omega (arith, c.in-Some.ensures.behind, c.in-Some.ensures.there)

pub returns : goal.returns
returns c =
    let a = c.args in
    let l = c.loop-at in
    seeks_nothing a.more a.directory.now a.log.now a.from l.rest l.invariant.0 l.invariant.1 c.in_default.ensures
