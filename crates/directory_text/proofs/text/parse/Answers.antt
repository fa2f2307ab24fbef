-- `parse` meets its contract. Assumes nothing.
use mathlib.Core.Path.{sym, ap, ◌∙◌}
use Prim.Native.Nat.{◌<◌}
use native.Mathlib.Omega.{arith}
use borrow.Author.Tests.{eqb-true, eqb-false}
use lib.ListN.{length, drop}
use Rattle.directory_text.specs.Text.{parse}
use Rattle.directory_text.proofs.Laws.{line-shorter}
use Rattle.directory_text.proofs.Lines.{parse-fault, parse-goes, parse_end}
use Rattle.directory_text.proofs.text.parse.Goals as goal

pub loop-rest-init : goal.loop-rest-init
unfolding parse
loop-rest-init c = record { few = omega arith; left = rw c.new-directory.ensures }

pub loop-rest-smaller : goal.loop-rest-smaller
loop-rest-smaller c =
    let some : 0 < length c.loop-rest.rest.now = omega (arith, eqb-false _ 0 (sym c.loop-rest-test.ensures)) in
    let e = c.behind_one-rest.ensures ∙ ap (drop 1) c.split_before.ensures.rest in
    rw e (line-shorter c.loop-rest.rest.now some)

pub returns-in-Err : goal.returns-in-Err
returns-in-Err c =
    let l = c.loop-rest in
    let some : 0 < length l.rest.now = omega (arith, eqb-false _ 0 (sym c.loop-rest-test.ensures)) in
    sym (parse-fault l.line l.directory l.rest.now c.split_before.result.0.now some c.split_before.ensures.before (sym c.with_line.ensures ∙ c.in-Err.is)) ∙ l.invariant.left

pub loop-rest-preserved : goal.loop-rest-preserved
loop-rest-preserved c =
    let l = c.loop-rest in
    let some : 0 < length l.rest.now = omega (arith, eqb-false _ 0 (sym c.loop-rest-test.ensures)) in
    let behind = c.behind_one-rest.ensures ∙ ap (drop 1) c.split_before.ensures.rest in
    let shorter : length c.behind_one-rest.result.now < length l.rest.now = rw behind (line-shorter l.rest.now some) in
    record {
      few = omega (arith, l.invariant.few);
      left =
          sym (parse-goes l.line l.directory l.rest.now c.split_before.result.0.now some c.split_before.ensures.before (sym c.with_line.ensures ∙ c.in-Ok.is) behind)
          ∙ l.invariant.left;
    }

pub returns : goal.returns
returns c = sym (parse_end _ _ c.loop-rest.rest.now (eqb-true _ 0 (sym c.loop-rest-test.ensures))) ∙ c.loop-rest.invariant.left
