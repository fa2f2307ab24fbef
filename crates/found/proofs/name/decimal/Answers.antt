-- `decimal` meets its contract. The invariant: what is left of the digits, behind those passed, makes the number of all. Assumes nothing.
use Rattle.std.proofs.Common.{◌+◌, ◌*◌, sym, ◌∙◌, drop, arith}
use Rattle.found.proofs.NameLaws.{digit_some, digit_none, digits_large, digits-end, digits_more, digits-stop}
use Rattle.found.proofs.name.decimal.Goals as goal

pub returns-in_err-n : goal.returns-in_err-n
returns-in_err-n c =
    let l = c.loop-b in
    c.from_residual.ensures ∙ sym (digits-stop l.n c.args.digits.now l.b-index c.loop-b-test.true (digit_none _ _ c.digit.ensures c.in_err-n.was)) ∙ l.invariant.1

pub overflow_add-n : goal.overflow_add-n
overflow_add-n c = let d = digit_some _ _ _ c.digit.ensures c.in_ok-n.was in omega (arith, d.low, c.loop-b.invariant.0)

pub returns-then-n-gt4294967295 : goal.returns-then-n-gt4294967295
returns-then-n-gt4294967295 c =
    let l = c.loop-b in
    let d = digit_some _ _ _ c.digit.ensures c.in_ok-n.was in
    sym (digits_more l.n c.args.digits.now l.b-index c.loop-b-test.true _ d ∙ digits_large (10 * l.n + c.in_ok-n.field-0) (drop (l.b-index + 1) c.args.digits.now) (omega (arith, c.if-n-gt4294967295.true)))
    ∙ l.invariant.1

pub loop-b-preserved : goal.loop-b-preserved
loop-b-preserved c =
    let l = c.loop-b in
    let d = digit_some _ _ _ c.digit.ensures c.in_ok-n.was in
    (omega (arith, c.if-n-gt4294967295.false), sym (digits_more l.n c.args.digits.now l.b-index c.loop-b-test.true _ d) ∙ l.invariant.1)

pub returns : goal.returns
returns c =
    let l = c.loop-b in
    sym (digits-end l.n c.args.digits.now l.b-index c.loop-b-test.false l.invariant.0) ∙ l.invariant.1
