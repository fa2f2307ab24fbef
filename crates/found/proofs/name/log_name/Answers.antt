-- `log_name` meets its contract: a return at a time. Assumes nothing.
use Rattle.std.proofs.Common.{◌≡◌, ℕ, true, false, ◌∙◌, sym, arith}
use borrow.Author.Tests.{le-ltb, eqb-true, eqb-false}
use Rattle.found.specs.Names.{log_name}
use Rattle.found.proofs.NameLaws.{begins_not, name-short, name_zero, name_digits}
use Rattle.found.proofs.name.log_name.Goals as goal
use Rattle.found.proofs.name.log_name.Goals.{then-is_empty-via-then-is_empty, then-is_empty-via-else-is_empty+then-digits-eq48, then-digits-gt1, else-digits-gt1}

pub returns-in_err-digits : goal.returns-in_err-digits
unfolding log_name
returns-in_err-digits c = c.from_residual.ensures ∙ rw (begins_not c.args.name.now c.in_err-digits.ensures.cases)

pub returns-then-is_empty : goal.returns-then-is_empty
returns-then-is_empty c =
    let d = c.in_ok-digits in
    let p = d.ensures.cases in
    elim c.then-is_empty.branch [
      | then-is_empty-via-then-is_empty w ↦ sym (name-short _ _ p.0 p.1 p.2 (eqb-true _ 0 (sym c.is_empty.ensures ∙ w.if-is_empty.true)))
      | then-is_empty-via-else-is_empty+then-digits-eq48 w ↦ elim w.if-digits-gt1.branch [
        | then-digits-gt1 v ↦ sym (name_zero _ _ p.0 p.1 p.2 v.if-digits-gt1.true (eqb-true _ 48 (sym v.value-is ∙ w.if-digits-eq48.true)))
        | else-digits-gt1 v ↦ let e : true ≡ false = sym w.if-digits-eq48.true ∙ v.value-is ∙ le-ltb 1 _ v.if-digits-gt1.false in let z : ◌≡◌ {A = ℕ} 0 1 = cc in absurd (omega arith)
      ]
    ]

pub returns : goal.returns
returns c =
    let d = c.in_ok-digits in
    let p = d.ensures.cases in
    c.decimal.ensures ∙ sym (name_digits c.args.name.now _ p.0 p.1 p.2 (eqb-false _ 0 (sym c.is_empty.ensures ∙ c.if-is_empty.false)) (λ h k. elim c.if-digits-gt1.branch [ then-digits-gt1 v ↦ eqb-false _ 48 (sym v.value-is ∙ c.if-digits-eq48.false) k | else-digits-gt1 v ↦ omega (arith, v.if-digits-gt1.false) ]))
