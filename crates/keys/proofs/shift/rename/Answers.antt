-- `rename` meets its contract. The invariant: what is left to name makes the list. Assumes nothing.
use Rattle.std.proofs.Common.{◌≡◌, ◌+◌, ◌∙◌, sym, ap, arith, get_or, set, ℕ}
use Rattle.keys.specs.Keys.{renamed}
use Rattle.keys.proofs.Gap.{rename_from, rename_all_lem, rename_more, rename_end, name-hit, name-miss}
use Rattle.keys.proofs.shift.rename.Goals as goal
use Rattle.keys.proofs.shift.rename.Goals.{then-order-i, else-order-i}

pub loop-i-init : goal.loop-i-init
loop-i-init c = rename_all_lem c.args.n c.args.from c.args.to c.args.order.now

pub loop-i-preserved : goal.loop-i-preserved
loop-i-preserved c =
    let a = c.args in
    let l = c.loop-i in
    let v : ℕ = get_or l.order l.i 0 in
    let named : c.if-order-i.order ≡ renamed a.from a.to v = elim c.if-order-i.branch [
      | then-order-i w ↦ w.order-is ∙ sym (name-hit a.from a.to v w.if-order-i.true)
      | else-order-i w ↦ w.order-is ∙ sym (name-miss a.from a.to v w.if-order-i.false)
    ] in
    ap (λ (x : ℕ). rename_from (l.i + 1) a.n a.from a.to (set l.order l.i x)) named ∙ sym (rename_more l.i a.n a.from a.to l.order (omega arith) (omega arith)) ∙ l.invariant

pub returns : goal.returns
returns c =
    let a = c.args in
    let e : c.loop-i.i ≡ a.n = omega arith in
    sym (rename_end a.n a.from a.to c.loop-i.order) ∙ (rw e at c.loop-i.invariant)
