-- `keys_ruled` meets its contract: the first place, then those that follow it. Assumes nothing.
use Rattle.std.proofs.Common.{◌≡◌, ◌∙◌, sym, ap, arith, true, false, get_or}
use borrow.Author.Tests.{lt-leb, lt-ltb, le-ltb}
use Rattle.std.proofs.lemmas.Slice.{between_is}
use Rattle.keys.specs.Keys.{key_at}
use Rattle.overlay.specs.Rules.{keys_ruled}
use Rattle.overlay.specs.Inner.{followed}
use Rattle.overlay.proofs.Pass.{ruled-none, ruled-by}
use Rattle.overlay.proofs.rules.keys_ruled.Goals as goal
use Rattle.overlay.proofs.rules.keys_ruled.Goals.{then-p-n, else-p-n}

pub returns-then-room-n : goal.returns-then-room-n
unfolding keys_ruled
returns-then-room-n c = rw (lt-leb _ _ c.if-room-n.true)

pub returns-then-n-eq0 : goal.returns-then-n-eq0
returns-then-n-eq0 c =
    let a = c.args in
    sym (ruled-none a.kind a.rows.now (λ i. omega (arith, c.type_inv.rows i)) a.room a.order.now a.n c.if-n-eq0.true)

pub returns-then-within : goal.returns-then-within
returns-then-within c =
    let a = c.args in
    let r = a.rows.now in
    let o = a.order.now in
    let most = c.most_mark-most.result in
    let whole = ruled-by a.kind r (λ i. omega (arith, c.type_inv.rows i)) a.room o a.n (omega arith) (omega arith) (omega arith) most c.most_mark-most.ensures in
    elim c.if-p-n.branch [
      | then-p-n w ↦
          c.rows_follow.ensures
          ∙ ap (followed most r a.n (key_at r (get_or o 0 0))) (between_is o 1 a.n)
          ∙ sym (whole ∙ rw (lt-ltb _ _ w.if-p-n.true, sym w.within.ensures ∙ sym w.value-is ∙ c.if-within.true))
      | else-p-n w ↦ let z : true ≡ false = sym c.if-within.true ∙ w.value-is ∙ le-ltb _ _ w.if-p-n.false in cc
    ]

pub returns-else-within : goal.returns-else-within
returns-else-within c =
    let a = c.args in
    let r = a.rows.now in
    let o = a.order.now in
    let most = c.most_mark-most.result in
    let whole = ruled-by a.kind r (λ i. omega (arith, c.type_inv.rows i)) a.room o a.n (omega arith) (omega arith) (omega arith) most c.most_mark-most.ensures in
    elim c.if-p-n.branch [
      | then-p-n w ↦ c.if-within.false ∙ sym (whole ∙ rw (lt-ltb _ _ w.if-p-n.true, sym w.within.ensures ∙ sym w.value-is ∙ c.if-within.false))
      | else-p-n w ↦ c.if-within.false ∙ sym (whole ∙ rw (le-ltb _ _ w.if-p-n.false))
    ]
