-- `ascending` meets its contract. The invariant: the keys from the one before j on rise exactly if all do. Assumes nothing.
use Rattle.std.proofs.Common.{arith, ◌≡◌, ◌+◌, ◌-◌, ◌∙◌, sym, ap}
use borrow.Author.Tests.{lt-ltb, le-ltb}
use Rattle.keys.specs.Keys.{rank_of}
use Rattle.keys.proofs.Rising.{not_under, in_rows, stays, falls, falling, rules-all}
use Rattle.keys.proofs.ordered.ascending.Goals as goal

pub returns-then-not-all_below : goal.returns-then-not-all_below
returns-then-not-all_below c = sym (not_under c.args.rows.now c.args.order.now (sym c.all_below.ensures ∙ c.if-not-all_below.true))

pub key_in-requires : goal.key_in-requires
key_in-requires c = in_rows c.args.rows.now c.args.order.now (sym c.all_below.ensures ∙ c.if-not-all_below.false) c.requires c.loop-j.j (omega arith)

pub key_in-before-requires : goal.key_in-before-requires
key_in-before-requires c = in_rows c.args.rows.now c.args.order.now (sym c.all_below.ensures ∙ c.if-not-all_below.false) c.requires (c.loop-j.j - 1) (omega arith)

pub returns-then-rank : goal.returns-then-rank
returns-then-rank c =
    let r = c.args.rows.now in
    let o = c.args.order.now in
    let j = c.loop-j.j in
    let low = c.rank-in-loop-j.ensures ∙ ap rank_of c.key_in-before.ensures in
    let high = c.rank.ensures ∙ ap rank_of c.key_in.ensures in
    sym (falling r o j c.loop-j.invariant (falls r o j (omega arith) (omega arith) (le-ltb _ _ (omega (arith, low, high, c.if-rank.true)))))

pub loop-j-preserved : goal.loop-j-preserved
loop-j-preserved c =
    let r = c.args.rows.now in
    let o = c.args.order.now in
    let j = c.loop-j.j in
    let low = c.rank-in-loop-j.ensures ∙ ap rank_of c.key_in-before.ensures in
    let high = c.rank.ensures ∙ ap rank_of c.key_in.ensures in
    let e : j + 1 - 1 ≡ j = omega arith in
    c.loop-j.invariant ∙ stays r o j (omega arith) (omega arith) (lt-ltb _ _ (omega (arith, low, high, c.if-rank.false))) ∙ rw e

pub returns : goal.returns
returns c =
    sym (rules-all c.args.rows.now c.args.order.now (sym c.all_below.ensures ∙ c.if-not-all_below.false) c.loop-j.j (omega arith) c.loop-j.invariant)
