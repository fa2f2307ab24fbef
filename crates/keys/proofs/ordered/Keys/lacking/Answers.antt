-- `Keys::lacking` meets its contract. The invariant: the count so far and the keys that are lacking of what is left are the whole. Assumes nothing.
use Rattle.std.proofs.Common.{arith, ◌≡◌, ◌+◌, ◌<◌, ◌≤◌, ◌∙◌, sym, ap, length, drop, get_or, ℕ, List}
use Rattle.keys.specs.Keys.{holds}
use Rattle.keys.specs.Lent.{keys_in}
use Rattle.keys.proofs.Lent.{keys_in-length, keys_in-rise}
use Rattle.keys.proofs.Union.{skipped, met, missed, news-end}
use Rattle.keys.proofs.ordered.Keys.lacking.Goals as goal
use Rattle.keys.proofs.ordered.Keys.lacking.Goals.{then-loop-i-test+else-rank, else-loop-i-test, then-not-stands, else-not-stands}

pub loop-i-preserved : goal.loop-i-preserved
loop-i-preserved c =
    let a = c.args in
    c.loop-i.invariant
    ∙ ap (λ (n : ℕ). c.loop-j.lacking + n)
    (skipped (keys_in a.self) (keys_in a.listed) c.loop-i.i c.loop-j.j (keys_in-rise a.self) (keys_in-rise a.listed) (omega (arith, keys_in-length a.listed)) (omega (arith, keys_in-length a.self)) (omega (arith, c.if-rank.true, c.rank.ensures, c.rank-in-loop-i.ensures, c.key.ensures, c.key-key.ensures)))

pub loop-j-preserved : goal.loop-j-preserved
loop-j-preserved c =
    let s : List ℕ = keys_in c.args.self in
    let w : List ℕ = keys_in c.args.listed in
    let i = c.loop-i.i in
    let j = c.loop-j.j in
    let up = keys_in-rise c.args.self in
    let vp = keys_in-rise c.args.listed in
    let h : j < length w = omega (arith, keys_in-length c.args.listed) in
    let above : i < length s → get_or w j 0 ≤ get_or s i 0 = λ k. elim c.loop-i-test.branch [
      | then-loop-i-test+else-rank v ↦
          omega (arith, v.if-rank.false, v.rank.ensures, v.rank-in-loop-i.ensures, v.key.ensures, c.key-key.ensures)
      | else-loop-i-test v ↦ absurd (omega (arith, k, keys_in-length c.args.self))
    ] in
    let k : holds (get_or w j 0) i s ≡ c.stands.result = ap (λ (x : ℕ). holds x i s) (sym c.key-key.ensures) ∙ sym c.stands.ensures.value in
    elim c.if-not-stands.branch [
      | then-not-stands v ↦ record {
        bound = omega arith;
        rest = c.loop-i.invariant ∙ omega (arith, v.lacking-is, missed s w i j up vp h above (k ∙ v.if-not-stands.true));
      }
      | else-not-stands v ↦ record {
        bound = omega arith;
        rest = c.loop-i.invariant ∙ omega (arith, v.lacking-is, met s w i j up vp h above (k ∙ v.if-not-stands.false));
      }
    ]

pub returns : goal.returns
returns c =
    omega (arith, c.loop-j.invariant.rest, news-end (drop c.loop-j.i (keys_in c.args.self)) (keys_in c.args.listed) c.loop-j.j (omega (arith, keys_in-length c.args.listed)))
