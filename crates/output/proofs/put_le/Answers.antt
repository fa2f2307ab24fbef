-- `put_le` meets its contract. The invariant: the bytes of what is left of the number are left to write. Assumes nothing.
use Rattle.std.proofs.Common.{◌≡◌, ◌+◌, ◌-◌, ◌<◌, ◌%◌, ◌/◌, List, ℕ, suc, length, set, arith}
use Rattle.output.specs.Put.{Wrote, le}
use Rattle.output.proofs.Laws.{rest, stored, all_left, none_left}
use Rattle.output.proofs.put_le.Goals as goal

-- one byte more
turn : (l : List ℕ) (o e v : ℕ) (f : List ℕ) (z : ℕ) → o < e → o < length l → Wrote l o (le (e - o) v) f z → Wrote (set l o (v % 256)) (o + 1) (le (e - (o + 1)) (v / 256)) f z
unfolding le
turn l o e v f z h k w =
    let s : e - o ≡ suc (e - (o + 1)) = omega arith in
    rest (rw s at w) (stored l o (v % 256) k)

pub loop-o-init : goal.loop-o-init
loop-o-init c =
    let e : c.args.at + c.args.n - c.args.at ≡ c.args.n = omega arith in
    rw e (all_left _ _ _)

pub loop-o-preserved : goal.loop-o-preserved
loop-o-preserved c = turn _ _ (c.args.at + c.args.n) _ _ _ (omega arith) (omega arith) c.loop-o.invariant

pub returns : goal.returns
unfolding le
returns c =
    let e : c.args.at + c.args.n - c.loop-o.o ≡ 0 = omega arith in
    let o : c.loop-o.o ≡ c.args.at + c.args.n = omega arith in
    let w : Wrote c.args.out.now c.args.at (le c.args.n c.args.x) c.loop-o.out c.loop-o.o = none_left (rw e at c.loop-o.invariant) in
    rw o at w
