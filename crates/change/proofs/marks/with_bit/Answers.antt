-- `with_bit` meets its contract: a slot below 64 is a bit of the word. Assumes nothing.
use Prim.Native.Nat.{ℕ, ◌^◌, ◌%◌}
use mathlib.Core.Path.{ap, ◌∙◌}
use native.Mathlib.Nat.{mod-eq_of_lt, one-mul}
use lib.Pow.{pow-lt}
use lib.Bits.{bit_or}
use Rattle.change.proofs.marks.with_bit.Goals as goal

pub returns : goal.returns
returns c =
    let s = c.args.sub in
    ap (bit_or c.args.mask) (ap (λ (k : ℕ). k % 2 ^ 64) (one-mul (2 ^ s)) ∙ mod-eq_of_lt {n = 2 ^ s} {m = 2 ^ 64} (pow-lt c.requires))
