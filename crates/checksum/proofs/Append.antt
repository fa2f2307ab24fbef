-- The checksum of two byte strings put together, from theirs. Assumes nothing.
use mathlib.Core.Path.{◌≡◌, refl, sym, ap, ◌∙◌}
use mathlib.Core.List.{List, [], ◌∷◌, ◌++◌}
use Prim.Native.Nat.{ℕ, ◌+◌, ◌-◌, ◌*◌, ◌^◌, ◌<◌}
use native.Mathlib.Nat.{mod-eq_of_lt}
use native.Mathlib.Omega.{arith}
use lib.Bits.{bit_xor, xor_comm, xor_self, xor_zero_r, xor_add_and, and_mask}
use lib.ListN.{length}
use Rattle.checksum.specs.Checksum.{all_ones, bits_in_of, updated, finished, checksum_of}
use Rattle.checksum.specs.Tables.{shifts}
use Rattle.checksum.proofs.Register.{bits_xor, shifts-byte, updated-append, updated-lt}
use Rattle.checksum.proofs.Xor.{xor_assoc}

less-of : (y x n : ℕ) → y + x * 2 ≡ x + n → n - x ≡ y
less-of y x n e = omega arith

-- all ones less a number of 32 bits is that number with its bits turned
pub inverted : (x : ℕ) → x < 2 ^ 32 → finished x ≡ bit_xor all_ones x
unfolding finished
inverted x h =
    less-of (bit_xor x all_ones) x all_ones
    (ap (λ (z : ℕ). bit_xor x all_ones + z * 2) (sym (and_mask x 32 ∙ mod-eq_of_lt h)) ∙ xor_add_and x all_ones)
    ∙ xor_comm x all_ones

-- two registers before the same bytes
pub updated_xor : (r s : ℕ) (bs : List ℕ) → updated (bit_xor r s) bs ≡ bit_xor (shifts (8 * length bs) r) (updated s bs)
unfolding updated shifts
updated_xor r s [] = refl
updated_xor r s (b ∷ bs) =
    ap (λ (x : ℕ). updated x bs) (bits_xor 8 r s b)
    ∙ updated_xor (shifts 8 r) (bits_in_of 8 s b) bs
    ∙ ap (λ (x : ℕ). bit_xor x (updated (bits_in_of 8 s b) bs)) (shifts-byte (length bs) r)

back : (u : ℕ) → u < 2 ^ 32 → u ≡ bit_xor (finished u) all_ones
back u h =
    sym (ap (λ (z : ℕ). bit_xor z all_ones) (inverted u h ∙ xor_comm all_ones u)
    ∙ xor_assoc u all_ones all_ones
    ∙ ap (bit_xor u) (xor_self all_ones)
    ∙ xor_zero_r u)

pub checksum_append : (a b : List ℕ) → checksum_of (a ++ b) ≡ bit_xor (shifts (8 * length b) (checksum_of a)) (checksum_of b)
unfolding checksum_of
checksum_append a b =
    let u : ℕ = updated all_ones a in
    let v : ℕ = updated all_ones b in
    let w : ℕ = shifts (8 * length b) (finished u) in
    inverted (updated all_ones (a ++ b)) (updated-lt all_ones (a ++ b) (omega arith))
    ∙ ap (bit_xor all_ones)
    (updated-append all_ones a b
    ∙ ap (λ (z : ℕ). updated z b) (back u (updated-lt all_ones a (omega arith)))
    ∙ updated_xor (finished u) all_ones b)
    ∙ sym (xor_assoc all_ones w v)
    ∙ ap (λ (z : ℕ). bit_xor z v) (xor_comm all_ones w)
    ∙ xor_assoc w all_ones v
    ∙ ap (bit_xor w) (sym (inverted v (updated-lt all_ones b (omega arith))))
