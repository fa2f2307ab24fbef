-- x^300 + x^155 + x^117 + x^89 + 1 is a multiple of the polynomial: moved 300 places, a number is the sum of what it is moved 155, 117, 89
-- and no places. Assumes nothing.
use mathlib.Core.Path.{◌≡◌, refl, sym, ap, ap₂, ◌∙◌}
use Prim.Native.Nat.{ℕ, zero, suc, ◌+◌, ◌*◌, ◌/◌, ◌%◌, ◌^◌, ◌≤◌, ◌<◌}
use native.Mathlib.Numerals.{add-one}
use native.Mathlib.Omega.{arith}
use lib.Arith.{lt-one}
use lib.Bits.{bit_xor}
use lib.Pow.{shr_lt}
use Rattle.checksum.specs.Checksum.{shift}
use Rattle.checksum.specs.Inner.{spread}
use Rattle.checksum.specs.Tables.{shifts}
use Rattle.checksum.proofs.Register.{shifts_xor, shifts_add, shifts-up, shifts-parts, shifts-zero}
use Rattle.checksum.proofs.Xor.{mod_two, xor_swap}

abbrev four : (ℕ → ℕ) → ℕ
four f = bit_xor (bit_xor (f 155) (f 117)) (bit_xor (f 89) (f 0))

four_same : (f g : ℕ → ℕ) → ((k : ℕ) → f k ≡ g k) → four f ≡ four g
four_same f g h = ap₂ bit_xor (ap₂ bit_xor (h 155) (h 117)) (ap₂ bit_xor (h 89) (h 0))

four_xor : (f g : ℕ → ℕ) → bit_xor (four f) (four g) ≡ four (λ k. bit_xor (f k) (g k))
four_xor f g =
    xor_swap (bit_xor (f 155) (f 117)) (bit_xor (f 89) (f 0)) (bit_xor (g 155) (g 117)) (bit_xor (g 89) (g 0))
    ∙ ap₂ bit_xor (xor_swap (f 155) (f 117) (g 155) (g 117)) (xor_swap (f 89) (f 0) (g 89) (g 0))

four-shifts : (m : ℕ) (f : ℕ → ℕ) → shifts m (four f) ≡ four (λ k. shifts m (f k))
four-shifts m f =
    shifts_xor m (bit_xor (f 155) (f 117)) (bit_xor (f 89) (f 0))
    ∙ ap₂ bit_xor (shifts_xor m (f 155) (f 117)) (shifts_xor m (f 89) (f 0))

-- a number of one bit
unit : shifts 300 1 ≡ four (λ k. shifts k 1)
unfolding shifts shift
unit = refl

digit : (b m : ℕ) → b < 2 → shifts (300 + m) b ≡ four (λ k. shifts (k + m) b)
digit zero m h = shifts-zero (300 + m) ∙ sym (four_same (λ k. shifts (k + m) 0) (λ k. 0) (λ k. shifts-zero (k + m)))
digit (suc zero) m h =
    shifts_add 300 m 1
    ∙ ap (shifts m) unit
    ∙ four-shifts m (λ k. shifts k 1)
    ∙ four_same (λ k. shifts m (shifts k 1)) (λ k. shifts (k + m) 1) (λ k. sym (shifts_add k m 1))
digit (suc (suc b)) m h = absurd (big h)
  where
    big : suc (suc b) < 2 → ⊥
    big h = omega arith

-- the lowest bit apart
lowest : (k m w : ℕ) → shifts (k + suc m) w ≡ bit_xor (shifts (k + m) (w / 2)) (shifts (k + suc m) (w % 2))
lowest k m w =
    let e : 1 + (k + m) ≡ k + suc m = omega arith in
    ap (λ (n : ℕ). shifts n w) (sym e)
    ∙ shifts-parts 1 (k + m) w
    ∙ ap (λ (n : ℕ). bit_xor (shifts (k + m) (w / 2)) (shifts n (w % 2))) e

multiple : (n m w : ℕ) → w < 2 ^ n → n ≤ m → shifts (300 + m) w ≡ four (λ k. shifts (k + m) w)
multiple zero m w h l = ap (λ (x : ℕ). shifts (300 + m) x) (lt-one h) ∙ digit 0 m (omega arith) ∙ ap (λ (x : ℕ). four (λ k. shifts (k + m) x)) (sym (lt-one h))
multiple (suc n) zero w h l = absurd (omega arith)
multiple (suc n) (suc m) w h l =
    lowest 300 m w
    ∙ ap₂ bit_xor (multiple n m (w / 2) (half h) (omega arith)) (digit (w % 2) (suc m) (mod_two w))
    ∙ four_xor (λ k. shifts (k + m) (w / 2)) (λ k. shifts (k + suc m) (w % 2))
    ∙ four_same (λ k. bit_xor (shifts (k + m) (w / 2)) (shifts (k + suc m) (w % 2))) (λ k. shifts (k + suc m) w) (λ k. sym (lowest k m w))
  where
    half : w < 2 ^ suc n → w / 2 < 2 ^ n
    half h = shr_lt n 1 (rw (add-one n) h)

-- so a word may stand further on, if enough places are left
pub carried_on : (j w : ℕ) → w < 2 ^ 64 → 64 ≤ j → shifts (64 + (236 + j)) w ≡ shifts (236 + j) (spread w)
carried_on j w h l =
    let e : 64 + (236 + j) ≡ 300 + j = omega arith in
    ap (λ (n : ℕ). shifts n w) e
    ∙ multiple 64 j w h l
    ∙ sym (shifts_xor (236 + j) (bit_xor (w * 2 ^ 81) (w * 2 ^ 119)) (bit_xor (w * 2 ^ 147) (w * 2 ^ 236))
    ∙ ap₂ bit_xor
    (shifts_xor (236 + j) (w * 2 ^ 81) (w * 2 ^ 119) ∙ ap₂ bit_xor (back 81 155 (omega arith)) (back 119 117 (omega arith)))
    (shifts_xor (236 + j) (w * 2 ^ 147) (w * 2 ^ 236) ∙ ap₂ bit_xor (back 147 89 (omega arith)) (back 236 0 (omega arith))))
  where
    back : (n k : ℕ) → 236 + j ≡ n + (k + j) → shifts (236 + j) (w * 2 ^ n) ≡ shifts (k + j) w
    back n k e = ap (λ (m : ℕ). shifts m (w * 2 ^ n)) e ∙ shifts_add n (k + j) (w * 2 ^ n) ∙ ap (shifts (k + j)) (shifts-up n w)
