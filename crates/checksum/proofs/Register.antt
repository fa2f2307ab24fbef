-- Laws of the register: it is linear over `bit_xor`, so what a byte does to it can be looked up. Assumes nothing.
use mathlib.Core.Path.{◌≡◌, refl, sym, ap, ap₂, ◌∙◌, subst}
use mathlib.Core.List.{List, [], ◌∷◌, ◌++◌}
use Prim.Native.Nat.{ℕ, zero, suc, ◌+◌, ◌*◌, ◌/◌, ◌%◌, ◌^◌, ◌≤◌, ◌<◌}
use native.Mathlib.Nat.{zero-add, suc-add, add_comm, mul_assoc, mul-one, mul-suc, mod-lt, pow-suc, mul-div_cancel, mul-mod_left, div-eq_of_lt}
use native.Mathlib.Numerals.{add-one}
use native.Mathlib.Omega.{arith}
use lib.Arith.{lt-one}
use lib.Bits.{bit_xor, differ, xor_comm, xor_zero_r, xor_lt, xor_shr, xor_shifted}
use lib.ListN.{length, drop, get_or, drop_of_length-le}
use lib.Pow.{split, pow_pos, shr_lt}
use lib.Seq.{drop-cons}
use Rattle.checksum.specs.Checksum.{poly, shift, bits_in_of, updated}
use Rattle.checksum.specs.Tables.{shifts}
use Rattle.checksum.proofs.Xor.{mod_two, xor_half, xor_odd, xor_assoc, xor_swap}

-- ---- the register is linear

big : {x : ℕ} → suc (suc x) < 2 → ⊥
big h = omega arith

poly-digit : (x y : ℕ) → x < 2 → y < 2 → differ x y * poly ≡ bit_xor (x * poly) (y * poly)
poly-digit zero y hx hy = refl
poly-digit (suc zero) zero hx hy = refl
poly-digit (suc zero) (suc zero) hx hy = refl
poly-digit (suc zero) (suc (suc y)) hx hy = absurd (big hy)
poly-digit (suc (suc x)) y hx hy = absurd (big hx)

pub shift_xor : (a b : ℕ) → shift (bit_xor a b) ≡ bit_xor (shift a) (shift b)
unfolding shift
shift_xor a b =
    ap₂ (λ (x y : ℕ). bit_xor x (y * poly)) (xor_half a b) (xor_odd a b)
    ∙ ap (bit_xor (bit_xor (a / 2) (b / 2))) (poly-digit (a % 2) (b % 2) (mod_two a) (mod_two b))
    ∙ xor_swap (a / 2) (b / 2) (a % 2 * poly) (b % 2 * poly)

pub shift-up : (y : ℕ) → shift (y * 2) ≡ y
unfolding shift
shift-up y = ap₂ (λ (x z : ℕ). bit_xor x (z * poly)) (mul-div_cancel y (omega arith)) (mul-mod_left y 2) ∙ xor_zero_r y

pub shifts_xor : (n a b : ℕ) → shifts n (bit_xor a b) ≡ bit_xor (shifts n a) (shifts n b)
unfolding shifts
shifts_xor zero a b = refl
shifts_xor (suc n) a b = ap (shifts n) (shift_xor a b) ∙ shifts_xor n (shift a) (shift b)

pub shifts_add : (m n r : ℕ) → shifts (m + n) r ≡ shifts n (shifts m r)
unfolding shifts
shifts_add zero n r = ap (λ (k : ℕ). shifts k r) (zero-add n)
shifts_add (suc m) n r = ap (λ (k : ℕ). shifts k r) (suc-add m n) ∙ shifts_add m n (shift r)

pub shifts-byte : (n r : ℕ) → shifts (8 * n) (shifts 8 r) ≡ shifts (8 * suc n) r
shifts-byte n r = sym (shifts_add 8 (8 * n) r) ∙ ap (λ (k : ℕ). shifts k r) (add_comm 8 (8 * n) ∙ sym (mul-suc 8 n))

pub shifts-up : (n y : ℕ) → shifts n (y * 2 ^ n) ≡ y
unfolding shifts
shifts-up zero y = mul-one y
shifts-up (suc n) y =
    ap (λ (x : ℕ). shifts n (shift x)) (ap (◌*◌ y) (pow-suc 2 n) ∙ sym (mul_assoc y (2 ^ n) 2))
    ∙ ap (shifts n) (shift-up (y * 2 ^ n))
    ∙ shifts-up n y

pub shifts-zero : (n : ℕ) → shifts n 0 ≡ 0
unfolding shifts shift
shifts-zero zero = refl
shifts-zero (suc n) = shifts-zero n

-- the k low digits apart from the rest
pub shifts-parts : (k m x : ℕ) → shifts (k + m) x ≡ bit_xor (shifts m (x / 2 ^ k)) (shifts (k + m) (x % 2 ^ k))
shifts-parts k m x =
    ap (shifts (k + m)) (sym (split x k) ∙ sym (xor_shifted (x / 2 ^ k) k (x % 2 ^ k) (mod-lt x (pow_pos k))))
    ∙ shifts_xor (k + m) (x / 2 ^ k * 2 ^ k) (x % 2 ^ k)
    ∙ ap (λ (z : ℕ). bit_xor z (shifts (k + m) (x % 2 ^ k)))
    (shifts_add k m (x / 2 ^ k * 2 ^ k) ∙ ap (shifts m) (shifts-up k (x / 2 ^ k)))

-- ---- bits into the register

-- n bits at once
pub bits_in : (n r b : ℕ) → b < 2 ^ n → bits_in_of n r b ≡ shifts n (bit_xor r b)
unfolding bits_in_of shifts
bits_in zero r b h = sym (ap (bit_xor r) (lt-one h) ∙ xor_zero_r r)
bits_in (suc n) r b h =
    bits_in n (shift (bit_xor r (b % 2))) (b / 2) (shr_lt n 1 (subst (λ (k : ℕ). b < 2 ^ k) (sym (add-one n)) h))
    ∙ ap (shifts n)
    (ap (bit_xor (shift (bit_xor r (b % 2)))) (sym (shift-up (b / 2)))
    ∙ sym (shift_xor (bit_xor r (b % 2)) (b / 2 * 2))
    ∙ ap shift
    (xor_assoc r (b % 2) (b / 2 * 2)
    ∙ ap (bit_xor r) (xor_comm (b % 2) (b / 2 * 2) ∙ xor_shifted (b / 2) 1 (b % 2) (mod_two b) ∙ split b 1)))

-- a byte: one look at a table of `shifts 8`
pub byte_in : (r b : ℕ) → b < 256 → bits_in_of 8 r b ≡ bit_xor (r / 256) (shifts 8 (bit_xor r b % 256))
unfolding shifts
byte_in r b h =
    bits_in 8 r b h
    ∙ shifts-parts 8 0 (bit_xor r b)
    ∙ ap (λ (x : ℕ). bit_xor x (shifts 8 (bit_xor r b % 256)))
    (xor_shr r b 8 ∙ ap (bit_xor (r / 256)) (div-eq_of_lt h) ∙ xor_zero_r (r / 256))

-- two registers before the same bits
pub bits_xor : (n r s b : ℕ) → bits_in_of n (bit_xor r s) b ≡ bit_xor (shifts n r) (bits_in_of n s b)
unfolding bits_in_of shifts
bits_xor zero r s b = refl
bits_xor (suc n) r s b =
    ap (λ (x : ℕ). bits_in_of n x (b / 2)) (ap shift (xor_assoc r s (b % 2)) ∙ shift_xor r (bit_xor s (b % 2)))
    ∙ bits_xor n (shift r) (shift (bit_xor s (b % 2))) (b / 2)

-- ---- bytes in turn

pub updated-append : (r : ℕ) (a b : List ℕ) → updated r (a ++ b) ≡ updated (updated r a) b
unfolding updated
updated-append r [] b = refl
updated-append r (x ∷ a) b = updated-append (bits_in_of 8 r x) a b

-- the next byte of those from i on
pub updated-next : (r : ℕ) (bs : List ℕ) (i : ℕ) → i < length bs → updated r (drop i bs) ≡ updated (bits_in_of 8 r (get_or bs i 0)) (drop (i + 1) bs)
unfolding updated
updated-next r bs i h =
    ap (updated r) (drop-cons bs i 0 h) ∙ ap (λ (k : ℕ). updated (bits_in_of 8 r (get_or bs i 0)) (drop k bs)) (sym (add-one i))

-- none left
pub updated-end : (r : ℕ) (bs : List ℕ) (i : ℕ) → length bs ≤ i → updated r (drop i bs) ≡ r
unfolding updated
updated-end r bs i h = ap (updated r) (drop_of_length-le bs h)

-- ---- the register has 32 bits

shift-lt : (r : ℕ) → r < 2 ^ 32 → shift r < 2 ^ 32
unfolding shift
shift-lt r h = xor_lt 32 (r / 2) (r % 2 * poly) (omega arith) (omega arith)

bits_lt : (n r b : ℕ) → r < 2 ^ 32 → bits_in_of n r b < 2 ^ 32
unfolding bits_in_of
bits_lt zero r b h = h
bits_lt (suc n) r b h =
    bits_lt n (shift (bit_xor r (b % 2))) (b / 2) (shift-lt (bit_xor r (b % 2)) (xor_lt 32 r (b % 2) h (omega arith)))

pub updated-lt : (r : ℕ) (bs : List ℕ) → r < 2 ^ 32 → updated r bs < 2 ^ 32
unfolding updated
updated-lt r [] h = h
updated-lt r (b ∷ bs) h = updated-lt (bits_in_of 8 r b) bs (bits_lt 8 r b h)
