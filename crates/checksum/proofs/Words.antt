-- Several bytes into the register at once, as little-endian numbers. Assumes nothing.
use mathlib.Core.Path.{◌≡◌, refl, sym, ap, ap₂, ◌∙◌, subst}
use mathlib.Core.List.{List, [], ◌∷◌}
use Prim.Native.Nat.{ℕ, zero, suc, ◌+◌, ◌*◌, ◌≤◌, ◌<◌}
use native.Mathlib.Nat.{add_comm, mul_comm, zero-lt-suc, zero-mul, suc-mul}
use native.Mathlib.Omega.{arith}
use lib.Bits.{bit_xor, xor_comm, xor_zero_r, xor_shifted}
use lib.ListN.{length, take, drop, get_or, take-append-drop, length-drop}
use lib.Seq.{drop-drop, length-take-le, get_or-drop, take_all}
use Rattle.std.specs.Simd.{first_chunks}
use Rattle.std.specs.Int.{w64, from_le_bytes}
use Rattle.words.specs.Words.{little, little_at}
use Rattle.words.proofs.Little.{Bytes, first}
use Rattle.checksum.specs.Checksum.{bits_in_of, updated}
use Rattle.checksum.specs.Tables.{shifts}
use Rattle.checksum.proofs.Register.{bits_in, shifts_xor, shifts-byte, shifts-up, updated-append}
use Rattle.checksum.proofs.Xor.{xor_assoc}

pub updated-little : (r : ℕ) (bs : List ℕ) → Bytes bs → updated r bs ≡ shifts (8 * length bs) (bit_xor r (little bs))
unfolding updated shifts little
updated-little r [] h = sym (xor_zero_r r)
updated-little r (b ∷ bs) h =
    updated-little (bits_in_of 8 r b) bs (λ k. h (suc k))
    ∙ ap (shifts (8 * length bs))
    (ap (λ (x : ℕ). bit_xor x (little bs)) (bits_in 8 r b (h zero))
    ∙ ap (bit_xor (shifts 8 (bit_xor r b))) (sym (shifts-up 8 (little bs)))
    ∙ sym (shifts_xor 8 (bit_xor r b) (little bs * 256))
    ∙ ap (shifts 8)
    (xor_assoc r b (little bs * 256)
    ∙ ap (bit_xor r)
    (xor_comm b (little bs * 256)
    ∙ xor_shifted (little bs) 8 b (h zero)
    ∙ ap (λ (x : ℕ). x + b) (mul_comm (little bs) 256)
    ∙ add_comm (256 * little bs) b)))
    ∙ shifts-byte (length bs) (bit_xor r (b + 256 * little bs))

pub take_bytes : (n : ℕ) (bs : List ℕ) → Bytes bs → Bytes (take n bs)
take_bytes zero bs h k = zero-lt-suc 255
take_bytes (suc n) [] h k = h k
take_bytes (suc n) (b ∷ bs) h zero = h zero
take_bytes (suc n) (b ∷ bs) h (suc k) = take_bytes n bs (λ i. h (suc i)) k

pub drop_bytes_lem : (i : ℕ) (bs : List ℕ) → Bytes bs → Bytes (drop i bs)
drop_bytes_lem i bs h k = subst (λ (x : ℕ). x < 256) (sym (get_or-drop i bs k 0)) (h (i + k))

module _ (bs : List ℕ) (h : Bytes bs) where
  -- the next n of the bytes from i on
  pub updated-word : (n r i : ℕ) → i + n ≤ length bs
      → updated r (drop i bs) ≡ updated (shifts (8 * n) (bit_xor r (little_at n bs i))) (drop (i + n) bs)
  updated-word n r i l =
      ap (updated r) (sym (take-append-drop n (drop i bs)))
      ∙ updated-append r (take n (drop i bs)) (drop n (drop i bs))
      ∙ ap₂ updated
      (updated-little r (take n (drop i bs)) (take_bytes n (drop i bs) (drop_bytes_lem i bs h))
      ∙ ap (λ (k : ℕ). shifts (8 * k) (bit_xor r (little_at n bs i))) (length-take-le n (drop i bs) (omega (arith, length-drop i bs))))
      (drop-drop n i bs)

-- ---- the words of a slice, as `as_chunks` cuts it

chunk_at : (n k i : ℕ) (xs d : List ℕ) → i < k → get_or (first_chunks n k xs) i d ≡ take n (drop (i * n) xs)
chunk_at n zero i xs d h = absurd (omega arith)
chunk_at n (suc k) zero xs d h = rw zero-mul refl
chunk_at n (suc k) (suc i) xs d h =
    let e : n + i * n ≡ suc i * n = omega (arith, suc-mul i n) in
    chunk_at n k i (drop n xs) d (omega arith) ∙ ap (take n) (drop-drop (i * n) n xs ∙ ap (λ (m : ℕ). drop m xs) e)

of_eight : (l : List ℕ) → length l ≡ 8 → from_le_bytes w64 l ≡ little l
unfolding little
of_eight l h =
    let whole : little_at 8 l 0 ≡ little l = ap little (take_all 8 l (omega arith)) in
    let none : little_at 0 l 8 ≡ 0 = refl in
    omega (
      arith,
      whole,
      first l 7 0 (omega arith),
      first l 6 1 (omega arith),
      first l 5 2 (omega arith),
      first l 4 3 (omega arith),
      first l 3 4 (omega arith),
      first l 2 5 (omega arith),
      first l 1 6 (omega arith),
      first l 0 7 (omega arith),
    )

pub word-of : (bs d : List ℕ) (k i : ℕ) → i < k → k * 8 ≤ length bs → from_le_bytes w64 (get_or (first_chunks 8 k bs) i d) ≡ little_at 8 bs (i * 8)
word-of bs d k i h l =
    let room : i * 8 + 8 ≤ length bs = omega arith in
    ap (from_le_bytes w64) (chunk_at 8 k i bs d h)
    ∙ of_eight (take 8 (drop (i * 8) bs)) (length-take-le 8 (drop (i * 8) bs) (omega (arith, length-drop (i * 8) bs)))
