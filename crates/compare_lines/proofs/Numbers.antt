-- The number that a field's bytes are, the lowest first. Assumes nothing.
use Rattle.std.proofs.Common.{◌≡◌, ◌∙◌, List, ℕ, ◌≤◌, length, take, get_or, ap, arith}
use Rattle.std.specs.Int.{from_le_bytes, w16, w32, w64}
use lib.Seq.{get_or-take}
use Rattle.words.specs.Words.{little, little_at}
use Rattle.words.proofs.Little.{first, more}

-- a field of one byte is that byte
pub byte : (s : List ℕ) → 1 ≤ length s → little_at 1 s 0 ≡ get_or s 0 0
unfolding little
byte s h = omega (arith, first s 0 0 (omega arith))

of_one : (s : List ℕ) → 1 ≤ length s → get_or (take 1 s) 0 0 ≡ little_at 1 s 0
unfolding little
of_one s h = omega (arith, first s 0 0 (omega arith), get_or-take 1 s 0 0 (omega arith))

of_two : (s : List ℕ) → 2 ≤ length s → from_le_bytes w16 (take 2 s) ≡ little_at 2 s 0
unfolding little
of_two s h =
    omega (
      arith,
      first s 1 0 (omega arith),
      more s 0 0 1 (omega arith),
      get_or-take 2 s 0 0 (omega arith),
      get_or-take 2 s 1 0 (omega arith),
    )

of_four : (s : List ℕ) → 4 ≤ length s → from_le_bytes w32 (take 4 s) ≡ little_at 4 s 0
unfolding little
of_four s h =
    omega (
      arith,
      first s 3 0 (omega arith),
      more s 2 0 1 (omega arith),
      more s 1 0 2 (omega arith),
      more s 0 0 3 (omega arith),
      get_or-take 4 s 0 0 (omega arith),
      get_or-take 4 s 1 0 (omega arith),
      get_or-take 4 s 2 0 (omega arith),
      get_or-take 4 s 3 0 (omega arith),
    )

of_eight : (s : List ℕ) → 8 ≤ length s → from_le_bytes w64 (take 8 s) ≡ little_at 8 s 0
unfolding little
of_eight s h =
    omega (
      arith,
      first s 7 0 (omega arith),
      more s 6 0 1 (omega arith),
      more s 5 0 2 (omega arith),
      more s 4 0 3 (omega arith),
      more s 3 0 4 (omega arith),
      more s 2 0 5 (omega arith),
      more s 1 0 6 (omega arith),
      more s 0 0 7 (omega arith),
      get_or-take 8 s 0 0 (omega arith),
      get_or-take 8 s 1 0 (omega arith),
      get_or-take 8 s 2 0 (omega arith),
      get_or-take 8 s 3 0 (omega arith),
      get_or-take 8 s 4 0 (omega arith),
      get_or-take 8 s 5 0 (omega arith),
      get_or-take 8 s 6 0 (omega arith),
      get_or-take 8 s 7 0 (omega arith),
    )

pub one : (s bs : List ℕ) (n : ℕ) → 1 ≤ length s → bs ≡ take 1 s → n ≡ get_or bs 0 0 → n ≡ little_at 1 s 0
one s bs n h e f = f ∙ ap (λ (l : List ℕ). get_or l 0 0) e ∙ of_one s h

pub two : (s bs : List ℕ) (n : ℕ) → 2 ≤ length s → bs ≡ take 2 s → n ≡ from_le_bytes w16 bs → n ≡ little_at 2 s 0
two s bs n h e f = f ∙ ap (from_le_bytes w16) e ∙ of_two s h

pub four : (s bs : List ℕ) (n : ℕ) → 4 ≤ length s → bs ≡ take 4 s → n ≡ from_le_bytes w32 bs → n ≡ little_at 4 s 0
four s bs n h e f = f ∙ ap (from_le_bytes w32) e ∙ of_four s h

pub eight : (s bs : List ℕ) (n : ℕ) → 8 ≤ length s → bs ≡ take 8 s → n ≡ from_le_bytes w64 bs → n ≡ little_at 8 s 0
eight s bs n h e f = f ∙ ap (from_le_bytes w64) e ∙ of_eight s h
