-- Lists that agree at each place, and words of which a part was written. Assumes nothing.
use mathlib.Core.Path.{◌≡◌, refl, ap₂}
use mathlib.Core.List.{List, [], ◌∷◌, ◌++◌}
use Prim.Native.Nat.{ℕ, suc, ◌<◌}
use native.Mathlib.Omega.{arith}
use lib.ListN.{length, take, drop, get_or}
use lib.Seq.{take_at, drop_at}

pub alike : (xs ys : List ℕ) → length xs ≡ length ys → ((i : ℕ) → i < length xs → get_or xs i 0 ≡ get_or ys i 0) → xs ≡ ys
alike [] [] e h = refl
alike [] (y ∷ ys) e h = absurd (omega arith)
alike (x ∷ xs) [] e h = absurd (omega arith)
alike (x ∷ xs) (y ∷ ys) e h = ap₂ ◌∷◌ (h 0 (omega arith)) (alike xs ys (omega arith) (λ i k. h (suc i) (omega arith)))

-- what stands in front of the part, the part, and what stands behind it
pub part_written : (x y b : List ℕ) (n m : ℕ) → length x ≡ n → take n (x ++ y) ++ (b ++ drop m (drop n (x ++ y))) ≡ x ++ (b ++ drop m y)
part_written x y b n m e = ap₂ (λ (p q : List ℕ). p ++ (b ++ drop m q)) (take_at x y n e) (drop_at x y n e)
