-- A table that goes on by one rule: each entry of ys is f of the entry of xs at its place. One test, which antt computes. Assumes nothing.
use mathlib.Core.Path.{◌≡◌, sym, ◌∙◌}
use mathlib.Core.Bool.{Bool, true, false}
use mathlib.Core.List.{List, [], ◌∷◌}
use Prim.Native.Nat.{ℕ, zero, suc, ◌+◌, ◌<◌}
use native.Mathlib.Nat.{le_of_suc-le-suc, not-suc-le-zero, add-zero, suc-add, add-suc}
use lib.Dec.{T, eqb, eqb→eq}
use lib.ListN.{length, get_or}

abbrev pub both : Bool → Bool → Bool
both true b = b
both false b = false

both_left : (a b : Bool) → T (both a b) → T a
both_left true b t = tt
both_left false b t = t

both_right : (a b : Bool) → T (both a b) → T b
both_right true b t = t
both_right false b t = absurd t

abbrev pub follow : (ℕ → ℕ) → List ℕ → List ℕ → Bool
follow f xs [] = true
follow f [] (y ∷ ys) = false
follow f (x ∷ xs) (y ∷ ys) = both (eqb y (f x)) (follow f xs ys)

pub followed : (f : ℕ → ℕ) (xs ys : List ℕ) → T (follow f xs ys) → (k : ℕ) → k < length ys → get_or ys k 0 ≡ f (get_or xs k 0)
followed f xs [] t k h = absurd (not-suc-le-zero h)
followed f [] (y ∷ ys) t k h = absurd t
followed f (x ∷ xs) (y ∷ ys) t zero h = eqb→eq y (f x) (both_left (eqb y (f x)) (follow f xs ys) t)
followed f (x ∷ xs) (y ∷ ys) t (suc k) h =
    followed f xs ys (both_right (eqb y (f x)) (follow f xs ys) t) k (le_of_suc-le-suc h)

-- n numbers from i on
abbrev pub up_from : ℕ → ℕ → List ℕ
up_from i zero = []
up_from i (suc n) = i ∷ up_from (suc i) n

pub get_d_up_from : (i n k : ℕ) → k < n → get_or (up_from i n) k 0 ≡ i + k
get_d_up_from i zero k h = absurd (not-suc-le-zero h)
get_d_up_from i (suc n) zero h = sym (add-zero i)
get_d_up_from i (suc n) (suc k) h = get_d_up_from (suc i) n k (le_of_suc-le-suc h) ∙ suc-add i k ∙ sym (add-suc i k)
