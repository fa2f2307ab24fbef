-- An array that a function made of another's elements. Assumes nothing.
use Prim.Native.Nat.{ℕ, suc, ◌<◌}
use mathlib.Core.List.{List, [], ◌∷◌, map}
use mathlib.Core.Path.{◌≡◌, refl, ap, ◌∙◌}
use native.Mathlib.Omega.{arith}
use lib.ListN.{get_or, length}

pub mapped : {A : Type 0} (h : A → ℕ) (d : A) (xs : List A) (ys : List ℕ) → length ys ≡ length xs → ((i : ℕ) → i < length xs → get_or ys i 0 ≡ h (get_or xs i d)) → ys ≡ map h xs
mapped h d [] [] e f = refl
mapped h d [] (y ∷ ys) e f = absurd (omega (arith, e))
mapped h d (x ∷ xs) [] e f = absurd (omega (arith, e))
mapped h d (x ∷ xs) (y ∷ ys) e f =
    let rest : ys ≡ map h xs = mapped h d xs ys (omega (arith, e)) (λ i k. f (suc i) (omega arith)) in
    ap (λ (n : ℕ). n ∷ ys) (f 0 (omega arith)) ∙ ap (λ (l : List ℕ). h x ∷ l) rest
