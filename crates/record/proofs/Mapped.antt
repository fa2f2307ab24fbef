-- A refusal made of an answer by `map_err`: what stood before it. Assumes nothing.
use mathlib.Core.Path.{◌≡◌, refl, subst}
use Rattle.std.specs.Prelude.{Result, Ok, Err, MatchResult, IsErrAnd}

module _ {X A B : Type 0} (P : A → B → Type 0) where
  pub mapped_ok : (r : Result X A) (q : Result X B) (x : X) → MatchResult r (λ y. q ≡ Ok y) (λ e. IsErrAnd q (P e)) → q ≡ Ok x → r ≡ Ok x
  mapped_ok (Ok y) q x m e = cc
  mapped_ok (Err d) (Ok y) x m e = absurd m
  mapped_ok (Err d) (Err f) x m e = absurd cc

  pub mapped_err : (r : Result X A) (q : Result X B) (x : B) → MatchResult r (λ y. q ≡ Ok y) (λ e. IsErrAnd q (P e)) → q ≡ Err x → (e : A) × (r ≡ Err e) × P e x
  mapped_err (Ok y) q x m e = absurd cc
  mapped_err (Err d) (Ok y) x m e = absurd m
  mapped_err (Err d) (Err f) x m e = let p : f ≡ x = cc in (d, refl, subst (P d) p m)
