-- The records of a log, from a position on: one try at a time. Assumes nothing.
use mathlib.Core.Path.{◌≡◌, refl, sym, ap, ◌∙◌}
use mathlib.Core.Bool.{Bool, true, false}
use mathlib.Core.List.{List, [], ◌∷◌}
use mathlib.Core.Option.{Option, none, some}
use Prim.Native.Nat.{ℕ, zero, suc, ◌+◌, ◌-◌, ◌≤◌, ◌<◌}
use native.Mathlib.Omega.{arith}
use lib.Dec.{ltb}
use lib.ListN.{length}
use borrow.Author.Tests.{ltb-true, ltb-false}
use Rattle.directory.specs.declared.directory.Directory.{Directory}
use Rattle.salvaging.specs.Salvage.{found_at, by_found, found_from, found_on}
use Rattle.salvaging.specs.declared.search.Found.{Found}
use Rattle.salvaging.proofs.Accepted.{found-accepted}
use Rattle.salvaging.proofs.Begins.{past-none}

module _ (d : Directory) (log : List ℕ) where
  -- behind the log's end nothing is found
  pub past : (n at : ℕ) → length log ≤ at → found_from n d log at ≡ []
  unfolding found_from
  past zero at h = refl
  past (suc n) at h = ap (by_found (found_from n d log) at) (past-none d log at h) ∙ past n (at + 1) (omega arith)

  by-same : (f g : ℕ → List Found) (at : ℕ) (o : Option Found) → f (at + 1) ≡ g (at + 1) → ((x : Found) → o ≡ some x → f x.end ≡ g x.end) → by_found f at o ≡ by_found g at o
  by-same f g at none p q = p
  by-same f g at (some x) p q = ap (λ (l : List Found). x ∷ l) (q x refl)

  -- at the next byte, whether the log goes on there or not
  next-byte : (n m at : ℕ) → length log - at < suc n → length log - at < suc m → (length log - (at + 1) < n → length log - (at + 1) < m → found_from n d log (at + 1) ≡ found_from m d log (at + 1))
      → found_from n d log (at + 1) ≡ found_from m d log (at + 1)
  next-byte n m at p q ih = by (ltb at (length log)) refl
    where
      by : (b : Bool) → ltb at (length log) ≡ b → found_from n d log (at + 1) ≡ found_from m d log (at + 1)
      by true h = let l : at < length log = ltb-true at (length log) h in ih (omega arith) (omega arith)
      by false h = let l : length log ≤ at = ltb-false at (length log) h in past n (at + 1) (omega arith) ∙ sym (past m (at + 1) (omega arith))

  -- more tries than the log has bytes left change nothing
  pub enough : (n m at : ℕ) → length log - at < n → length log - at < m → found_from n d log at ≡ found_from m d log at
  unfolding found_from
  enough zero m at p q = absurd (omega arith)
  enough (suc n) zero at p q = absurd (omega arith)
  enough (suc n) (suc m) at p q =
      by-same (found_from n d log) (found_from m d log) at (found_at d log at) (next-byte n m at p q (enough n m (at + 1)))
      (λ x e. let a = found-accepted d log at x e in enough n m x.end (omega (arith, a.forward, a.inside)) (omega (arith, a.forward, a.inside)))

  module _ (at : ℕ) where
    -- nothing here: on with the next byte
    pub records-skip : found_at d log at ≡ none → found_on d log at ≡ found_on d log (at + 1)
    unfolding found_from
    records-skip e =
        ap (by_found (found_from (length log) d log) at) e
        ∙ next-byte (length log) (suc (length log)) at (omega arith) (omega arith) (λ p q. enough (length log) (suc (length log)) (at + 1) p q)

    -- a record: it, and on behind it
    pub records_take : (f : Found) → found_at d log at ≡ some f → found_on d log at ≡ f ∷ found_on d log f.end
    unfolding found_from
    records_take f e =
        let a = found-accepted d log at f e in
        ap (by_found (found_from (length log) d log) at) e
        ∙ ap (λ (l : List Found). f ∷ l) (enough (length log) (suc (length log)) f.end (omega (arith, a.forward, a.inside)) (omega (arith, a.forward, a.inside)))
