-- A record begins with its begin tag, within the log: at any other byte nothing is found. Assumes nothing.
use mathlib.Core.Path.{◌≡◌, refl}
use mathlib.Core.Bool.{true}
use mathlib.Core.List.{List}
use mathlib.Core.Option.{Option, none, some}
use Prim.Native.Nat.{ℕ, ◌≤◌}
use native.Mathlib.Omega.{arith}
use lib.ListN.{length, get_or}
use Rattle.directory.specs.declared.directory.Directory.{Directory}
use Rattle.record.proofs.Begins.{begun}
use Rattle.replay.proofs.Opening.{whole_record}
use Rattle.salvaging.specs.Salvage.{found_at}
use Rattle.salvaging.specs.declared.search.Found.{Found}
use Rattle.salvaging.proofs.Accepted.{found-accepted}

module _ (d : Directory) (log : List ℕ) (at : ℕ) where
  found-tag : (f : Found) → found_at d log at ≡ some f → get_or log at 0 ≡ 1
  found-tag f e =
      let a = found-accepted d log at f e in
      let w = whole_record d log at f.id a.actions f.end a.taken in
      (begun d log at true w.s w.opens).tag

  -- another byte, or none
  pub untagged-none : (get_or log at 0 ≡ 1 → ⊥) → found_at d log at ≡ none
  untagged-none h = by (found_at d log at) refl
    where
      by : (o : Option Found) → found_at d log at ≡ o → found_at d log at ≡ none
      by none q = q
      by (some f) q = absurd (h (found-tag f q))

  pub past-none : length log ≤ at → found_at d log at ≡ none
  past-none h = by (found_at d log at) refl
    where
      by : (o : Option Found) → found_at d log at ≡ o → found_at d log at ≡ none
      by none q = q
      by (some f) q = let a = found-accepted d log at f q in absurd (omega (arith, a.forward, a.inside))
