-- Cases (f), (g), (h) and (i), under every directory that keeps its rules, validating or not. Assumes nothing.
use mathlib.Core.Path.{◌≡◌}
use mathlib.Core.Bool.{Bool, true}
use mathlib.Core.List.{List, [], ◌∷◌}
use Prim.Native.Nat.{ℕ}
use Rattle.directory.specs.Directory.{directory_kept}
use Rattle.directory.specs.declared.directory.Directory.{Directory}
use Rattle.record.specs.Format.{read_at}
use Rattle.record.specs.Next.{answer_of, reader_at, step_of, next_of}
use Rattle.record.specs.Record.{opening, opening_by, begun_id, early}
use Rattle.cases.specs.Table.{answered_to}

module _ (d : Directory) (kept : directory_kept d ≡ true) (validate : Bool) where
  tested : (log : List ℕ) → answered_to d validate log ≡ answer_of (step_of d log (reader_at 0 validate))
  unfolding next_of
  tested log = rw kept

  pub cases : (a b c e f g h : ℕ)
      → (answered_to d validate (1 ∷ a ∷ b ∷ c ∷ e ∷ f ∷ g ∷ h ∷ []) ≡ 1) × (answered_to d validate (2 ∷ []) ≡ 1) × (answered_to d validate (8 ∷ []) ≡ 3) × (answered_to d validate (5 ∷ a ∷ b ∷ []) ≡ 4)
  unfolding step_of opening opening_by begun_id early read_at
  cases a b c e f g h = (tested _, tested _, tested _, tested _)
