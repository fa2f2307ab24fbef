-- The walk from inside a record to its end, a step at a time. Assumes nothing.
use mathlib.Core.Path.{◌≡◌, refl, sym, ap, ◌∙◌}
use mathlib.Core.Bool.{true, false, false≢true}
use mathlib.Core.List.{List, []}
use Prim.Native.Nat.{ℕ, zero, suc, ◌-◌, ◌<◌}
use native.Mathlib.Omega.{arith}
use lib.ListN.{length}
use Rattle.std.specs.Prelude.{if◌then◌else◌}
use Rattle.words.proofs.Choices.{if_true, if_false}
use Rattle.directory.specs.declared.directory.Directory.{Directory}
use Rattle.record.specs.Next.{is_end, step_of}
use Rattle.answer.specs.declared.answer.Refusal.{Refusal}
use Rattle.record.specs.declared.reader.LogReader.{LogReader}
use Rattle.record.specs.declared.reader.Stepped.{Stepped}
use Rattle.record.proofs.Steps.{step-on}
use Rattle.effect.specs.Effect.{Written, done, apply}
use Rattle.replay.specs.Inner.{is_walked}
use Rattle.replay.specs.Replay.{Walked, fault, walked, written_in, add_first, by_step, rest_of, image_after, end_in}
use Rattle.std.specs.Prelude.{Result, Ok, Err}

module _ (d : Directory) (log : List ℕ) where
  -- what comes after a step is the same where the two ways on agree behind it
  after_same : (f g : LogReader → Walked (List Written)) (st : Result Stepped Refusal) → ((s : Stepped) → st ≡ Ok s → f s.reader ≡ g s.reader) → by_step log f st ≡ by_step log g st
  after_same f g (Err x) e = refl
  after_same f g (Ok s) e =
      ap (λ (x : Walked (List Written)). if is_end s.action then walked [] s.reader.position else add_first (written_in log s) x) (e s refl)

  -- more steps than the log has bytes left change nothing
  pub enough : (n m : ℕ) (r : LogReader) → length log - r.position < n → length log - r.position < m → rest_of n d log r ≡ rest_of m d log r
  unfolding rest_of
  enough zero m r p q = absurd (omega arith)
  enough (suc n) zero r p q = absurd (omega arith)
  enough (suc n) (suc m) r p q =
      after_same (rest_of n d log) (rest_of m d log) (step_of d log r)
      (λ s e. let o = step-on d log r s e in enough n m s.reader (omega (arith, o.forward, o.inside)) (omega (arith, o.forward, o.inside)))

  abbrev pub whole : LogReader → Walked (List Written)
  whole r = rest_of (suc (length log)) d log r

  module _ (r : LogReader) where
    pub stop : (x : Refusal) → step_of d log r ≡ Err x → whole r ≡ fault x
    unfolding rest_of
    stop x e = rw e

    pub last : (s : Stepped) → step_of d log r ≡ Ok s → is_end s.action ≡ true → whole r ≡ walked [] s.reader.position
    unfolding rest_of
    last s e t = ap (by_step log (rest_of (length log) d log)) e ∙ if_true (is_end s.action) _ _ t

    pub more : (s : Stepped) → step_of d log r ≡ Ok s → is_end s.action ≡ false → whole r ≡ add_first (written_in log s) (whole s.reader)
    unfolding rest_of
    more s e t =
        let o = step-on d log r s e in
        ap (by_step log (rest_of (length log) d log)) e ∙ if_false (is_end s.action) _ _ t
        ∙ ap (add_first (written_in log s)) (enough (length log) (suc (length log)) s.reader (omega (arith, o.forward, o.inside)) (omega (arith, o.forward, o.inside)))

-- an action in front changes nothing of where the record ends
ends_same : (w : Written) (g : Walked (List Written)) → end_in (add_first w g) ≡ end_in g
ends_same w (fault x) = refl
ends_same w (walked ws end) = refl

pub more-ends : (d : Directory) (log : List ℕ) (r : LogReader) (s : Stepped) → step_of d log r ≡ Ok s → is_end s.action ≡ false
    → end_in (whole d log r) ≡ end_in (whole d log s.reader)
more-ends d log r s e t = ap end_in (more d log r s e t) ∙ ends_same (written_in log s) (whole d log s.reader)

-- ---- the actions onto an image

module _ (d : Directory) (log : List ℕ) (r : LogReader) where
  no-refusal : (g : Walked (List Written)) (a : Refusal) → is_walked g ≡ true → g ≡ fault a → ⊥
  no-refusal g a e q = let f : false ≡ true = sym (ap is_walked q) ∙ e in false≢true f

  -- a walk that reaches its end meets no refusal
  pub unstopped : (x : Refusal) → is_walked (whole d log r) ≡ true → step_of d log r ≡ Err x → ⊥
  unstopped x g e = no-refusal (whole d log r) x g (stop d log r x e)

  pub last_applied : (s : Stepped) (image : List ℕ) → step_of d log r ≡ Ok s → is_end s.action ≡ true → image ≡ image_after d image (whole d log r)
  unfolding apply
  last_applied s image e t = sym (ap (image_after d image) (last d log r s e t))

  first : (w : Written) (image : List ℕ) (g : Walked (List Written)) → is_walked (add_first w g) ≡ true
      → (is_walked g ≡ true) × (image_after d image (add_first w g) ≡ image_after d (done d w image) g)
  unfolding apply
  first w image (fault x) e = absurd (false≢true e)
  first w image (walked ws end) e = (refl, refl)

  -- one action applied, and the walk goes on behind it
  pub more_applied : (s : Stepped) (image : List ℕ) → step_of d log r ≡ Ok s → is_end s.action ≡ false → is_walked (whole d log r) ≡ true
      → (is_walked (whole d log s.reader) ≡ true) × (image_after d image (whole d log r) ≡ image_after d (done d (written_in log s) image) (whole d log s.reader))
  more_applied s image e t g =
      let m = more d log r s e t in
      let f = first (written_in log s) image (whole d log s.reader) (sym (ap is_walked m) ∙ g) in
      (f.0, ap (image_after d image) m ∙ f.1)
