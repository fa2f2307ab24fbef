-- Demand 1 of replay and run: a refusal's number is never 0, so that answer 0 means an accepted record; and a refusal leaves the image as it
-- was. Assumes nothing.
use mathlib.Core.Path.{◌≡◌, refl, sym, ap, ◌∙◌, subst}
use mathlib.Core.Bool.{Bool, true, false}
use mathlib.Core.List.{List, [], ◌∷◌}
use Prim.Native.Nat.{ℕ, zero, suc, ◌<◌}
use native.Mathlib.Omega.{arith}
use lib.Dec.{eqb}
use lib.ListN.{length}
use Rattle.words.proofs.Choices.{if_true, if_false}
use Rattle.directory.specs.declared.directory.Directory.{Directory}
use Rattle.answer.specs.Answer.{number_of, refusal}
use Rattle.answer.specs.declared.answer.Answer.{Answer}
use Rattle.answer.specs.declared.answer.Answer.TheVariants.{Cut, WrongId, BadState}
use Rattle.answer.specs.declared.answer.Refusal.{Refusal}
use Rattle.record.specs.Next.{is_end, reader_at, step_of}
use Rattle.record.specs.declared.reader.LogReader.{LogReader}
use Rattle.record.specs.declared.reader.Stepped.{Stepped}
use Rattle.record.proofs.Faults.{step-fault}
use Rattle.effect.specs.Effect.{Written}
use Rattle.replay.specs.Replay.{Walked, fault, walked, written_in, add_first, by_step, rest_of, rest_in, by_opening, record_at, tables_kept, judged, replayed_as, image_after}
use Rattle.replay.specs.Run.{Outcome, run_of, apply_all, Leaves, Stops, refuses, used-up}
use Rattle.replay.proofs.Checked.{judged-kept, judged_bad}
use Rattle.replay.proofs.CutLog.{run-exactly}
use Rattle.replay.proofs.Records.{run_bad}
use Rattle.replay.proofs.Stop.{stop_is}
use Rattle.std.specs.Prelude.{Result, Ok, Err}

-- a fault that is made of an answer above 0
made : (a : Answer) (at : ℕ) (x : Refusal) → 0 < number_of a → ◌≡◌ {A = Walked (List Written)} (fault (refusal a at)) (fault x) → 0 < number_of x.answer
made a at x h e = let s : refusal a at ≡ x = cc in subst (λ (y : Refusal). 0 < number_of y.answer) s h

passed : (y x : Refusal) → 0 < number_of y.answer → ◌≡◌ {A = Walked (List Written)} (fault y) (fault x) → 0 < number_of x.answer
passed y x h e = let s : y ≡ x = cc in subst (λ (y : Refusal). 0 < number_of y.answer) s h

pub unfirst : (w : Written) (g : Walked (List Written)) (x : Refusal) → add_first w g ≡ fault x → g ≡ fault x
unfirst w (fault y) x e = e
unfirst w (walked ws end) x e = let z : ◌≡◌ {A = ℕ} 0 1 = cc in absurd (omega arith)

rest-fault : (d : Directory) (log : List ℕ) (n : ℕ) (r : LogReader) (x : Refusal) → rest_of n d log r ≡ fault x → 0 < number_of x.answer
unfolding rest_of
rest-fault d log zero r x e = made Cut r.position x (omega arith) e
rest-fault d log (suc n) r x e = go (step_of d log r) refl e (rest-fault d log n)
  where
    Next : Type 0
    Next = (k : LogReader) (x : Refusal) → rest_of n d log k ≡ fault x → 0 < number_of x.answer

    by : (s : Stepped) (t : Bool) → is_end s.action ≡ t → by_step log (rest_of n d log) (Ok s) ≡ fault x → Next → 0 < number_of x.answer
    by s true t f ih = let z : ◌≡◌ {A = ℕ} 0 1 = cc (sym (if_true (is_end s.action) _ _ t) ∙ f) in absurd (omega arith)
    by s false t f ih = ih s.reader x (unfirst (written_in log s) (rest_of n d log s.reader) x (sym (if_false (is_end s.action) _ _ t) ∙ f))

    go : (st : Result Stepped Refusal) → step_of d log r ≡ st → by_step log (rest_of n d log) st ≡ fault x → Next → 0 < number_of x.answer
    go (Err y) q f ih = passed y x (step-fault d log r y q) f
    go (Ok s) q f ih = by s (is_end s.action) refl f ih

module _ (d : Directory) (log : List ℕ) (at expected : ℕ) (x : Refusal) where
  pub record-fault : record_at d log at expected ≡ fault x → 0 < number_of x.answer
  unfolding record_at
  record-fault e = go (step_of d log (reader_at at true)) refl e
    where
      by : (s : Stepped) (t : Bool) → eqb s.reader.record_id expected ≡ t → by_opening at expected (rest_in d log) (Ok s) ≡ fault x → 0 < number_of x.answer
      by s true t f = rest-fault d log (suc (length log)) s.reader x (sym (if_true (eqb s.reader.record_id expected) _ _ t) ∙ f)
      by s false t f = made WrongId at x (omega arith) (sym (if_false (eqb s.reader.record_id expected) _ _ t) ∙ f)

      go : (st : Result Stepped Refusal) → step_of d log (reader_at at true) ≡ st → by_opening at expected (rest_in d log) st ≡ fault x → 0 < number_of x.answer
      go (Err y) q f = passed y x (step-fault d log (reader_at at true) y q) f
      go (Ok s) q f = by s (eqb s.reader.record_id expected) refl f

  -- A REFUSAL OF `replay` HAS A NUMBER ABOVE 0
  pub judged-fault : (image : List ℕ) → judged d log at expected image ≡ fault x → 0 < number_of x.answer
  judged-fault image e = go (tables_kept d image) refl
    where
      go : (b : Bool) → tables_kept d image ≡ b → 0 < number_of x.answer
      go true q = record-fault (sym (judged-kept d log at expected image q) ∙ e)
      go false q = made BadState at x (omega arith) (sym (judged_bad d log at expected image q) ∙ e)

module _ (d : Directory) (log : List ℕ) (at expected : ℕ) (image : List ℕ) where
  nothing : (o : Outcome) (rs : List (List Written)) → Leaves d log at expected image rs o → o.ran.count ≡ 0 → o.image ≡ image
  unfolding apply_all
  nothing o [] l f = l.tables
  nothing o (ws ∷ rs) l f = absurd (omega (arith, l.counts))

  -- answer 0 means an accepted record
  pub replay-done : number_of (replayed_as at (judged d log at expected image)).answer ≡ 0
      → (ws : List Written) × (end : ℕ) × (judged d log at expected image ≡ walked ws end)
  replay-done e = go (judged d log at expected image) refl e
    where
      go : (g : Walked (List Written)) → judged d log at expected image ≡ g → number_of (replayed_as at g).answer ≡ 0
          → (ws : List Written) × (end : ℕ) × (judged d log at expected image ≡ walked ws end)
      go (fault x) q f = absurd (omega (arith, judged-fault d log at expected x image q))
      go (walked ws end) q f = (ws, end, q)

  -- "A refused call changes no table": any other answer leaves the image as it was, and the position is the one handed in
  pub replay-refused : 0 < number_of (replayed_as at (judged d log at expected image)).answer
      → (image_after d image (judged d log at expected image) ≡ image) × ((replayed_as at (judged d log at expected image)).position ≡ at)
  replay-refused e = go (judged d log at expected image) e
    where
      go : (g : Walked (List Written)) → 0 < number_of (replayed_as at g).answer → (image_after d image g ≡ image) × ((replayed_as at g).position ≡ at)
      go (fault x) f = (refl, refl)
      go (walked ws end) f = absurd (omega arith)

  -- A RUN'S ANSWER HAS A NUMBER ABOVE 0
  pub run-fault : 0 < number_of (run_of d log at expected image).ran.answer
  run-fault = go (tables_kept d image) refl
    where
      why : (o : Outcome) → Stops d log expected o → 0 < number_of o.ran.answer
      why o (refuses x e a p) = rw a (record-fault d log o.ran.position _ x e)
      why o (used-up e a p) = rw a (omega arith)

      go : (b : Bool) → tables_kept d image ≡ b → 0 < number_of (run_of d log at expected image).ran.answer
      go true q = why (run_of d log at expected image) (stop_is d log expected at image q)
      go false q = rw (run_bad d log at expected image q) (omega arith)

  -- "a run is judged record by record": where none was replayed, the image is as it was
  pub run_none : (run_of d log at expected image).ran.count ≡ 0 → (run_of d log at expected image).image ≡ image
  run_none e = go (tables_kept d image) refl
    where
      go : (b : Bool) → tables_kept d image ≡ b → (run_of d log at expected image).image ≡ image
      go true q = nothing (run_of d log at expected image) _ (run-exactly d log at expected image q) e
      go false q = ap (λ (o : Outcome). o.image) (run_bad d log at expected image q)
