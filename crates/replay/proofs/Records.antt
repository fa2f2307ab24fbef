-- A run, a record at a time. Assumes nothing.
use mathlib.Core.Path.{◌≡◌, refl, sym, ap, ◌∙◌}
use mathlib.Core.Bool.{true, false}
use mathlib.Core.List.{List}
use Prim.Native.Nat.{ℕ, zero, suc, ◌+◌, ◌-◌, ◌<◌}
use native.Mathlib.Omega.{arith}
use lib.Dec.{eqb}
use lib.ListN.{length}
use Rattle.std.specs.Prelude.{if◌then◌else◌}
use Rattle.words.proofs.Choices.{if_true, if_false}
use Rattle.directory.specs.declared.directory.Directory.{Directory}
use Rattle.answer.specs.declared.answer.Answer.TheVariants.{UsedUp, BadState}
use Rattle.effect.specs.Effect.{Written, apply}
use Rattle.answer.specs.Answer.{refusal, last_record_id}
use Rattle.answer.specs.declared.answer.Refusal.{Refusal}
use Rattle.replay.specs.Replay.{Walked, fault, walked, record_at, tables_kept, image_after, end_in}
use Rattle.replay.specs.Run.{Outcome, stops, by_record, run_from, run_of}
use Rattle.replay.proofs.Checked.{ended-walked, not_ended_lem}
use Rattle.replay.proofs.Opening.{RecordOn, record_on}
use Rattle.std.specs.Prelude.{Ok, Err}

module _ (d : Directory) (log : List ℕ) where
  record_same : (f g : ℕ → ℕ → ℕ → List ℕ → Outcome) (at expected count : ℕ) (image : List ℕ) (r : Walked (List Written))
      → ((ws : List Written) (end : ℕ) → r ≡ walked ws end → f end (expected + 1) (count + 1) (apply d ws image) ≡ g end (expected + 1) (count + 1) (apply d ws image))
      → by_record d f at expected count image r ≡ by_record d g at expected count image r
  record_same f g at expected count image (fault x) e = refl
  record_same f g at expected count image (walked ws end) e =
      ap (λ (x : Outcome). if eqb expected last_record_id then stops (refusal UsedUp end) end (count + 1) (apply d ws image) else x) (e ws end refl)

  -- more records than the log has bytes left change nothing
  pub run-enough : (n m at expected count : ℕ) (image : List ℕ) → length log - at < n → length log - at < m
      → run_from n d log at expected count image ≡ run_from m d log at expected count image
  unfolding run_from
  run-enough zero m at expected count image p q = absurd (omega arith)
  run-enough (suc n) zero at expected count image p q = absurd (omega arith)
  run-enough (suc n) (suc m) at expected count image p q =
      record_same (run_from n d log) (run_from m d log) at expected count image (record_at d log at expected)
      (λ ws end e.
      let o = record_on d log at expected ws end e in
      run-enough n m end (expected + 1) (count + 1) (apply d ws image) (omega (arith, o.forward, o.inside)) (omega (arith, o.forward, o.inside)))

  abbrev pub running : ℕ → ℕ → ℕ → List ℕ → Outcome
  running at expected count image = run_from (suc (length log)) d log at expected count image

  module _ (at expected count : ℕ) (image : List ℕ) where
    pub run-stop : (a : Refusal) → record_at d log at expected ≡ fault a → running at expected count image ≡ stops a at count image
    unfolding run_from
    run-stop a e = ap (by_record d (run_from (length log) d log) at expected count image) e

    pub run-last : (ws : List Written) (end : ℕ) → record_at d log at expected ≡ walked ws end → eqb expected last_record_id ≡ true
        → running at expected count image ≡ stops (refusal UsedUp end) end (count + 1) (apply d ws image)
    unfolding run_from
    run-last ws end e t = ap (by_record d (run_from (length log) d log) at expected count image) e ∙ if_true (eqb expected last_record_id) _ _ t

    pub run_more : (ws : List Written) (end : ℕ) → record_at d log at expected ≡ walked ws end → eqb expected last_record_id ≡ false
        → running at expected count image ≡ running end (expected + 1) (count + 1) (apply d ws image)
    unfolding run_from
    run_more ws end e t =
        let o = record_on d log at expected ws end e in
        ap (by_record d (run_from (length log) d log) at expected count image) e ∙ if_false (eqb expected last_record_id) _ _ t
        ∙ run-enough (length log) (suc (length log)) end (expected + 1) (count + 1) (apply d ws image) (omega (arith, o.forward, o.inside)) (omega (arith, o.forward, o.inside))

-- ---- one turn, from what `replay_kept` answers and leaves

module _ (d : Directory) (log : List ℕ) (at expected count : ℕ) (image after : List ℕ) (left : after ≡ image_after d image (record_at d log at expected)) where
  pub turn-stop : (a : Refusal) → Err a ≡ end_in (record_at d log at expected) → running d log at expected count image ≡ stops a at count after
  turn-stop a e =
      let g : record_at d log at expected ≡ fault a = not_ended_lem (record_at d log at expected) a e in
      run-stop d log at expected count image a g ∙ ap (stops a at count) (sym (left ∙ ap (image_after d image) g))

  pub turn_last : (end : ℕ) → Ok end ≡ end_in (record_at d log at expected) → eqb expected last_record_id ≡ true → running d log at expected count image ≡ stops (refusal UsedUp end) end (count + 1) after
  turn_last end e t =
      let g = ended-walked (record_at d log at expected) end e in
      run-last d log at expected count image g.0 end g.1 t ∙ ap (stops (refusal UsedUp end) end (count + 1)) (sym (left ∙ ap (image_after d image) g.1))

  pub turn_more : (end : ℕ) → Ok end ≡ end_in (record_at d log at expected) → eqb expected last_record_id ≡ false
      → running d log at expected count image ≡ running d log end (expected + 1) (count + 1) after
  turn_more end e t =
      let g = ended-walked (record_at d log at expected) end e in
      run_more d log at expected count image g.0 end g.1 t ∙ ap (running d log end (expected + 1) (count + 1)) (sym (left ∙ ap (image_after d image) g.1))

  pub turn_on : (end : ℕ) → Ok end ≡ end_in (record_at d log at expected) → RecordOn log at end
  turn_on end e = let g = ended-walked (record_at d log at expected) end e in record_on d log at expected g.0 end g.1

-- ---- 13 first

module _ (d : Directory) (log : List ℕ) (at expected : ℕ) (image : List ℕ) where
  pub run-kept : tables_kept d image ≡ true → run_of d log at expected image ≡ running d log at expected 0 image
  unfolding run_of
  run-kept e = if_true (tables_kept d image) _ _ e

  pub run_bad : tables_kept d image ≡ false → run_of d log at expected image ≡ stops (refusal BadState at) at 0 image
  unfolding run_of
  run_bad e = if_false (tables_kept d image) _ _ e
