-- "A log cut at any byte leaves the tables of its whole records. (Premise: uncut, its run ends with 1.)" (document 01, "Replay")
-- "the number of records replayed, which are exactly the whole acceptable ones before it" (the same). Assumes nothing.
use mathlib.Core.Path.{◌≡◌, refl, sym, ap, ◌∙◌}
use mathlib.Core.Bool.{Bool, true, false}
use mathlib.Core.List.{List, [], ◌++◌, append-nil}
use Prim.Native.Nat.{ℕ, zero, suc, ◌+◌, ◌≤◌}
use native.Mathlib.Omega.{arith}
use lib.Dec.{eqb, leb}
use lib.ListN.{length, take, drop, take-append-drop}
use lib.Seq.{length-take-le, take-take, take-length}
use borrow.Author.Tests.{leb-true, leb-false}
use Rattle.words.proofs.Choices.{if_true}
use Rattle.directory.specs.declared.directory.Directory.{Directory}
use Rattle.answer.specs.declared.answer.Answer.TheVariants.{EndOfLog}
use Rattle.effect.specs.Effect.{Written, apply}
use Rattle.answer.specs.Answer.{last_record_id}
use Rattle.replay.specs.Replay.{Walked, fault, walked, record_at, tables_kept}
use Rattle.replay.specs.Run.{Outcome, by_record, run_from, run_of, by_whole, whole_within, whole_records, Chain, chain_end, chain_more, apply_all, Leaves}
use Rattle.replay.proofs.Cut.{record_cut}
use Rattle.replay.proofs.Opening.{record_on}
use Rattle.replay.proofs.Records.{run-enough}

-- `Leaves`, with records counted already
record LeavesFrom (d : Directory) (log : List ℕ) (at first count : ℕ) (image : List ℕ) (rs : List (List Written)) (o : Outcome) : Type 0 where
  stand : Chain d log at first rs o.ran.position
  counts : o.ran.count ≡ count + length rs
  tables : o.image ≡ apply_all d rs image

module _ (d : Directory) (log : List ℕ) (k : ℕ) (cut : k ≤ length log) where
  abbrev short : List ℕ
  short = take k log

  -- a whole record that ends at k or before it stands in the cut log
  down : (at expected : ℕ) (ws : List Written) (end : ℕ) → end ≤ k → record_at d log at expected ≡ walked ws end → record_at d short at expected ≡ walked ws end
  down at expected ws end h e = ap (λ (l : List ℕ). record_at d l at expected) (sym (append-nil short)) ∙ record_cut d log [] k cut at expected ws end h e

  -- and a whole record of the cut log stands in the log, and ends at k or before it
  up : (at expected : ℕ) (ws : List Written) (end : ℕ) → record_at d short at expected ≡ walked ws end → (record_at d log at expected ≡ walked ws end) × (end ≤ k)
  up at expected ws end e =
      let l : length short ≡ k = length-take-le k log cut in
      let o = record_on d short at expected ws end e in
      let f : take k short ++ drop k log ≡ log = rw (take-take k k log (omega arith)) (take-append-drop k log) in (
        ap (λ (x : List ℕ). record_at d x at expected) (sym f) ∙ record_cut d short (drop k log) k (omega arith) at expected ws end (omega (arith, o.inside)) e,
        omega (arith, o.inside),
      )

  -- where the log has no whole record that ends by k, the cut log has none
  none : (at expected : ℕ) (g : Walked (List Written)) → record_at d short at expected ≡ g → ((ws : List Written) (end : ℕ) → record_at d log at expected ≡ walked ws end → end ≤ k → ⊥)
      → (on : ℕ → ℕ → ℕ → List ℕ → Outcome) (count : ℕ) (image : List ℕ) → LeavesFrom d log at expected count image [] (by_record d on at expected count image g)
  unfolding apply_all
  none at expected (fault x) e h on count image = record { stand = chain_end; counts = omega arith; tables = refl }
  none at expected (walked ws end) e h on count image = let u = up at expected ws end e in absurd (h ws end u.0 u.1)

  -- the run over the cut log leaves what the log's records that end by k leave
  run-cut : (n at expected count : ℕ) (image : List ℕ) → LeavesFrom d log at expected count image (whole_within n k d log at expected) (run_from n d short at expected count image)
  unfolding run_from whole_within apply_all
  run-cut zero at expected count image = record { stand = chain_end; counts = omega arith; tables = refl }
  run-cut (suc n) at expected count image = go (record_at d log at expected) refl (λ end image. run-cut n end (expected + 1) (count + 1) image)
    where
      Next : Type 0
      Next = (end : ℕ) (image : List ℕ) → LeavesFrom d log end (expected + 1) (count + 1) image (whole_within n k d log end (expected + 1)) (run_from n d short end (expected + 1) (count + 1) image)

      Goal : Walked (List Written) → Type 0
      Goal g = LeavesFrom d log at expected count image (by_whole (whole_within n k d log) k expected g) (by_record d (run_from n d short) at expected count image (record_at d short at expected))

      last : (ws : List Written) (end : ℕ) → record_at d log at expected ≡ walked ws end → (b : Bool) → leb end k ≡ b → (t : Bool) → eqb expected last_record_id ≡ t → Next → Goal (walked ws end)
      last ws end e true b true t ih =
          rw (down at expected ws end (leb-true end k b) e, b, t) (record { stand = chain_more e chain_end; counts = omega arith; tables = refl })
      last ws end e true b false t ih =
          let x = ih end (apply d ws image) in
          rw (down at expected ws end (leb-true end k b) e, b, t) (record { stand = chain_more e x.stand; counts = omega (arith, x.counts); tables = x.tables })
      last ws end e false b t₀ t ih =
          rw b
          (none at expected (record_at d short at expected) refl
          (λ vs x f l. let p : x ≡ end = cc (sym f ∙ e) in omega (arith, leb-false end k b)) (run_from n d short) count image)

      go : (g : Walked (List Written)) → record_at d log at expected ≡ g → Next → Goal g
      go (fault x) e ih =
          none at expected (record_at d short at expected) refl (λ vs x f l. let z : ◌≡◌ {A = ℕ} 0 1 = cc (sym f ∙ e) in omega arith) (run_from n d short) count image
      go (walked ws end) e ih = last ws end e (leb end k) refl (eqb expected last_record_id) refl ih

module _ (d : Directory) (log : List ℕ) (at expected : ℕ) (image : List ℕ) (kept : tables_kept d image ≡ true) where
  run_is : (l : List ℕ) → run_of d l at expected image ≡ run_from (suc (length l)) d l at expected 0 image
  unfolding run_of
  run_is l = if_true (tables_kept d image) _ _ kept

  -- the run over the log cut at byte k leaves the tables of its whole records, those that end at k or before it, and counts them
  pub cut_anywhere : (k : ℕ) → k ≤ length log → Leaves d log at expected image (whole_records k d log at expected) (run_of d (take k log) at expected image)
  cut_anywhere k h =
      let l : length (take k log) ≡ k = length-take-le k log h in
      let e : run_of d (take k log) at expected image ≡ run_from (suc (length log)) d (take k log) at expected 0 image =
      run_is (take k log) ∙ run-enough d (take k log) (suc (length (take k log))) (suc (length log)) at expected 0 image (omega arith) (omega arith) in
      let x = run-cut d log k h (suc (length log)) at expected 0 image in
      rw e (record { stand = x.stand; counts = omega (arith, x.counts); tables = x.tables })

  -- THE COUNT: a run replays exactly the whole acceptable records from its position on, and its image is theirs, record by record
  pub run-exactly : Leaves d log at expected image (whole_records (length log) d log at expected) (run_of d log at expected image)
  run-exactly = rw take-length at (cut_anywhere (length log) (omega arith))

  -- THE CUT, with 01's premise (it holds without it, as `cut_anywhere` says)
  pub cut-log : (run_of d log at expected image).ran.answer ≡ EndOfLog
      → (k : ℕ) → k ≤ length log → Leaves d log at expected image (whole_records k d log at expected) (run_of d (take k log) at expected image)
  cut-log premise k h = cut_anywhere k h
