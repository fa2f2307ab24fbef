-- A run "stops at the first answer other than 0, and reports that answer, the position where the record not replayed begins, and the number
-- of records replayed"; "After id 2^64-1 it stops with 12." (document 01, "Replay"). Assumes nothing.
use mathlib.Core.Path.{◌≡◌, refl}
use mathlib.Core.Bool.{Bool, true, false}
use mathlib.Core.List.{List}
use Prim.Native.Nat.{ℕ, zero, suc, ◌+◌, ◌-◌, ◌<◌}
use native.Mathlib.Omega.{arith}
use lib.Dec.{eqb}
use lib.ListN.{length}
use borrow.Author.Tests.{eqb-true}
use Rattle.directory.specs.declared.directory.Directory.{Directory}
use Rattle.effect.specs.Effect.{Written, apply}
use Rattle.answer.specs.Answer.{last_record_id}
use Rattle.replay.specs.Replay.{Walked, fault, walked, record_at, tables_kept}
use Rattle.replay.specs.Run.{by_record, run_from, run_of, Stops, refuses, used-up}
use Rattle.replay.proofs.Opening.{record_on}

module _ (d : Directory) (log : List ℕ) (first : ℕ) where
  run-stops : (n at count : ℕ) (image : List ℕ) → length log - at < n → Stops d log first (run_from n d log at (first + count) count image)
  unfolding run_from
  run-stops zero at count image h = absurd (omega arith)
  run-stops (suc n) at count image h = go (record_at d log at (first + count)) refl (run-stops n)
    where
      Next : Type 0
      Next = (at count : ℕ) (image : List ℕ) → length log - at < n → Stops d log first (run_from n d log at (first + count) count image)

      last : (ws : List Written) (end : ℕ) → record_at d log at (first + count) ≡ walked ws end → (b : Bool) → eqb (first + count) last_record_id ≡ b → Next
          → Stops d log first (by_record d (run_from n d log) at (first + count) count image (walked ws end))
      last ws end e true b ih =
          let p : first + count ≡ last_record_id = eqb-true (first + count) last_record_id b in
          rw b (used-up (omega arith) refl refl)
      last ws end e false b ih =
          let o = record_on d log at (first + count) ws end e in
          let z : first + (count + 1) ≡ first + count + 1 = omega arith in
          rw (b, ← z) (ih end (count + 1) (apply d ws image) (omega (arith, o.forward, o.inside)))

      go : (g : Walked (List Written)) → record_at d log at (first + count) ≡ g → Next → Stops d log first (by_record d (run_from n d log) at (first + count) count image g)
      go (fault x) e ih = refuses x e refl refl
      go (walked ws end) e ih = last ws end e (eqb (first + count) last_record_id) refl ih

  -- THE STOP
  pub stop_is : (at : ℕ) (image : List ℕ) → tables_kept d image ≡ true → Stops d log first (run_of d log at first image)
  unfolding run_of
  stop_is at image kept =
      let z : first + 0 ≡ first = omega arith in
      rw kept (rw z at (run-stops (suc (length log)) at 0 image (omega arith)))
