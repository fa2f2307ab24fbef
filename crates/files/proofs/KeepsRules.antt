-- Every call keeps the rules. Document 01: "Rules of a state: room kept, no key twice, no mask 0, each file in one place and below the next
-- number, pool ascending and at most 16." Handed queues that break one, a call answers 13 and hands them back as they were, by definition.
-- Assumes nothing; `QueuesTyped` says that the arrays have the lengths that their types give them.
use Prim.Native.Nat.{ℕ, ◌+◌, ◌<◌}
use mathlib.Core.Bool.{Bool, true, false, ◌&&◌}
use mathlib.Core.Path.{◌≡◌, refl, ◌∙◌}
use native.Mathlib.Omega.{arith}
use lib.Dec.{eqb}
use borrow.Author.Tests.{ltb-true, eqb-false}
use Rattle.std.specs.Prelude.{Result, IfOk}
use Rattle.answer.specs.declared.answer.Answer.{Answer}
use Rattle.files.specs.Queues.{appending_size, files_of, file_count, room_kept, queues_kept, QueuesTyped}
use Rattle.files.specs.Moves.{with_dirty, reading_cleaned, replay_cleaned}
use Rattle.files.specs.Calls.{flushes, flush_one_kept, flush_one, replay_next_kept, replay_next, clear_replay_logs_kept, clear_replay_logs, clean_logs_kept, clean_logs, kill_logs_kept, kill_logs, needs_new, file_set_full, files_used_up, taken_by, take_file_kept, take_file}
use Rattle.files.specs.declared.queues.Queues.{Queues}
use Rattle.files.specs.declared.reading.ReplayNext.{ReplayNext}
use Rattle.files.specs.declared.reading.ReplayCleared.{ReplayCleared}
use Rattle.files.specs.declared.writing.Flushed.{Flushed}
use Rattle.files.specs.declared.writing.Taken.{Taken}
use Rattle.files.specs.declared.cleaning.Cleaned.{Cleaned}
use Rattle.files.specs.declared.cleaning.Killed.{Killed}
use Rattle.files.proofs.Rule.{Kept, kept_facts, kept-makes, sized_appending, size_low, behind-door}
use Rattle.files.proofs.Kept.{queued_kept, reading_kept, reading_sized, replayed-kept, replay-kept, killed_kept, goes_kept, pool-kept, made_kept}
use Rattle.files.proofs.CleanKept.{cleaned_kept}

and_right : (a b : Bool) → a ≡ true → (a && b) ≡ false → b ≡ false
and_right true b e f = f
and_right false b e f = let z : ◌≡◌ {A = ℕ} 0 1 = cc in absurd (omega arith)

dirty_same : (q : Queues) (b : Bool) → queues_kept (with_dirty q b) ≡ queues_kept q
unfolding queues_kept room_kept file_count files_of appending_size
dirty_same q b = refl

module _ (q : Queues) (s : QueuesTyped q) (ok : queues_kept q ≡ true) where
  k : Kept q
  k = kept_facts q ok

  pub flush_one-kept : (min : ℕ) → queues_kept (flush_one_kept q min).queues ≡ true
  unfolding flush_one_kept flushes
  flush_one-kept min = by (flushes q min) refl
    where
      by : (b : Bool) → flushes q min ≡ b → queues_kept (flush_one_kept q min).queues ≡ true
      by true e = rw e (kept-makes _ (queued_kept q s k (sized_appending q min (ltb-true min (appending_size q) e))))
      by false e = rw e ok

  pub flush_one_lem : (min : ℕ) → queues_kept (flush_one q min).queues ≡ true
  unfolding flush_one
  flush_one_lem min = behind-door (λ (r : Flushed). queues_kept r.queues ≡ true) _ (queues_kept q) ok (flush_one-kept min)

  cleaned_first : Kept (reading_cleaned q)
  cleaned_first = reading_kept q s k

  pub replay-next-kept : queues_kept (replay_next_kept q).queues ≡ true
  unfolding replay_next_kept reading_cleaned
  replay-next-kept = by (eqb q.replay_queue.count 0) refl
    where
      by : (b : Bool) → eqb q.replay_queue.count 0 ≡ b → queues_kept (replay_next_kept q).queues ≡ true
      by true e = rw e (kept-makes _ cleaned_first)
      by false e =
          rw e (kept-makes _ (replayed-kept (reading_cleaned q) (reading_sized q s k) cleaned_first refl (omega (arith, eqb-false q.replay_queue.count 0 e))))

  pub replay-next : queues_kept (replay_next q).queues ≡ true
  unfolding replay_next
  replay-next = behind-door (λ (r : ReplayNext). queues_kept r.queues ≡ true) _ (queues_kept q) ok replay-next-kept

  pub clear-replay_logs_kept : queues_kept (clear_replay_logs_kept q).queues ≡ true
  clear-replay_logs_kept = dirty_same (replay_cleaned (reading_cleaned q)) false ∙ kept-makes _ (replay-kept (reading_cleaned q) (reading_sized q s k) cleaned_first)

  pub clear-replay_logs : queues_kept (clear_replay_logs q).queues ≡ true
  unfolding clear_replay_logs
  clear-replay_logs = behind-door (λ (r : ReplayCleared). queues_kept r.queues ≡ true) _ (queues_kept q) ok clear-replay_logs_kept

  pub clean_logs_kept_lem : (n : ℕ) → queues_kept (clean_logs_kept q n).queues ≡ true
  unfolding clean_logs_kept
  clean_logs_kept_lem n = kept-makes _ (cleaned_kept q n s k)

  pub clean_logs_lem : (n : ℕ) → queues_kept (clean_logs q n).queues ≡ true
  unfolding clean_logs
  clean_logs_lem n = behind-door (λ (r : Cleaned). queues_kept r.queues ≡ true) _ (queues_kept q) ok (clean_logs_kept_lem n)

  pub kill_logs_kept_lem : queues_kept (kill_logs_kept q).queues ≡ true
  kill_logs_kept_lem = kept-makes _ (killed_kept q s k)

  pub kill_logs_lem : queues_kept (kill_logs q).queues ≡ true
  unfolding kill_logs
  kill_logs_lem = behind-door (λ (r : Killed). queues_kept r.queues ≡ true) _ (queues_kept q) ok kill_logs_kept_lem

  -- a file that is new finds room
  module _ (size : ℕ) (low : size < 9223372036854775808) (room : file_set_full q ≡ false) where
    fewer : q.appending.some ≡ false → eqb q.log_pool.count 0 ≡ true → file_count q < 64
    unfolding needs_new file_set_full file_count
    fewer n z =
        let w : needs_new q ≡ true = rw (n, z) in
        omega (arith, k.room.all, eqb-false (file_count q) 64 (and_right (needs_new q) (eqb (file_count q) 64) w room))

    taken : queues_kept (taken_by q size).queues ≡ true
    unfolding taken_by file_count
    taken = by q.appending.some refl (eqb q.log_pool.count 0) refl
      where
        by : (b : Bool) → q.appending.some ≡ b → (d : Bool) → eqb q.log_pool.count 0 ≡ d → queues_kept (taken_by q size).queues ≡ true
        by true a d e = rw a (kept-makes _ (goes_kept q s k size a low))
        by false n true e = rw (n, e) (kept-makes _ (made_kept q s k size n low (fewer n e)))
        by false n false e = rw (n, e) (kept-makes _ (pool-kept q s k size n (omega (arith, eqb-false q.log_pool.count 0 e)) low))

  pub take_file-kept : (length : ℕ) → IfOk (take_file_kept q length) (λ (t : Taken). queues_kept t.queues ≡ true)
  unfolding take_file_kept
  take_file-kept length = by (file_set_full q) refl (files_used_up q length) refl
    where
      by : (a : Bool) → file_set_full q ≡ a → (b : Bool) → files_used_up q length ≡ b → IfOk (take_file_kept q length) (λ (t : Taken). queues_kept t.queues ≡ true)
      by true e b f = rw e tt
      by false e true f = rw (e, f) tt
      by false e false f = rw (e, f) (taken (appending_size q + length) (size_low q length f) e)

  pub take_file_lem : (length : ℕ) → IfOk (take_file q length) (λ (t : Taken). queues_kept t.queues ≡ true)
  unfolding take_file
  take_file_lem length = behind-door (λ (r : Result Taken Answer). IfOk r (λ (t : Taken). queues_kept t.queues ≡ true)) _ (queues_kept q) ok (take_file-kept length)
