-- No number is ever lost or in two places. Document 01: "At most 64 files, each in one place: appending, read queue, reading, cleanup, pool or
-- replay queue. Calls move numbers and tell the host what to open, empty or remove." Counted: each number stands after a call as often as
-- before it, those made (added) and those removed (taken away). Once at most: `KeepsRules`. Assumes nothing; `QueuesTyped` as there.
use Prim.Native.Nat.{ℕ, ◌+◌, ◌<◌}
use mathlib.Core.Bool.{Bool, true, false}
use mathlib.Core.List.{List, [], ◌∷◌}
use mathlib.Core.Path.{◌≡◌, refl, sym, ap, ◌∙◌}
use native.Mathlib.Omega.{arith}
use lib.Dec.{eqb}
use borrow.Author.Tests.{ltb-true, eqb-false}
use Rattle.std.specs.Prelude.{Result, IfOk}
use Rattle.answer.specs.declared.answer.Answer.{Answer}
use Rattle.numbers.specs.Numbers.{times}
use Rattle.numbers.specs.Queue.{list_of}
use Rattle.numbers.proofs.Laws.{one-le}
use Rattle.numbers.proofs.QueueLists.{push_if_list}
use Rattle.files.specs.Queues.{reading_number, appending_size, files_of, queues_kept, QueuesTyped}
use Rattle.files.specs.Moves.{with_dirty, reading_cleaned, replay_cleaned}
use Rattle.files.specs.Calls.{flushes, flush_one_kept, flush_one, replay_next_kept, replay_next, clear_replay_logs, clean_logs_kept, clean_logs, kill_logs, file_set_full, files_used_up, goes_on_of, made_new, from_pool, taken_by, take_file_kept, take_file, file_made}
use Rattle.files.specs.declared.queues.Queues.{Queues}
use Rattle.files.specs.declared.reading.ReplayNext.{ReplayNext}
use Rattle.files.specs.declared.reading.ReplayCleared.{ReplayCleared}
use Rattle.files.specs.declared.writing.Flushed.{Flushed}
use Rattle.files.specs.declared.writing.Taken.{Taken}
use Rattle.files.specs.declared.cleaning.Cleaned.{Cleaned}
use Rattle.files.specs.declared.cleaning.Killed.{Killed}
use Rattle.files.proofs.Rule.{Kept, kept_facts, sized_appending, door, one-some}
use Rattle.files.proofs.Kept.{queued_times, reading_times, reading_kept, reading_sized, replayed-times, replay-times, killed_times, goes-times, pool-times, made-times}
use Rattle.files.proofs.CleanKept.{cleaned_times}

dirty_files : (q : Queues) (b : Bool) → files_of (with_dirty q b) ≡ files_of q
unfolding files_of
dirty_files q b = refl

-- none is being read
idle : (q : Queues) → (reading_cleaned q).reading.some ≡ false
unfolding reading_cleaned
idle q = refl

waiting : (q : Queues) → (q.replay_queue.count ≡ 0 → ⊥) → 0 < (reading_cleaned q).replay_queue.count
unfolding reading_cleaned
waiting q d = omega arith

module _ (q : Queues) (s : QueuesTyped q) (v : ℕ) where
  module _ (ok : queues_kept q ≡ true) where
    k : Kept q
    k = kept_facts q ok

    flushed : (min : ℕ) → times v (files_of (flush_one_kept q min).queues) ≡ times v (files_of q)
    unfolding flush_one_kept flushes
    flushed min = by (flushes q min) refl
      where
        by : (b : Bool) → flushes q min ≡ b → times v (files_of (flush_one_kept q min).queues) ≡ times v (files_of q)
        by true e = rw e (queued_times q s k (sized_appending q min (ltb-true min (appending_size q) e)) v)
        by false e = rw e

    replayed : times v (files_of (replay_next_kept q).queues) ≡ times v (files_of q)
    unfolding replay_next_kept
    replayed = by (eqb q.replay_queue.count 0) refl
      where
        by : (b : Bool) → eqb q.replay_queue.count 0 ≡ b → times v (files_of (replay_next_kept q).queues) ≡ times v (files_of q)
        by true e = rw e (reading_times q s k v)
        by false e =
            rw e (replayed-times (reading_cleaned q) (reading_sized q s k) (reading_kept q s k) (idle q) (waiting q (eqb-false q.replay_queue.count 0 e)) v ∙ reading_times q s k v)

    replay-emptied : times v (files_of (with_dirty (replay_cleaned (reading_cleaned q)) false)) ≡ times v (files_of q)
    replay-emptied =
        ap (times v) (dirty_files (replay_cleaned (reading_cleaned q)) false) ∙ replay-times (reading_cleaned q) (reading_sized q s k) (reading_kept q s k) v ∙ reading_times q s k v

  pub flush_one_lem : (min : ℕ) → times v (files_of (flush_one q min).queues) ≡ times v (files_of q)
  unfolding flush_one
  flush_one_lem min = door (λ (r : Flushed). times v (files_of r.queues) ≡ times v (files_of q)) (queues_kept q) (λ ok. flushed ok min) refl

  pub replay-next : times v (files_of (replay_next q).queues) ≡ times v (files_of q)
  unfolding replay_next
  replay-next = door (λ (r : ReplayNext). times v (files_of r.queues) ≡ times v (files_of q)) (queues_kept q) replayed refl

  pub clear-replay_logs : times v (files_of (clear_replay_logs q).queues) ≡ times v (files_of q)
  unfolding clear_replay_logs
  clear-replay_logs = door (λ (r : ReplayCleared). times v (files_of r.queues) ≡ times v (files_of q)) (queues_kept q) replay-emptied refl

  -- "keeps the lowest 16, removes the others"
  pub clean_logs_lem : (n : ℕ) → times v (files_of (clean_logs q n).queues) + times v (list_of (clean_logs q n).remove) ≡ times v (files_of q)
  unfolding clean_logs clean_logs_kept
  clean_logs_lem n =
      door (λ (r : Cleaned). times v (files_of r.queues) + times v (list_of r.remove) ≡ times v (files_of q)) (queues_kept q)
      (λ ok. cleaned_times q n s (kept_facts q ok) v) (omega arith)

  -- "removes pool and reading only"
  pub kill_logs_lem : times v (files_of (kill_logs q).queues) + times v (list_of (kill_logs q).remove) ≡ times v (files_of q)
  unfolding kill_logs
  kill_logs_lem =
      door (λ (r : Killed). times v (files_of r.queues) + times v (list_of r.remove) ≡ times v (files_of q)) (queues_kept q)
      (λ ok. rw (push_if_list q.log_pool (reading_number q) (omega (arith, (kept_facts q ok).room.pool, s.pool, one-le q.reading.some, one-some q.reading.some q.reading.id))) (killed_times q s (kept_facts q ok) v))
      (omega arith)

  -- what is left of a choice, by the answer that it comes to
  Made : Taken → Type 0
  Made t = times v (files_of t.queues) ≡ times v (files_of q) + times v (file_made t.source t.number)

  none : (t : Taken) (q' : Queues) → t.queues ≡ q' → times v (files_of q') ≡ times v (files_of q) → file_made t.source t.number ≡ [] → Made t
  unfolding Made
  none t q' e f g = ap (λ (x : Queues). times v (files_of x)) e ∙ f ∙ more ∙ ap (λ (l : List ℕ). times v (files_of q) + times v l) (sym g)
    where
      more : times v (files_of q) ≡ times v (files_of q) + 0
      more = omega arith

  taken : (size : ℕ) → Kept q → Made (taken_by q size)
  unfolding taken_by Made
  taken size r = by q.appending.some refl (eqb q.log_pool.count 0) refl
    where
      by : (b : Bool) → q.appending.some ≡ b → (d : Bool) → eqb q.log_pool.count 0 ≡ d → Made (taken_by q size)
      by true a d e = none (taken_by q size) (goes_on_of q size) (rw a) (goes-times q s r size a v) (rw a)
      by false n true e =
          let x : (taken_by q size).queues ≡ made_new q size = rw (n, e) in
          let y : file_made (taken_by q size).source (taken_by q size).number ≡ q.next_log_id ∷ [] = rw (n, e) in
          ap (λ (z : Queues). times v (files_of z)) x ∙ made-times q s r size n v ∙ ap (λ (l : List ℕ). times v (files_of q) + times v l) (sym y)
      by false n false e =
          none (taken_by q size) (from_pool q size) (rw (n, e)) (pool-times q s r size n (omega (arith, eqb-false q.log_pool.count 0 e)) v) (rw (n, e))

  made_if : Result Taken Answer → Type 0
  made_if r = IfOk r Made

  file-taken : (length : ℕ) → Kept q → made_if (take_file_kept q length)
  unfolding take_file_kept made_if
  file-taken length r = door made_if (file_set_full q) (λ e. tt) (door made_if (files_used_up q length) (λ e. tt) (taken (appending_size q + length) r))

  -- "a new number only if the pool is empty"
  pub take_file_lem : (length : ℕ) → IfOk (take_file q length) (λ (t : Taken). times v (files_of t.queues) ≡ times v (files_of q) + times v (file_made t.source t.number))
  unfolding take_file Made made_if
  take_file_lem length = door made_if (queues_kept q) (λ ok. file-taken length (kept_facts q ok)) tt
