-- What each move and answer is made of: the parts that the calls before it gave. Assumes nothing.
use Prim.Native.Nat.{ℕ, ◌+◌}
use mathlib.Core.Bool.{true, false}
use mathlib.Core.Path.{◌≡◌}
use lib.ListN.{replicate}
use Rattle.std.specs.Prelude.{Some}
use Rattle.numbers.specs.Queue.{no_numbers, pushed, pushed_if, appended, front_of_of, without_first, emptied}
use Rattle.numbers.specs.declared.queue.NumberQueue.{NumberQueue}
use Rattle.answer.specs.declared.answer.Answer.{Answer}
use Rattle.answer.specs.declared.answer.Answer.TheVariants.{Done}
use Rattle.files.specs.Queues.{reading_number, appending_size}
use Rattle.files.specs.Moves.{queues_of, no_appending, no_reading, reading_file, no_files, with_appending, with_read_queue, with_reading, with_cleanup, with_pool, with_replay, appending_queued, reading_cleaned, front_read, first_ids, front_replayed, replay_cleaned}
use Rattle.files.specs.Calls.{not_cleaned, kill_logs_kept, grown, from_pool, took_from}
use Rattle.files.specs.declared.queues.Appending.{Appending}
use Rattle.files.specs.declared.queues.Reading.{Reading}
use Rattle.files.specs.declared.queues.Queues.{Queues}
use Rattle.files.specs.declared.reading.ReplayNext.{ReplayNext}
use Rattle.files.specs.declared.writing.FileSource.TheVariants.{Pool}
use Rattle.files.specs.declared.cleaning.Cleaned.{Cleaned}
use Rattle.files.specs.declared.cleaning.Killed.{Killed}

pub new_as : (a : Appending) (r : Reading) (w x y z : NumberQueue) → a ≡ no_appending → w ≡ no_numbers → r ≡ no_reading → x ≡ no_numbers → y ≡ no_numbers → z ≡ no_numbers
    → queues_of a w r x y z (replicate 64 0) 0 true ≡ no_files
new_as a r w x y z ea ew er ex ey ez = rw (ea, ew, er, ex, ey, ez)

module _ (q : Queues) where
  pub queued_as : (l : NumberQueue) (a : Appending) → l ≡ pushed q.read_queue q.appending.id → a ≡ no_appending
      → with_appending (with_read_queue q l) a ≡ appending_queued q
  unfolding appending_queued
  queued_as l a e f = rw (e, f)

  pub cleaned_as : (l : NumberQueue) (r : Reading) → l ≡ pushed_if q.cleanup_queue (reading_number q) → r ≡ no_reading
      → with_reading (with_cleanup q l) r ≡ reading_cleaned q
  unfolding reading_cleaned
  cleaned_as l r e f = rw (e, f)

  pub read_as : (l : NumberQueue) (n : ℕ) (r : Reading) → l ≡ without_first 1 q.read_queue → n ≡ front_of_of q.read_queue → r ≡ reading_file n
      → with_reading (with_read_queue q l) r ≡ front_read q
  unfolding front_read
  read_as l n r e f g = rw (g, e, f)

  pub front_as : (l i : NumberQueue) (n : ℕ) (r : Reading) → l ≡ without_first 1 q.replay_queue → i ≡ without_first 1 (first_ids q)
      → n ≡ front_of_of q.replay_queue → r ≡ reading_file n → with_reading (with_replay q l i.numbers) r ≡ front_replayed q
  unfolding front_replayed
  front_as l i n r e f g h = rw (h, e, f, g)

  pub emptied_as : (c e : NumberQueue) → c ≡ appended q.cleanup_queue q.replay_queue → e ≡ emptied q.replay_queue
      → with_replay (with_cleanup q c) e q.replay_ids ≡ replay_cleaned q
  unfolding replay_cleaned
  emptied_as c e f g = rw (f, g)

  pub replayed_as_lem : (q' : Queues) (n : ℕ) → n ≡ front_of_of q.replay_queue → q' ≡ front_replayed (reading_cleaned q)
      → ◌≡◌ {A = ReplayNext} (record { answer = Done; number = Some n; queues = q' }) (record { answer = Done; number = Some (front_of_of q.replay_queue); queues = front_replayed (reading_cleaned q) })
  replayed_as_lem q' n e f = rw (e, f)

  pub not_cleaned_as : (a : Answer) (e r : NumberQueue) → e ≡ no_numbers → r ≡ no_numbers
      → ◌≡◌ {A = Cleaned} (record { answer = a; more = false; empty = e; remove = r; queues = q }) (not_cleaned a q)
  not_cleaned_as a e r f g = rw (f, g)

  pub killed_as : (m e : NumberQueue) (r : Reading) → m ≡ pushed_if q.log_pool (reading_number q) → e ≡ emptied q.log_pool → r ≡ no_reading
      → ◌≡◌ {A = Killed} (record { answer = Done; remove = m; queues = with_reading (with_pool q e) r }) (kill_logs_kept q)
  killed_as m e r f g h = rw (f, g, h)

  pub taken_as : (length id size : ℕ) (l : NumberQueue) (q' : Queues) → size ≡ appending_size q → id ≡ front_of_of q.log_pool → l ≡ without_first 1 q.log_pool
      → q' ≡ grown (with_pool q l) id (size + length) → took_from Pool id q' ≡ took_from Pool (front_of_of q.log_pool) (from_pool q (appending_size q + length))
  taken_as length id size l q' e f g h = rw (h, e, f, g)
