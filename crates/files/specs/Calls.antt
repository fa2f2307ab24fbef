-- What each call answers, hands back and tells the host (document 01, "File numbers"; log.rs 780-1084). Each is said first of queues
-- that keep the rules (`..Kept`); queues that break one get 13 (document 01: "Order in every call: 13, then .."). A refusal hands the queues
-- back as they were and tells the host nothing.
use Rattle.std.specs.Prelude.{ℕ, ◌+◌, Bool, true, false, not, ◌&&◌, ◌||◌, List, [], ◌∷◌, ltb, eqb, leb, Option, Some, None, Result, Ok, Err}
use Rattle.std.specs.Prelude.{if◌then◌else◌}
use Rattle.numbers.specs.Queue.{list_of, no_numbers, pushed_if, front_of_of, first_of, without_first, emptied, all_sorted_in}
use Rattle.numbers.specs.declared.queue.NumberQueue.{NumberQueue}
use Rattle.answer.specs.declared.answer.Answer.{Answer}
use Rattle.answer.specs.declared.answer.Answer.TheVariants.{Done, NoRoom, UsedUp, BadState}
use Rattle.files.specs.Queues.{reading_number, appending_size, file_count, queues_kept}
use Rattle.files.specs.Moves.{appending_file, no_reading, with_appending, with_reading, with_cleanup, with_pool, with_next, with_dirty, appending_queued, reading_cleaned, first_ids, front_replayed, replay_cleaned}
use Rattle.files.specs.declared.queues.Queues.{Queues}
use Rattle.files.specs.declared.reading.ReplayNext.{ReplayNext}
use Rattle.files.specs.declared.reading.ReplayCleared.{ReplayCleared}
use Rattle.files.specs.declared.writing.Flushed.{Flushed}
use Rattle.files.specs.declared.writing.Taken.{Taken}
use Rattle.files.specs.declared.writing.FileSource.{FileSource}
use Rattle.files.specs.declared.writing.FileSource.TheVariants.{Appending, Pool, New}
use Rattle.files.specs.declared.cleaning.Cleaned.{Cleaned}
use Rattle.files.specs.declared.cleaning.Killed.{Killed}

-- ---- `flush_one` (log.rs 971-987)
-- "exactly if its size is greater than the minimum; none counts as 0"
unfoldable pub flushes : Queues → ℕ → Bool
flushes q min = ltb min (appending_size q)

-- nothing moved
abbrev pub not_flushed : Answer → Queues → Flushed
not_flushed answer q = record { answer = answer; moved = None; queues = q }

-- "moves the appending file to the end of the read queue .. ; it says which"
unfoldable pub flush_one_kept : Queues → ℕ → Flushed
flush_one_kept q min =
    if flushes q min then record { answer = Done; moved = Some q.appending.id; queues = appending_queued q } else
    not_flushed Done q

-- behind 13
unfoldable pub flush_one : Queues → ℕ → Flushed
flush_one q min = if queues_kept q then flush_one_kept q min else not_flushed BadState q

-- ---- `replay_record_id` (log.rs 780-782): the id of the replay queue's front, or that there is none
-- the id of the replay queue's front, or that there is none
unfoldable pub replay_record_id : Queues → Option ℕ
replay_record_id q = if eqb q.replay_queue.count 0 then None else Some (front_of_of (first_ids q))

-- ---- `replay_next` (log.rs 989-1005)
-- no file to replay
abbrev pub no_replay : Answer → Queues → ReplayNext
no_replay answer q = record { answer = answer; number = None; queues = q }

-- "sends reading to cleanup, then takes the front of the replay queue or says there is none; both are 0"
unfoldable pub replay_next_kept : Queues → ReplayNext
replay_next_kept q =
    if eqb q.replay_queue.count 0 then no_replay Done (reading_cleaned q) else
    record { answer = Done; number = Some (front_of_of q.replay_queue); queues = front_replayed (reading_cleaned q) }

-- behind 13
unfoldable pub replay_next : Queues → ReplayNext
replay_next q = if queues_kept q then replay_next_kept q else no_replay BadState q

-- ---- the queues' part of `clear_replay_logs` (log.rs 816-837)
-- "sends reading, then the replay queue, to cleanup, .. clears dirty"
abbrev pub clear_replay_logs_kept : Queues → ReplayCleared
clear_replay_logs_kept q = record { answer = Done; queues = with_dirty (replay_cleaned (reading_cleaned q)) false }

-- behind 13
unfoldable pub clear_replay_logs : Queues → ReplayCleared
clear_replay_logs q = if queues_kept q then clear_replay_logs_kept q else record { answer = BadState; queues = q }

-- ---- `clean_logs` (log.rs 1007-1032)
-- "the first n of cleanup, or all if fewer, into the pool, sorts by number"
unfoldable pub pooled : Queues → ℕ → NumberQueue
pooled q n = all_sorted_in q.log_pool (list_of (first_of n q.cleanup_queue))

-- "keeps the lowest 16"
unfoldable pub cleanup_pooled : Queues → ℕ → Queues
cleanup_pooled q n = with_pool (with_cleanup q (without_first n q.cleanup_queue)) (first_of 16 (pooled q n))

-- the host empties those taken from cleanup, in its order, then "removes the others", ascending; "says whether cleanup still holds any"
unfoldable pub clean_logs_kept : Queues → ℕ → Cleaned
clean_logs_kept q n = record {
  answer = Done;
  more = ltb n q.cleanup_queue.count;
  empty = first_of n q.cleanup_queue;
  remove = without_first 16 (pooled q n);
  queues = cleanup_pooled q n;
}

-- nothing told
abbrev pub not_cleaned : Answer → Queues → Cleaned
not_cleaned answer q = record { answer = answer; more = false; empty = no_numbers; remove = no_numbers; queues = q }

-- behind 13
unfoldable pub clean_logs : Queues → ℕ → Cleaned
clean_logs q n = if queues_kept q then clean_logs_kept q n else not_cleaned BadState q

-- ---- `kill_logs` (log.rs 1073-1084)
-- neither pool nor file being read
abbrev pub without_pool : Queues → Queues
without_pool q = with_reading (with_pool q (emptied q.log_pool)) no_reading

-- "removes pool and reading only": the pool ascending, then the file being read
abbrev pub kill_logs_kept : Queues → Killed
kill_logs_kept q = record { answer = Done; remove = pushed_if q.log_pool (reading_number q); queues = without_pool q }

-- behind 13
unfoldable pub kill_logs : Queues → Killed
kill_logs q = if queues_kept q then kill_logs_kept q else record { answer = BadState; remove = no_numbers; queues = q }

-- ---- what the end of a record needs of the files (log.rs 847-868, 896-897)
-- "With none appending, the pool's lowest is taken, a new number only if the pool is empty"
unfoldable pub needs_new : Queues → Bool
needs_new q = not q.appending.some && eqb q.log_pool.count 0

-- 9: a new file is needed, and there are 64
unfoldable pub file_set_full : Queues → Bool
file_set_full q = needs_new q && eqb (file_count q) 64

-- a new number is needed, and "the last one is 2^32-2"
unfoldable pub lacks_number : Queues → Bool
lacks_number q = needs_new q && eqb q.next_log_id 4294967295

-- 12: there is no number, or with the record "A file's size stays below 2^63." would be broken
unfoldable pub files_used_up : Queues → ℕ → Bool
files_used_up q more = lacks_number q || leb 9223372036854775808 (appending_size q + more)

-- the file that is appended to, with its size; "dirty .. is set"
abbrev pub grown : Queues → ℕ → ℕ → Queues
grown q id size = with_dirty (with_appending q (appending_file id size)) true

-- the file appending goes on
abbrev pub goes_on_of : Queues → ℕ → Queues
goes_on_of q size = grown q q.appending.id size

-- a new file, of the next number
abbrev pub made_new : Queues → ℕ → Queues
made_new q size = grown (with_next q (q.next_log_id + 1)) q.next_log_id size

-- the pool's lowest
abbrev pub from_pool : Queues → ℕ → Queues
from_pool q size = grown (with_pool q (without_first 1 q.log_pool)) (front_of_of q.log_pool) size

-- a file taken, and where from
abbrev pub took_from : FileSource → ℕ → Queues → Taken
took_from source number q = record { source = source; number = number; queues = q }

-- which file is taken, its size being as given
unfoldable pub taken_by : Queues → ℕ → Taken
taken_by q size =
    if q.appending.some then took_from Appending q.appending.id (goes_on_of q size) else
    if eqb q.log_pool.count 0 then took_from New q.next_log_id (made_new q size) else
    took_from Pool (front_of_of q.log_pool) (from_pool q size)

-- "9 for files, 12"; "The record's length adds to the file's size (0 when taken)"
unfoldable pub take_file_kept : Queues → ℕ → Result Taken Answer
take_file_kept q more =
    if file_set_full q then Err NoRoom else
    if files_used_up q more then Err UsedUp else
    Ok (taken_by q (appending_size q + more))

-- behind 13
unfoldable pub take_file : Queues → ℕ → Result Taken Answer
take_file q more = if queues_kept q then take_file_kept q more else Err BadState

-- the queues then: as they were where the call refuses
abbrev pub taken_queues : Queues → Result Taken Answer → Queues
taken_queues q (Ok t) = t.queues
taken_queues q (Err a) = q

-- the number of the file that was made for a record, if one was
abbrev pub file_made : FileSource → ℕ → List ℕ
file_made Appending n = []
file_made Pool n = []
file_made New n = n ∷ []
