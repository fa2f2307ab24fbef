-- The moves that the calls are made of: a place or two of the queues changed, the others as they were.
use Rattle.std.specs.Prelude.{ℕ, Bool, true, false, List, replicate}
use Rattle.numbers.specs.Queue.{no_numbers, pushed, pushed_if, appended, front_of_of, without_first, emptied}
use Rattle.numbers.specs.declared.queue.NumberQueue.{NumberQueue}
use Rattle.files.specs.declared.queues.Appending.{Appending}
use Rattle.files.specs.declared.queues.Reading.{Reading}
use Rattle.files.specs.Queues.{reading_number}
use Rattle.files.specs.declared.queues.Queues.{Queues}

-- the places in document 01's order, then the first ids of the files to replay, the next number, and dirty
abbrev pub queues_of : Appending → NumberQueue → Reading → NumberQueue → NumberQueue → NumberQueue → List ℕ → ℕ → Bool → Queues
queues_of appending readQueue reading cleanup pool replay ids next dirty = record {
  appending = appending;
  read_queue = readQueue;
  reading = reading;
  cleanup_queue = cleanup;
  log_pool = pool;
  replay_queue = replay;
  replay_ids = ids;
  next_log_id = next;
  dirty = dirty;
}

-- no file appending
abbrev pub no_appending : Appending
no_appending = record { some = false; id = 0; size = 0 }

-- a file appending, with its size
abbrev pub appending_file : ℕ → ℕ → Appending
appending_file id size = record { some = true; id = id; size = size }

-- no file being read
abbrev pub no_reading : Reading
no_reading = record { some = false; id = 0 }

-- a file being read
abbrev pub reading_file : ℕ → Reading
reading_file id = record { some = true; id = id }

-- "dirty, set at open"
abbrev pub no_files : Queues
no_files = queues_of no_appending no_numbers no_reading no_numbers no_numbers no_numbers (replicate 64 0) 0 true

-- ---- one place changed
-- another file appending
abbrev pub with_appending : Queues → Appending → Queues
with_appending q a = queues_of a q.read_queue q.reading q.cleanup_queue q.log_pool q.replay_queue q.replay_ids q.next_log_id q.dirty

-- another read queue
abbrev pub with_read_queue : Queues → NumberQueue → Queues
with_read_queue q l = queues_of q.appending l q.reading q.cleanup_queue q.log_pool q.replay_queue q.replay_ids q.next_log_id q.dirty

-- another file being read
abbrev pub with_reading : Queues → Reading → Queues
with_reading q r = queues_of q.appending q.read_queue r q.cleanup_queue q.log_pool q.replay_queue q.replay_ids q.next_log_id q.dirty

-- another cleanup queue
abbrev pub with_cleanup : Queues → NumberQueue → Queues
with_cleanup q l = queues_of q.appending q.read_queue q.reading l q.log_pool q.replay_queue q.replay_ids q.next_log_id q.dirty

-- another pool
abbrev pub with_pool : Queues → NumberQueue → Queues
with_pool q l = queues_of q.appending q.read_queue q.reading q.cleanup_queue l q.replay_queue q.replay_ids q.next_log_id q.dirty

-- another replay queue, with its first ids
abbrev pub with_replay : Queues → NumberQueue → List ℕ → Queues
with_replay q l ids = queues_of q.appending q.read_queue q.reading q.cleanup_queue q.log_pool l ids q.next_log_id q.dirty

-- another next number
abbrev pub with_next : Queues → ℕ → Queues
with_next q n = queues_of q.appending q.read_queue q.reading q.cleanup_queue q.log_pool q.replay_queue q.replay_ids n q.dirty

-- dirty, or not
abbrev pub with_dirty : Queues → Bool → Queues
with_dirty q b = queues_of q.appending q.read_queue q.reading q.cleanup_queue q.log_pool q.replay_queue q.replay_ids q.next_log_id b

-- ---- the moves
-- "moves the appending file to the end of the read queue"
unfoldable pub appending_queued : Queues → Queues
appending_queued q = with_read_queue (with_appending q no_appending) (pushed q.read_queue q.appending.id)

-- "sends reading .. to cleanup": to its end, if there is one
unfoldable pub reading_cleaned : Queues → Queues
reading_cleaned q = with_reading (with_cleanup q (pushed_if q.cleanup_queue (reading_number q))) no_reading

-- "the read queue's front .. the one being read"
unfoldable pub front_read : Queues → Queues
front_read q = with_reading (with_read_queue q (without_first 1 q.read_queue)) (reading_file (front_of_of q.read_queue))

-- the first ids of the files to replay, as a queue of its own
abbrev pub first_ids : Queues → NumberQueue
first_ids q = record { count = q.replay_queue.count; numbers = q.replay_ids }

-- "takes the front of the replay queue": that file is the one being read
unfoldable pub front_replayed : Queues → Queues
front_replayed q =
    with_reading (with_replay q (without_first 1 q.replay_queue) (without_first 1 (first_ids q)).numbers) (reading_file (front_of_of q.replay_queue))

-- "the replay queue, to cleanup"
unfoldable pub replay_cleaned : Queues → Queues
replay_cleaned q = with_replay (with_cleanup q (appended q.cleanup_queue q.replay_queue)) (emptied q.replay_queue) q.replay_ids
