-- The file queues as lists, and the rules of their state (document 01, "File numbers" and "Numbered answers"; `Log`, log.rs 700-726).
-- What lies behind a queue's count means nothing; nor does what stands beside a `some` that is false.
use Rattle.std.specs.Prelude.{ℕ, ◌+◌, Bool, ◌&&◌, List, ◌++◌, ◌≡◌, ltb, leb, length, Option}
use Rattle.std.specs.Bool.{then_some}
use Rattle.std.specs.Prelude.{if◌then◌else◌}
use Rattle.numbers.specs.Numbers.{all_below, distinct, ascends, some_of, one_if}
use Rattle.numbers.specs.Queue.{list_of}
use Rattle.files.specs.declared.queues.Queues.{Queues}

-- the number of the file that is appended to, if there is one
abbrev pub appending_number : Queues → Option ℕ
appending_number q = then_some q.appending.some q.appending.id

-- the number of the file being read, if there is one
abbrev pub reading_number : Queues → Option ℕ
reading_number q = then_some q.reading.some q.reading.id

-- the file that is appended to, if there is one
abbrev pub appending_of : Queues → List ℕ
appending_of q = some_of (appending_number q)

-- the files of the read queue, the front first
abbrev pub read_queue_of : Queues → List ℕ
read_queue_of q = list_of q.read_queue

-- the file being read, if there is one
abbrev pub reading_of : Queues → List ℕ
reading_of q = some_of (reading_number q)

-- the files to clean, the front first
abbrev pub cleanup_of : Queues → List ℕ
cleanup_of q = list_of q.cleanup_queue

-- the files of the pool
abbrev pub pool_of : Queues → List ℕ
pool_of q = list_of q.log_pool

-- beside it, in the same places, the id of each file's first record
abbrev pub replay_of : Queues → List ℕ
replay_of q = list_of q.replay_queue

-- the appending file's size; "none counts as 0"
unfoldable pub appending_size : Queues → ℕ
appending_size q = if q.appending.some then q.appending.size else 0

-- every file, place by place: "appending, read queue, reading, cleanup, pool or replay queue"
unfoldable pub files_of : Queues → List ℕ
files_of q = appending_of q ++ read_queue_of q ++ reading_of q ++ cleanup_of q ++ pool_of q ++ replay_of q

-- how many there are
unfoldable pub file_count : Queues → ℕ
file_count q =
    one_if q.appending.some + q.read_queue.count + one_if q.reading.some + q.cleanup_queue.count + q.log_pool.count
    + q.replay_queue.count

-- "room kept": each queue within its array, "pool .. at most 16", and "At most 64 files"
unfoldable pub room_kept : Queues → Bool
room_kept q =
    leb q.read_queue.count 64 && (leb q.cleanup_queue.count 64 && (leb q.log_pool.count 16 &&
    (leb q.replay_queue.count 64 && leb (file_count q) 64)))

-- "Rules of a state: room kept, .. each file in one place and below the next number, pool ascending and at most 16";
-- "A file's size stays below 2^63." A call that is handed any other state answers 13
unfoldable pub queues_kept : Queues → Bool
queues_kept q =
    room_kept q && (all_below q.next_log_id (files_of q) && (distinct (files_of q) && (ascends (pool_of q) &&
    ltb (appending_size q) 9223372036854775808)))

-- What the types say of queues that code is handed, a premise of the theorems and no rule that is tested: each array has 64 numbers
pub record QueuesTyped (q : Queues) : Type 0 where
  pub read : length q.read_queue.numbers ≡ 64
  pub cleanup : length q.cleanup_queue.numbers ≡ 64
  pub pool : length q.log_pool.numbers ≡ 64
  pub replay : length q.replay_queue.numbers ≡ 64
