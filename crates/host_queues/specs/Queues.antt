-- The file queues as 331 words, in the order of their fields (log.rs 713-726: `Log`): the appending file (whether there is one, number, size), the
-- read queue (count, 64 numbers), the file being read (whether there is one, number), cleanup, pool and replay queue (count, 64 numbers each), the
-- 64 first ids, the next number, dirty.
use Rattle.std.specs.Prelude.{Bool, ◌&&◌, List, [], ◌∷◌, ◌++◌, ℕ, ◌+◌, ltb, eqb, length, get_or, take, drop, replicate}
use Rattle.std.specs.Prelude.{if◌then◌else◌}
use Rattle.numbers.specs.Numbers.{one_if}
use Rattle.numbers.specs.declared.queue.NumberQueue.{NumberQueue}
use Rattle.files.specs.Moves.{queues_of, no_files, with_read_queue}
use Rattle.files.specs.declared.queues.Queues.{Queues}
use Rattle.host_words.specs.Head.{flag_from}

-- how many words
abbrev pub queues_size : ℕ
queues_size = 331

-- each word is within its field's range
unfoldable pub queues_formed : List ℕ → Bool
queues_formed w =
    eqb (length w) 331
    && (ltb (get_or w 0 0) 2 && (ltb (get_or w 68 0) 2 && (ltb (get_or w 329 0) 4294967296 && ltb (get_or w 330 0) 2)))

-- 64 numbers from a place on; a count before them
abbrev pub numbers_from : List ℕ → ℕ → List ℕ
numbers_from w at = take 64 (drop at w)

-- a queue from a place on: its count, then its numbers
abbrev pub queue_from : List ℕ → ℕ → NumberQueue
queue_from w at = record { count = get_or w at 0; numbers = numbers_from w (at + 1) }

-- queues that break a rule, "room kept": whoever is handed them answers 13
abbrev pub broken_queues : Queues
broken_queues = with_read_queue no_files (record { count = 65; numbers = replicate 64 0 })

-- the queues that well-formed words are
abbrev pub queues_in : List ℕ → Queues
queues_in w =
    queues_of (record { some = flag_from (get_or w 0 0); id = get_or w 1 0; size = get_or w 2 0 }) (queue_from w 3)
    (record { some = flag_from (get_or w 68 0); id = get_or w 69 0 }) (queue_from w 70) (queue_from w 135) (queue_from w 200) (numbers_from w 265)
    (get_or w 329 0) (flag_from (get_or w 330 0))

-- the queues that words are
unfoldable pub queues_from : List ℕ → Queues
queues_from w = if queues_formed w then queues_in w else broken_queues

-- a queue as words
abbrev pub queue_words : NumberQueue → List ℕ
queue_words q = q.count ∷ q.numbers

-- the appending file, the read queue and the file being read; the three queues behind them
abbrev pub front_words : Queues → List ℕ
front_words q =
    (one_if q.appending.some ∷ q.appending.id ∷ q.appending.size ∷ []) ++ queue_words q.read_queue
    ++ (one_if q.reading.some ∷ q.reading.id ∷ [])

-- cleanup, pool and replay queue as words
abbrev pub behind_words : Queues → List ℕ
behind_words q = queue_words q.cleanup_queue ++ queue_words q.log_pool ++ queue_words q.replay_queue

-- and back
abbrev pub queues_words : Queues → List ℕ
queues_words q = front_words q ++ behind_words q ++ q.replay_ids ++ (q.next_log_id ∷ one_if q.dirty ∷ [])
