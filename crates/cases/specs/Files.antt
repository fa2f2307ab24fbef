-- What cases (k) and (l) are about: two states of the queues.
use Rattle.std.specs.Prelude.{List, [], ◌∷◌, ◌++◌, ℕ, ◌-◌, length, replicate}
use Rattle.numbers.specs.declared.queue.NumberQueue.{NumberQueue}
use Rattle.files.specs.Moves.{no_files, appending_file, with_appending, with_cleanup, with_pool, with_next}
use Rattle.files.specs.declared.queues.Queues.{Queues}

-- a queue that holds these numbers
abbrev pub queue_holding : List ℕ → NumberQueue
queue_holding l = record { count = length l; numbers = l ++ replicate (64 - length l) 0 }

-- (k): file 0 is appending, 10 bytes of it
abbrev pub ten_bytes : Queues
ten_bytes = with_appending (with_next no_files 1) (appending_file 0 10)

-- 1 to 16
abbrev pub one_to_sixteen : List ℕ
one_to_sixteen = 1 ∷ 2 ∷ 3 ∷ 4 ∷ 5 ∷ 6 ∷ 7 ∷ 8 ∷ 9 ∷ 10 ∷ 11 ∷ 12 ∷ 13 ∷ 14 ∷ 15 ∷ 16 ∷ []

-- (l): files 1 to 16 in the pool, file 0 in cleanup
abbrev pub seventeen_due : Queues
seventeen_due = with_pool (with_cleanup (with_next no_files 17) (queue_holding (0 ∷ []))) (queue_holding one_to_sixteen)
