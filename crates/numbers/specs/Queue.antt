-- Queues of numbers: the first `count` of an array. What lies behind them means nothing; what each operation leaves there is said all the same.
-- What each of them comes to on lists: proofs/QueueLists.
use Rattle.std.specs.Prelude.{ℕ, ◌+◌, ◌-◌, min, List, [], ◌∷◌, get_or, set, take, drop, replicate, Option, Some, None}
use Rattle.std.proofs.Math.Seq.{paste}
use Rattle.numbers.specs.Numbers.{spot, put_in, over}
use Rattle.numbers.specs.declared.queue.NumberQueue.{NumberQueue}

-- the numbers in a queue, in its order
abbrev pub list_of : NumberQueue → List ℕ
list_of q = take q.count q.numbers

-- an empty queue
abbrev pub no_numbers : NumberQueue
no_numbers = record { count = 0; numbers = replicate 64 0 }

-- v at the end
abbrev pub pushed : NumberQueue → ℕ → NumberQueue
pushed q v = record { count = q.count + 1; numbers = set q.numbers q.count v }

-- one number at the end, if there is one
abbrev pub pushed_if : NumberQueue → Option ℕ → NumberQueue
pushed_if q None = q
pushed_if q (Some v) = pushed q v

-- another queue at the end
abbrev pub appended : NumberQueue → NumberQueue → NumberQueue
appended q r = record { count = q.count + r.count; numbers = paste q.numbers q.count r.numbers r.count }

-- the first
abbrev pub front_of_of : NumberQueue → ℕ
front_of_of q = get_or q.numbers 0 0

-- the first n, or all if there are fewer
abbrev pub first_of : ℕ → NumberQueue → NumberQueue
first_of n q = record { count = min n q.count; numbers = q.numbers }

-- the others move to the front, and the places behind them keep what they have
abbrev pub without_first : ℕ → NumberQueue → NumberQueue
without_first n q = record { count = q.count - n; numbers = over q.numbers (drop n q.numbers) (q.count - n) }

-- emptied; the array keeps what it has
abbrev pub emptied : NumberQueue → NumberQueue
emptied q = record { count = 0; numbers = q.numbers }

-- v put into an ascending queue
abbrev pub sorted_in : NumberQueue → ℕ → NumberQueue
sorted_in q v = record { count = q.count + 1; numbers = put_in (spot v (list_of q)) q.count v q.numbers }

-- each of a list put into an ascending queue
abbrev pub all_sorted_in : NumberQueue → List ℕ → NumberQueue
all_sorted_in q [] = q
all_sorted_in q (v ∷ vs) = all_sorted_in (sorted_in q v) vs
