-- The file that `read_next` reads becomes the one being read: the rules are kept, and no number is lost. Assumes nothing.
use Prim.Native.Nat.{ℕ}
use mathlib.Core.Bool.{Bool, true, false}
use mathlib.Core.Path.{◌≡◌, refl}
use Rattle.std.specs.Prelude.{if◌then◌else◌}
use Rattle.numbers.specs.Numbers.{times}
use Rattle.files.specs.Queues.{files_of, QueuesTyped}
use Rattle.files.specs.Moves.{front_read}
use Rattle.files.specs.Read.{now_reading}
use Rattle.files.specs.Inner.{has_file}
use Rattle.files.specs.declared.queues.Queues.{Queues}
use Rattle.files.proofs.Rule.{Kept}
use Rattle.files.proofs.Kept.{front-times, front_kept, front-sized}
use Rattle.files.proofs.ReadOf.{has-front}

module _ (q : Queues) (s : QueuesTyped q) (k : Kept q) (h : has_file q ≡ true) where
  pub now_kept : Kept (now_reading q)
  unfolding now_reading
  now_kept = by q.reading.some refl
    where
      by : (b : Bool) → q.reading.some ≡ b → Kept (if b then q else front_read q)
      by true e = k
      by false e = front_kept q s k e (has-front q h e)

  pub now_sized : QueuesTyped (now_reading q)
  unfolding now_reading
  now_sized = by q.reading.some refl
    where
      by : (b : Bool) → q.reading.some ≡ b → QueuesTyped (if b then q else front_read q)
      by true e = s
      by false e = front-sized q s k e (has-front q h e)

  pub now_times : (v : ℕ) → times v (files_of (now_reading q)) ≡ times v (files_of q)
  unfolding now_reading
  now_times v = by q.reading.some refl
    where
      by : (b : Bool) → q.reading.some ≡ b → times v (files_of (if b then q else front_read q)) ≡ times v (files_of q)
      by true e = refl
      by false e = front-times q s k e (has-front q h e) v
