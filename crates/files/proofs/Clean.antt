-- `clean_logs`: how many are moved, and what its parts come to. Assumes nothing.
use Prim.Native.Nat.{ℕ, ◌+◌, ◌≤◌}
use mathlib.Core.Path.{◌≡◌, ap, ◌∙◌}
use native.Mathlib.Omega.{arith}
use lib.ListN.{length}
use lib.Dec.{ltb}
use lib.Seq.{length-take-le}
use Rattle.numbers.specs.Queue.{list_of, first_of, without_first, all_sorted_in}
use Rattle.numbers.specs.declared.queue.NumberQueue.{NumberQueue}
use Rattle.numbers.proofs.QueueLists.{all_sorted_count}
use Rattle.answer.specs.declared.answer.Answer.TheVariants.{Done}
use Rattle.files.specs.Moves.{with_cleanup, with_pool}
use Rattle.files.specs.Calls.{pooled, cleanup_pooled, clean_logs_kept}
use Rattle.files.specs.declared.queues.Queues.{Queues}
use Rattle.files.specs.declared.cleaning.Cleaned.{Cleaned}
use Rattle.files.specs.Queues.{QueuesTyped}
use Rattle.files.proofs.Rule.{Room}

pub moved-count : (q : Queues) (n : ℕ) → (first_of n q.cleanup_queue).count ≤ q.cleanup_queue.count
moved-count q n = omega arith

pub moved_length : (q : Queues) (n : ℕ) → QueuesTyped q → Room q → length (list_of (first_of n q.cleanup_queue)) ≡ (first_of n q.cleanup_queue).count
moved_length q n s r =
    length-take-le (first_of n q.cleanup_queue).count q.cleanup_queue.numbers (omega (arith, moved-count q n, r.cleanup, s.cleanup))

-- the pool and those moved
pub pooled-count : (q : Queues) (n : ℕ) → QueuesTyped q → Room q → (e a : NumberQueue) → e ≡ first_of n q.cleanup_queue → a ≡ all_sorted_in q.log_pool (list_of e) → a.count ≤ 64
pooled-count q n s r e a f g =
    let h : a.count ≡ q.log_pool.count + length (list_of e) = ap (λ (x : NumberQueue). x.count) g ∙ all_sorted_count q.log_pool (list_of e) in
    let k : length (list_of e) ≡ (first_of n q.cleanup_queue).count = ap (λ (x : NumberQueue). length (list_of x)) f ∙ moved_length q n s r in
    omega (arith, h, k, moved-count q n, r.all)

pub clean_as : (q : Queues) (n : ℕ) (e a c p g : NumberQueue) → e ≡ first_of n q.cleanup_queue → a ≡ all_sorted_in q.log_pool (list_of e)
    → c ≡ without_first n q.cleanup_queue → p ≡ first_of 16 a → g ≡ without_first 16 a
    → ◌≡◌ {A = Cleaned} (record { answer = Done; more = ltb n q.cleanup_queue.count; empty = e; remove = g; queues = with_pool (with_cleanup q c) p }) (clean_logs_kept q n)
unfolding clean_logs_kept cleanup_pooled pooled
clean_as q n e a c p g ee ea ec ep eg = rw (ep, eg, ea, ec, ee)
