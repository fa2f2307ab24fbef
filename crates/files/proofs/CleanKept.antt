-- `clean_logs` keeps the rules, and what it doesn't keep it removes. Assumes nothing.
use Prim.Native.Nat.{ℕ, ◌+◌, ◌≤◌}
use mathlib.Core.Bool.{true}
use mathlib.Core.List.{List}
use mathlib.Core.Path.{◌≡◌, refl, sym, ap, ◌∙◌}
use native.Mathlib.Omega.{arith}
use lib.ListN.{length, take, drop, take-append-drop}
use Rattle.numbers.specs.Numbers.{times, ascends, insert_all}
use Rattle.numbers.specs.Queue.{list_of, first_of, without_first}
use Rattle.numbers.proofs.QueueLists.{first-list, without_list, all_sorted_count, all_sorted_list, all_sorted_length}
use Rattle.numbers.proofs.Sort.{times-append, times-all, times-lacks, has-times, times-distinct, distinct-times, all-ascends, ascends_take}
use Rattle.files.specs.Queues.{pool_of, cleanup_of, appending_size, files_of, QueuesTyped}
use Rattle.files.specs.Calls.{pooled, cleanup_pooled}
use Rattle.files.specs.declared.queues.Queues.{Queues}
use Rattle.files.proofs.Rule.{Kept, whole, still_kept}
use Rattle.files.proofs.Clean.{moved-count, moved_length}

module _ (q : Queues) (n : ℕ) (s : QueuesTyped q) (k : Kept q) where
  -- what is moved and what is left in cleanup
  moved : List ℕ
  moved = take n (cleanup_of q)

  moved-is : list_of (first_of n q.cleanup_queue) ≡ moved
  unfolding moved
  moved-is = first-list q.cleanup_queue n

  parts : (v : ℕ) → times v (cleanup_of q) ≡ times v moved + times v (drop n (cleanup_of q))
  unfolding moved
  parts v = ap (times v) (sym (take-append-drop n (cleanup_of q))) ∙ times-append v (take n (cleanup_of q)) (drop n (cleanup_of q))

  fits : q.log_pool.count + length (list_of (first_of n q.cleanup_queue)) ≤ length q.log_pool.numbers
  fits = omega (arith, moved_length q n s k.room, moved-count q n, k.room.all, s.pool)

  -- "into the pool, sorts by number"
  pub pooled-list : list_of (pooled q n) ≡ insert_all (pool_of q) (take n (cleanup_of q))
  unfolding pooled moved
  pooled-list = all_sorted_list q.log_pool (list_of (first_of n q.cleanup_queue)) fits ∙ ap (insert_all (pool_of q)) moved-is

  pub pooled-size : (pooled q n).count ≡ q.log_pool.count + (first_of n q.cleanup_queue).count
  unfolding pooled
  pooled-size = all_sorted_count q.log_pool (list_of (first_of n q.cleanup_queue)) ∙ ap (λ (m : ℕ). q.log_pool.count + m) (moved_length q n s k.room)

  pooled-fits : (pooled q n).count ≤ length (pooled q n).numbers
  unfolding pooled
  pooled-fits =
      let l = all_sorted_length q.log_pool (list_of (first_of n q.cleanup_queue)) fits in
      let m = all_sorted_count q.log_pool (list_of (first_of n q.cleanup_queue)) in
      omega (arith, l, m, fits)

  pub pooled-rises : ascends (list_of (pooled q n)) ≡ true
  unfolding moved
  pooled-rises =
      ap ascends pooled-list
      ∙ all-ascends (pool_of q) moved k.pool
      (times-distinct moved (λ v. omega (arith, whole v q, parts v, distinct-times v (files_of q) k.once)))
      (λ v e. times-lacks v (pool_of q) (omega (arith, whole v q, parts v, distinct-times v (files_of q) k.once, has-times v moved e)))

  -- "keeps the lowest 16", and what is removed
  pub new-pool : pool_of (cleanup_pooled q n) ≡ take 16 (list_of (pooled q n))
  unfolding cleanup_pooled
  new-pool = first-list (pooled q n) 16

  pub new-cleanup : cleanup_of (cleanup_pooled q n) ≡ drop n (cleanup_of q)
  unfolding cleanup_pooled
  new-cleanup = without_list q.cleanup_queue n (omega (arith, s.cleanup, k.room.cleanup))

  pub removed-list : list_of (without_first 16 (pooled q n)) ≡ drop 16 (list_of (pooled q n))
  removed-list = without_list (pooled q n) 16 pooled-fits

  pub cleaned_times : (v : ℕ) → times v (files_of (cleanup_pooled q n)) + times v (list_of (without_first 16 (pooled q n))) ≡ times v (files_of q)
  unfolding cleanup_pooled moved
  cleaned_times v =
      let w = list_of (pooled q n) in
      let a : times v (pool_of (cleanup_pooled q n)) ≡ times v (take 16 w) = ap (times v) new-pool in
      let b : times v (cleanup_of (cleanup_pooled q n)) ≡ times v (drop n (cleanup_of q)) = ap (times v) new-cleanup in
      let d : times v w ≡ times v (take 16 w) + times v (drop 16 w) = ap (times v) (sym (take-append-drop 16 w)) ∙ times-append v (take 16 w) (drop 16 w) in
      let e : times v (list_of (without_first 16 (pooled q n))) ≡ times v (drop 16 w) = ap (times v) removed-list in
      let f : times v w ≡ times v moved + times v (pool_of q) = ap (times v) pooled-list ∙ times-all v (pool_of q) moved in
      omega (arith, whole v q, whole v (cleanup_pooled q n), parts v, a, b, d, e, f)

  pub cleaned_kept : Kept (cleanup_pooled q n)
  unfolding cleanup_pooled appending_size
  cleaned_kept =
      still_kept q (cleanup_pooled q n) k
      (record { read = k.room.read; cleanup = omega (arith, k.room.cleanup); pool = omega arith; replay = k.room.replay; all = omega (arith, k.room.all, pooled-size) })
      refl (λ v. omega (arith, cleaned_times v))
      (ap ascends new-pool ∙ ascends_take 16 (list_of (pooled q n)) pooled-rises) k.size
