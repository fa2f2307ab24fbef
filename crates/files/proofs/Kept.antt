-- Each move of the queues keeps their rules and loses no number. Assumes nothing.
use Prim.Native.Nat.{ℕ, ◌+◌, ◌≤◌, ◌<◌}
use mathlib.Core.Bool.{Bool, true, false}
use mathlib.Core.List.{[], ◌∷◌, ◌++◌}
use mathlib.Core.Path.{◌≡◌, refl, ap, ◌∙◌}
use native.Mathlib.Omega.{arith}
use lib.ListN.{length}
use lib.Dec.{eqb}
use Rattle.std.specs.Prelude.{Option}
use borrow.Author.Tests.{eqb-true, eqb-false, ne_eqb}
use Rattle.numbers.specs.Numbers.{times, ascends, some_of, one_if}
use Rattle.numbers.specs.Queue.{list_of, pushed, pushed_if, appended, front_of_of, without_first}
use Rattle.numbers.specs.declared.queue.NumberQueue.{NumberQueue}
use Rattle.numbers.proofs.Laws.{one-true, one-false}
use Rattle.numbers.proofs.QueueLists.{push_list, push_if_list, push_if_count, push_if_length, append-list, without_list, without_length, front-list}
use Rattle.numbers.proofs.Sort.{times-append, times-under, under-times, times-distinct, distinct-times, ascends_drop}
use Rattle.files.specs.Queues.{reading_number, pool_of, appending_of, reading_of, appending_size, files_of, QueuesTyped}
use Rattle.files.specs.Moves.{appending_queued, reading_cleaned, front_read, front_replayed, replay_cleaned}
use Rattle.files.specs.Calls.{without_pool, goes_on_of, made_new, from_pool}
use Rattle.files.specs.declared.queues.Queues.{Queues}
use Rattle.files.proofs.Rule.{Kept, whole, still_kept, one-some}

-- ---- how often a number stands in a queue that changed at an end
module _ (x : ℕ) (q : NumberQueue) where
  times-pushed : (v : ℕ) → q.count < length q.numbers → times x (list_of (pushed q v)) ≡ times x (list_of q) + times x (v ∷ [])
  times-pushed v h = ap (times x) (push_list q v h) ∙ times-append x (list_of q) (v ∷ [])

  times-one : (some : Option ℕ) → q.count + length (some_of some) ≤ length q.numbers → times x (list_of (pushed_if q some)) ≡ times x (list_of q) + times x (some_of some)
  times-one some h = ap (times x) (push_if_list q some h) ∙ times-append x (list_of q) (some_of some)

  times-both : (r : NumberQueue) → q.count + r.count ≤ length q.numbers → r.count ≤ length r.numbers → times x (list_of (appended q r)) ≡ times x (list_of q) + times x (list_of r)
  times-both r h k = ap (times x) (append-list q r h k) ∙ times-append x (list_of q) (list_of r)

  times-front : 0 < q.count → q.count ≤ length q.numbers → times x (list_of q) ≡ times x (front_of_of q ∷ []) + times x (list_of (without_first 1 q))
  times-front h k = ap (times x) (front-list q h k) ∙ times-append x (front_of_of q ∷ []) (list_of (without_first 1 q))

module _ (q : Queues) (s : QueuesTyped q) (k : Kept q) where
  -- ---- the appending file to the read queue
  module _ (a : q.appending.some ≡ true) where
    queued_room : q.read_queue.count < 64
    queued_room = omega (arith, k.room.all, one-true q.appending.some a)

    pub queued_times : (v : ℕ) → times v (files_of (appending_queued q)) ≡ times v (files_of q)
    unfolding appending_queued
    queued_times v =
        let e : times v (appending_of q) ≡ times v (q.appending.id ∷ []) = rw a in
        omega (arith, whole v q, whole v (appending_queued q), times-pushed v q.read_queue q.appending.id (rw s.read queued_room))

    pub queued_kept : Kept (appending_queued q)
    unfolding appending_queued appending_size
    queued_kept =
        still_kept q (appending_queued q) k
        (record { read = omega (arith, queued_room); cleanup = k.room.cleanup; pool = k.room.pool; replay = k.room.replay; all = omega (arith, k.room.all, one-true q.appending.some a) })
        refl (λ v. omega (arith, queued_times v)) k.pool (omega arith)

  -- ---- the file being read to cleanup
  cleaned_room : q.cleanup_queue.count + length (some_of (reading_number q)) ≤ 64
  cleaned_room = omega (arith, k.room.all, one-some q.reading.some q.reading.id)

  pub reading_times : (v : ℕ) → times v (files_of (reading_cleaned q)) ≡ times v (files_of q)
  unfolding reading_cleaned
  reading_times v =
      omega (arith, whole v q, whole v (reading_cleaned q), times-one v q.cleanup_queue (reading_number q) (rw s.cleanup cleaned_room))

  pub reading_kept : Kept (reading_cleaned q)
  unfolding reading_cleaned appending_size
  reading_kept =
      let n = push_if_count q.cleanup_queue (reading_number q) in
      still_kept q (reading_cleaned q) k
      (record { read = k.room.read; cleanup = omega (arith, n, cleaned_room); pool = k.room.pool; replay = k.room.replay; all = omega (arith, n, k.room.all, one-some q.reading.some q.reading.id) })
      refl (λ v. omega (arith, reading_times v)) k.pool k.size

  pub reading_sized : QueuesTyped (reading_cleaned q)
  unfolding reading_cleaned
  reading_sized = record {
    read = s.read;
    cleanup = push_if_length q.cleanup_queue (reading_number q) ∙ s.cleanup;
    pool = s.pool;
    replay = s.replay;
  }

  -- ---- the front of the read queue
  module _ (none : q.reading.some ≡ false) (some : 0 < q.read_queue.count) where
    pub front-times : (v : ℕ) → times v (files_of (front_read q)) ≡ times v (files_of q)
    unfolding front_read
    front-times v =
        let e : times v (reading_of q) ≡ 0 = rw none in
        omega (arith, whole v q, whole v (front_read q), times-front v q.read_queue some (rw s.read k.room.read))

    pub front_kept : Kept (front_read q)
    unfolding front_read appending_size
    front_kept =
        still_kept q (front_read q) k
        (record { read = omega (arith, k.room.read); cleanup = k.room.cleanup; pool = k.room.pool; replay = k.room.replay; all = omega (arith, k.room.all) })
        refl (λ v. omega (arith, front-times v)) k.pool k.size

    pub front-sized : QueuesTyped (front_read q)
    unfolding front_read
    front-sized = record { read = without_length q.read_queue 1 (omega (arith, s.read, k.room.read)) ∙ s.read; cleanup = s.cleanup; pool = s.pool; replay = s.replay }

  -- ---- the front of the replay queue
  module _ (none : q.reading.some ≡ false) (some : 0 < q.replay_queue.count) where
    pub replayed-times : (v : ℕ) → times v (files_of (front_replayed q)) ≡ times v (files_of q)
    unfolding front_replayed
    replayed-times v =
        let e : times v (reading_of q) ≡ 0 = rw none in
        omega (arith, whole v q, whole v (front_replayed q), times-front v q.replay_queue some (rw s.replay k.room.replay))

    pub replayed-kept : Kept (front_replayed q)
    unfolding front_replayed appending_size
    replayed-kept =
        still_kept q (front_replayed q) k
        (record { read = k.room.read; cleanup = k.room.cleanup; pool = k.room.pool; replay = omega (arith, k.room.replay); all = omega (arith, k.room.all) })
        refl (λ v. omega (arith, replayed-times v)) k.pool k.size

  -- ---- the whole replay queue to cleanup
  pub replay-times : (v : ℕ) → times v (files_of (replay_cleaned q)) ≡ times v (files_of q)
  unfolding replay_cleaned
  replay-times v =
      omega (arith, whole v q, whole v (replay_cleaned q), times-both v q.cleanup_queue q.replay_queue (rw s.cleanup (omega (arith, k.room.all))) (rw s.replay k.room.replay))

  pub replay-kept : Kept (replay_cleaned q)
  unfolding replay_cleaned appending_size
  replay-kept =
      still_kept q (replay_cleaned q) k
      (record { read = k.room.read; cleanup = omega (arith, k.room.all); pool = k.room.pool; replay = omega arith; all = omega (arith, k.room.all) })
      refl (λ v. omega (arith, replay-times v)) k.pool k.size

  -- ---- pool and reading removed
  pub killed_times : (v : ℕ) → times v (files_of (without_pool q)) + times v (pool_of q ++ reading_of q) ≡ times v (files_of q)
  killed_times v = omega (arith, whole v q, whole v (without_pool q), times-append v (pool_of q) (reading_of q))

  pub killed_kept : Kept (without_pool q)
  unfolding appending_size
  killed_kept =
      still_kept q (without_pool q) k
      (record { read = k.room.read; cleanup = k.room.cleanup; pool = omega arith; replay = k.room.replay; all = omega (arith, k.room.all) })
      refl (λ v. omega (arith, killed_times v)) refl k.size

  -- ---- a file for a record: the one that is appending, the pool's lowest, or a new one
  module _ (size : ℕ) where
    module _ (a : q.appending.some ≡ true) where
      pub goes-times : (v : ℕ) → times v (files_of (goes_on_of q size)) ≡ times v (files_of q)
      goes-times v =
          let e : times v (appending_of q) ≡ times v (q.appending.id ∷ []) = rw a in
          omega (arith, whole v q, whole v (goes_on_of q size))

      pub goes_kept : size < 9223372036854775808 → Kept (goes_on_of q size)
      unfolding appending_size
      goes_kept low =
          still_kept q (goes_on_of q size) k
          (record { read = k.room.read; cleanup = k.room.cleanup; pool = k.room.pool; replay = k.room.replay; all = omega (arith, k.room.all, one-true q.appending.some a) })
          refl (λ v. omega (arith, goes-times v)) k.pool low

    module _ (n : q.appending.some ≡ false) where
      module _ (some : 0 < q.log_pool.count) where
        pool-fits : q.log_pool.count ≤ length q.log_pool.numbers
        pool-fits = omega (arith, s.pool, k.room.pool)

        pub pool-times : (v : ℕ) → times v (files_of (from_pool q size)) ≡ times v (files_of q)
        pool-times v =
            let e : times v (appending_of q) ≡ 0 = rw n in
            omega (arith, whole v q, whole v (from_pool q size), times-front v q.log_pool some pool-fits)

        pub pool-kept : size < 9223372036854775808 → Kept (from_pool q size)
        unfolding appending_size
        pool-kept low =
            still_kept q (from_pool q size) k
            (record { read = k.room.read; cleanup = k.room.cleanup; pool = omega (arith, k.room.pool); replay = k.room.replay; all = omega (arith, k.room.all) })
            refl (λ v. omega (arith, pool-times v)) (ap ascends (without_list q.log_pool 1 pool-fits) ∙ ascends_drop 1 (pool_of q) k.pool) low

      pub made-times : (v : ℕ) → times v (files_of (made_new q size)) ≡ times v (files_of q) + times v (q.next_log_id ∷ [])
      made-times v =
          let e : times v (appending_of q) ≡ 0 = rw n in
          omega (arith, whole v q, whole v (made_new q size))

      pub made_kept : size < 9223372036854775808
          → one_if q.appending.some + q.read_queue.count + one_if q.reading.some + q.cleanup_queue.count + q.log_pool.count + q.replay_queue.count < 64
          → Kept (made_new q size)
      unfolding appending_size
      made_kept low h =
          let z = one-false q.appending.some n in
          record {
            room = record { read = k.room.read; cleanup = k.room.cleanup; pool = k.room.pool; replay = k.room.replay; all = omega (arith, h) };
            below = times-under (q.next_log_id + 1) (files_of (made_new q size)) (λ v g. omega (arith, made-times v, under-times q.next_log_id v (files_of q) k.below (omega arith), other v (λ e. omega arith)));
            once = times-distinct (files_of (made_new q size)) (λ v. alone v (eqb q.next_log_id v) refl);
            pool = k.pool;
            size = low;
          }
        where
          other : (v : ℕ) → (q.next_log_id ≡ v → ⊥) → times v (q.next_log_id ∷ []) ≡ 0
          other v d = rw (ne_eqb q.next_log_id v d)

          alone : (v : ℕ) (b : Bool) → eqb q.next_log_id v ≡ b → times v (files_of (made_new q size)) ≤ 1
          alone v true e =
              let w : q.next_log_id ≡ v = eqb-true q.next_log_id v e in
              let u : times v (q.next_log_id ∷ []) ≡ 1 = rw e in
              omega (arith, made-times v, under-times q.next_log_id v (files_of q) k.below (omega arith))
          alone v false e = omega (arith, made-times v, distinct-times v (files_of q) k.once, other v (eqb-false q.next_log_id v e))
