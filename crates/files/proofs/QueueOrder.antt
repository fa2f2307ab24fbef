-- In which order the queues are filled and emptied, on lists. Document 01, "File numbers"; each sentence stands with its theorem. Assumes
-- nothing; `QueuesTyped` says that the arrays have the lengths that their types give them.
use Prim.Native.Nat.{ℕ, ◌<◌}
use mathlib.Core.Bool.{Bool, true, false}
use mathlib.Core.List.{List, [], ◌∷◌, ◌++◌}
use mathlib.Core.Path.{◌≡◌, refl, sym, ap, subst, ◌∙◌}
use native.Mathlib.Omega.{arith}
use lib.ListN.{length, take, drop}
use lib.Dec.{eqb}
use borrow.Author.Tests.{ltb-true, ne_eqb}
use Rattle.std.specs.Prelude.{IsSomeAnd}
use Rattle.std.specs.Bool.{then_some}
use Rattle.words.proofs.Choices.{if_true, if_false}
use Rattle.numbers.specs.Numbers.{some_of, insert_all, ascends}
use Rattle.numbers.specs.Queue.{list_of, front_of_of}
use Rattle.numbers.proofs.Laws.{one-true}
use Rattle.numbers.proofs.QueueLists.{push_list, push_if_list, push_if_count, push_if_length, append-list, first-list, front-list}
use Rattle.files.specs.Queues.{reading_number, appending_of, read_queue_of, reading_of, cleanup_of, pool_of, replay_of, appending_size, queues_kept, QueuesTyped}
use Rattle.files.specs.Moves.{appending_queued, reading_cleaned, front_read, front_replayed, replay_cleaned}
use Rattle.files.specs.Calls.{flushes, flush_one_kept, replay_next_kept, clear_replay_logs_kept, clean_logs_kept, from_pool}
use Rattle.files.specs.Read.{now_reading}
use Rattle.files.specs.declared.queues.Queues.{Queues}
use Rattle.files.specs.declared.reading.ReplayNext.{ReplayNext}
use Rattle.files.specs.declared.writing.Flushed.{Flushed}
use Rattle.files.proofs.Rule.{Kept, kept_facts, sized_appending, one-some}
use Rattle.files.proofs.ReadOf.{now_front}
use Rattle.files.proofs.CleanKept.{pooled-list, new-pool, new-cleanup, removed-list, pooled-rises}

module _ (q : Queues) (s : QueuesTyped q) (ok : queues_kept q ≡ true) where
  k : Kept q
  k = kept_facts q ok

  -- "`flush_one` moves the appending file to the end of the read queue exactly if its size is greater than the minimum"
  module _ (min : ℕ) (h : flushes q min ≡ true) where
    flush_moves : (flush_one_kept q min).queues ≡ appending_queued q
    unfolding flush_one_kept
    flush_moves = ap (λ (r : Flushed). r.queues) (if_true (flushes q min) _ _ h)

    pub flush_at-end : read_queue_of (flush_one_kept q min).queues ≡ read_queue_of q ++ appending_of q
    unfolding flushes appending_queued
    flush_at-end =
        let a = sized_appending q min (ltb-true min (appending_size q) h) in
        let n : q.read_queue.count < length q.read_queue.numbers = omega (arith, k.room.all, one-true q.appending.some a, s.read) in
        ap read_queue_of flush_moves ∙ push_list q.read_queue q.appending.id n ∙ ap (λ (b : Bool). read_queue_of q ++ some_of (then_some b q.appending.id)) (sym a)

    pub flush_none-left : appending_of (flush_one_kept q min).queues ≡ []
    unfolding appending_queued
    flush_none-left = ap appending_of flush_moves

  -- "`replay_next` sends reading to cleanup", to its end
  pub reading_to-end : cleanup_of (reading_cleaned q) ≡ cleanup_of q ++ reading_of q
  unfolding reading_cleaned
  reading_to-end = push_if_list q.cleanup_queue (reading_number q) (omega (arith, k.room.all, s.cleanup, one-some q.reading.some q.reading.id))

  -- ".. then takes the front of the replay queue": the file told is the front, it is the one being read, and the others stay in their order
  module _ (some : 0 < q.replay_queue.count) where
    replay_moves : (replay_next_kept q).queues ≡ front_replayed (reading_cleaned q)
    unfolding replay_next_kept
    replay_moves = ap (λ (r : ReplayNext). r.queues) (if_false (eqb q.replay_queue.count 0) _ _ (ne_eqb q.replay_queue.count 0 (λ e. omega arith)))

    pub replay-takes-front : IsSomeAnd (replay_next_kept q).number (λ (n : ℕ). replay_of q ≡ n ∷ replay_of (replay_next_kept q).queues)
    unfolding replay_next_kept front_replayed reading_cleaned
    replay-takes-front =
        let e = ne_eqb q.replay_queue.count 0 (λ e. omega arith) in
        subst (λ (r : ReplayNext). IsSomeAnd r.number (λ (n : ℕ). replay_of q ≡ n ∷ replay_of r.queues))
        (sym (if_false (eqb q.replay_queue.count 0) _ _ e))
        (front-list q.replay_queue some (omega (arith, k.room.replay, s.replay)))

    pub replay-reads-front : reading_of (replay_next_kept q).queues ≡ front_of_of q.replay_queue ∷ []
    unfolding front_replayed reading_cleaned
    replay-reads-front = ap reading_of replay_moves

    pub replay_cleans_reading : cleanup_of (replay_next_kept q).queues ≡ cleanup_of q ++ reading_of q
    unfolding front_replayed
    replay_cleans_reading = ap cleanup_of replay_moves ∙ reading_to-end

  -- "or else at 0 of the read queue's front": that file is the one being read, and the others stay in their order
  module _ (none : q.reading.some ≡ false) (some : 0 < q.read_queue.count) where
    pub read-takes-front : read_queue_of q ≡ reading_of (now_reading q) ++ read_queue_of (now_reading q)
    unfolding front_read
    read-takes-front =
        front-list q.read_queue some (omega (arith, k.room.read, s.read)) ∙ ap (λ (x : Queues). reading_of x ++ read_queue_of x) (sym (now_front q none))

  -- "`clear_replay_logs` sends reading, then the replay queue, to cleanup"
  pub clear_in_order : cleanup_of (clear_replay_logs_kept q).queues ≡ (cleanup_of q ++ reading_of q) ++ replay_of q
  unfolding replay_cleaned reading_cleaned
  clear_in_order =
      let c = push_if_count q.cleanup_queue (reading_number q) in
      let l = push_if_length q.cleanup_queue (reading_number q) in
      append-list (reading_cleaned q).cleanup_queue q.replay_queue (omega (arith, c, l, k.room.all, s.cleanup, one-some q.reading.some q.reading.id)) (omega (arith, k.room.replay, s.replay))
      ∙ ap (λ (m : List ℕ). m ++ replay_of q) reading_to-end

  pub clear-leaves-none : replay_of (clear_replay_logs_kept q).queues ≡ []
  unfolding replay_cleaned reading_cleaned
  clear-leaves-none = refl

  -- "`clean_logs` moves the first n of cleanup, or all if fewer, into the pool, sorts by number, keeps the lowest 16, removes the others"
  module _ (n : ℕ) where
    pub clean_takes-first : cleanup_of (clean_logs_kept q n).queues ≡ drop n (cleanup_of q)
    unfolding clean_logs_kept
    clean_takes-first = new-cleanup q n s k

    pub clean_empties_first : list_of (clean_logs_kept q n).empty ≡ take n (cleanup_of q)
    unfolding clean_logs_kept
    clean_empties_first = first-list q.cleanup_queue n

    pub clean_keeps-lowest : pool_of (clean_logs_kept q n).queues ≡ take 16 (insert_all (pool_of q) (take n (cleanup_of q)))
    unfolding clean_logs_kept
    clean_keeps-lowest = new-pool q n s k ∙ ap (take 16) (pooled-list q n s k)

    pub clean_removes_others : list_of (clean_logs_kept q n).remove ≡ drop 16 (insert_all (pool_of q) (take n (cleanup_of q)))
    unfolding clean_logs_kept
    clean_removes_others = removed-list q n s k ∙ ap (drop 16) (pooled-list q n s k)

    pub clean_sorts : ascends (insert_all (pool_of q) (take n (cleanup_of q))) ≡ true
    clean_sorts = ap ascends (sym (pooled-list q n s k)) ∙ pooled-rises q n s k

  -- "the pool's lowest is taken": the pool ascends, and its front is taken
  pub pool-lowest-taken : (size : ℕ) → 0 < q.log_pool.count → pool_of q ≡ appending_of (from_pool q size) ++ pool_of (from_pool q size)
  pool-lowest-taken size some = front-list q.log_pool some (omega (arith, k.room.pool, s.pool))
