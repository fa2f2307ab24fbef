-- Queues that were stored load as what was stored: `load (store v) ≡ v`. What their types say of them (lengths of arrays, a range) is asked.
-- Assumes nothing.
use mathlib.Core.Path.{◌≡◌, refl, sym, ap, ◌∙◌}
use mathlib.Core.Bool.{true, false}
use mathlib.Core.List.{List, [], ◌∷◌, ◌++◌, append_assoc}
use Prim.Native.Nat.{ℕ, ◌+◌, ◌<◌}
use native.Mathlib.Omega.{arith}
use borrow.Author.Tests.{lt-ltb, eq-eqb}
use lib.Dec.{ltb}
use lib.ListN.{length, take, drop, get_or, length-append}
use lib.Seq.{take_at, get_or-drop, drop-drop}
use Rattle.words.proofs.Choices.{if_true}
use Rattle.numbers.specs.Numbers.{one_if}
use Rattle.numbers.specs.declared.queue.NumberQueue.{NumberQueue}
use Rattle.numbers.proofs.Laws.{both}
use Rattle.files.specs.Queues.{room_kept, queues_kept}
use Rattle.files.specs.declared.queues.Queues.{Queues}
use Rattle.host_words.proofs.RoundTrip.{flag_round, flag_low, past}
use Rattle.host_queues.specs.Queues.{queues_formed, broken_queues, queue_from, queues_from, queue_words, behind_words, queues_words}

-- what the types say
pub record Typed (q : Queues) : Type 0 where
  pub read : length q.read_queue.numbers ≡ 64
  pub cleanup : length q.cleanup_queue.numbers ≡ 64
  pub pool : length q.log_pool.numbers ≡ 64
  pub replay : length q.replay_queue.numbers ≡ 64
  pub ids : length q.replay_ids ≡ 64
  pub next : q.next_log_id < 4294967296

-- parts one behind the other
five : (a b c d e : List ℕ) → a ++ b ++ c ++ d ++ e ≡ a ++ (b ++ (c ++ (d ++ e)))
five a b c d e = simp append_assoc

four : (a b c d : List ℕ) → a ++ b ++ c ++ d ≡ a ++ (b ++ (c ++ d))
four a b c d = simp append_assoc

-- a queue at a place of words, and what stands behind it
module _ (w : List ℕ) (at : ℕ) (q : NumberQueue) (rest : List ℕ) (n : length q.numbers ≡ 64) (e : drop at w ≡ q.count ∷ (q.numbers ++ rest)) where
  first : get_or w at 0 ≡ q.count
  first = sym (get_or-drop at w 0 0 ∙ ap (λ (k : ℕ). get_or w k 0) (omega arith)) ∙ ap (λ (l : List ℕ). get_or l 0 0) e

  numbers-at : drop (at + 1) w ≡ q.numbers ++ rest
  numbers-at = sym (drop-drop 1 at w) ∙ ap (drop 1) e

  queue_is : queue_from w at ≡ q
  queue_is = rw (first, ap (take 64) numbers-at ∙ take_at q.numbers rest 64 n)

  behind : drop (at + 65) w ≡ rest
  behind = sym (drop-drop 65 at w) ∙ ap (drop 65) e ∙ past q.numbers rest 64 n 0

module _ (q : Queues) (t : Typed q) where
  abbrev end : List ℕ
  end = q.next_log_id ∷ one_if q.dirty ∷ []

  abbrev w : List ℕ
  w = queues_words q

  abbrev after-replay : List ℕ
  after-replay = q.replay_ids ++ end

  abbrev after-pool : List ℕ
  after-pool = queue_words q.replay_queue ++ after-replay

  abbrev after-cleanup : List ℕ
  after-cleanup = queue_words q.log_pool ++ after-pool

  abbrev after_read : List ℕ
  after_read = one_if q.reading.some ∷ q.reading.id ∷ (queue_words q.cleanup_queue ++ after-cleanup)

  -- the words with each part behind the one before
  in_turn : drop 3 w ≡ q.read_queue.count ∷ (q.read_queue.numbers ++ after_read)
  in_turn =
      ap (λ (l : List ℕ). q.read_queue.count ∷ l)
      (five q.read_queue.numbers (one_if q.reading.some ∷ q.reading.id ∷ []) (behind_words q) q.replay_ids end
      ∙ ap (λ (l : List ℕ). q.read_queue.numbers ++ (one_if q.reading.some ∷ q.reading.id ∷ l)) (four (queue_words q.cleanup_queue) (queue_words q.log_pool) (queue_words q.replay_queue) after-replay))

  at_reading : drop 68 w ≡ after_read
  at_reading = behind w 3 q.read_queue after_read t.read in_turn

  at-cleanup : drop 70 w ≡ queue_words q.cleanup_queue ++ after-cleanup
  at-cleanup = sym (drop-drop 2 68 w) ∙ ap (drop 2) at_reading

  at-pool : drop 135 w ≡ after-cleanup
  at-pool = behind w 70 q.cleanup_queue after-cleanup t.cleanup at-cleanup

  at-replay : drop 200 w ≡ after-pool
  at-replay = behind w 135 q.log_pool after-pool t.pool at-pool

  at-ids : drop 265 w ≡ after-replay
  at-ids = behind w 200 q.replay_queue after-replay t.replay at-replay

  at-end : drop 329 w ≡ end
  at-end = sym (drop-drop 64 265 w) ∙ ap (drop 64) at-ids ∙ past q.replay_ids end 64 t.ids 0

  word : (at k : ℕ) (l : List ℕ) → drop at w ≡ l → get_or w (at + k) 0 ≡ get_or l k 0
  word at k l e = sym (get_or-drop at w k 0) ∙ ap (λ (x : List ℕ). get_or x k 0) e

  long : length w ≡ 331
  long =
      simp length-append (omega (arith, t.read, t.cleanup, t.pool, t.replay, t.ids))

  formed : queues_formed w ≡ true
  unfolding queues_formed
  formed =
      both (eq-eqb (length w) 331 long)
      (both (flag_low q.appending.some)
      (both (ap (λ (x : ℕ). ltb x 2) (word 68 0 after_read at_reading) ∙ flag_low q.reading.some)
      (both (ap (λ (x : ℕ). ltb x 4294967296) (word 329 0 end at-end) ∙ lt-ltb _ _ t.next)
      (ap (λ (x : ℕ). ltb x 2) (word 329 1 end at-end) ∙ flag_low q.dirty))))

  pub queues_round : queues_from w ≡ q
  unfolding queues_from
  queues_round =
      if_true _ _ _ formed
      ∙ rw (
        queue_is w 3 q.read_queue after_read t.read in_turn,
        queue_is w 70 q.cleanup_queue after-cleanup t.cleanup at-cleanup,
        queue_is w 135 q.log_pool after-pool t.pool at-pool,
        queue_is w 200 q.replay_queue after-replay t.replay at-replay,
        ap (take 64) at-ids ∙ take_at q.replay_ids end 64 t.ids,
        word 68 0 after_read at_reading,
        word 68 1 after_read at_reading,
        word 329 0 end at-end,
        word 329 1 end at-end,
        flag_round q.appending.some,
        flag_round q.reading.some,
        flag_round q.dirty,
      )

-- words that are no queues load as queues that break a rule: every call that is handed them answers 13
pub broken_queues_lem : queues_kept broken_queues ≡ false
unfolding queues_kept room_kept
broken_queues_lem = refl
