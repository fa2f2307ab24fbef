-- Words that are queues: their length, and the ranges; each queue of them read from its own part. Assumes nothing.
use mathlib.Core.Path.{◌≡◌, ap, ap₂, ◌∙◌}
use mathlib.Core.Bool.{true, false, and-false}
use mathlib.Core.List.{List}
use Prim.Native.Nat.{ℕ, ◌+◌, ◌≤◌, ◌<◌}
use native.Mathlib.Omega.{arith}
use borrow.Author.Tests.{lt-ltb, le-ltb, ltb-true, eq-eqb, ne_eqb, eqb-true}
use lib.Dec.{ltb, eqb}
use lib.ListN.{length, take, drop, get_or}
use lib.Seq.{get_or-drop, get_or-take, drop-drop, take-take}
use Rattle.words.proofs.Cut.{drop_take}
use Rattle.numbers.proofs.Laws.{both, left-of, right_of}
use Rattle.numbers.specs.declared.queue.NumberQueue.{NumberQueue}
use Rattle.host_queues.specs.Queues.{queue_from, queues_formed}

module _ (w : List ℕ) (h : queues_formed w ≡ true) where
  pub queues-length : length w ≡ 331
  unfolding queues_formed
  queues-length = eqb-true _ _ (left-of (eqb (length w) 331) _ h)

  pub queues-next : get_or w 329 0 < 4294967296
  unfolding queues_formed
  queues-next =
      let a = right_of (eqb (length w) 331) _ h in
      let b = right_of (ltb (get_or w 0 0) 2) _ a in
      let c = right_of (ltb (get_or w 68 0) 2) _ b in
      ltb-true _ _ (left-of (ltb (get_or w 329 0) 4294967296) _ c)

module _ (w : List ℕ) where
  pub formed_as : length w ≡ 331 → get_or w 0 0 ≤ 1 → get_or w 68 0 ≤ 1 → get_or w 330 0 ≤ 1 → get_or w 329 0 < 4294967296 → queues_formed w ≡ true
  unfolding queues_formed
  formed_as e f g h i = both (eq-eqb (length w) 331 e) (both (lt-ltb (get_or w 0 0) 2 (omega arith)) (both (lt-ltb (get_or w 68 0) 2 (omega arith)) (both (lt-ltb (get_or w 329 0) 4294967296 i) (lt-ltb (get_or w 330 0) 2 (omega arith)))))

  pub other_length : (length w ≡ 331 → ⊥) → queues_formed w ≡ false
  unfolding queues_formed
  other_length d = rw (ne_eqb (length w) 331 d)

  module _ (e : length w ≡ 331) where
    pub no-flag-0 : 1 < get_or w 0 0 → queues_formed w ≡ false
    unfolding queues_formed
    no-flag-0 h = rw (e, le-ltb (get_or w 0 0) 2 (omega arith))

    module _ (f : get_or w 0 0 ≤ 1) where
      pub no-flag-68 : 1 < get_or w 68 0 → queues_formed w ≡ false
      unfolding queues_formed
      no-flag-68 h = rw (e, lt-ltb (get_or w 0 0) 2 (omega arith), le-ltb (get_or w 68 0) 2 (omega arith))

      pub no-flag-330 : get_or w 68 0 ≤ 1 → 1 < get_or w 330 0 → queues_formed w ≡ false
      unfolding queues_formed
      no-flag-330 g h = rw (e, lt-ltb (get_or w 0 0) 2 (omega arith), lt-ltb (get_or w 68 0) 2 (omega arith), le-ltb (get_or w 330 0) 2 (omega arith)) (and-false (ltb (get_or w 329 0) 4294967296))

  -- 65 words of a queue
  pub queue_part : (at : ℕ) → queue_from (take 65 (drop at w)) 0 ≡ queue_from w at
  queue_part at =
      let made : ℕ → List ℕ → NumberQueue = λ n l. record { count = n; numbers = l } in
      let count : get_or (take 65 (drop at w)) 0 0 ≡ get_or w at 0 = get_or-take 65 (drop at w) 0 0 (omega arith) ∙ get_or-drop at w 0 0 ∙ ap (λ (n : ℕ). get_or w n 0) (omega arith) in
      let numbers : take 64 (drop (0 + 1) (take 65 (drop at w))) ≡ take 64 (drop (at + 1) w) = rw drop_take (take-take 64 64 (drop 1 (drop at w)) (omega arith) ∙ ap (take 64) (drop-drop 1 at w)) in
      ap₂ made count numbers
