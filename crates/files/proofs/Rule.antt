-- The rules of the queues as facts, and how they are put together again. Assumes nothing.
use Prim.Native.Nat.{ℕ, ◌+◌, ◌-◌, ◌≤◌, ◌<◌}
use mathlib.Core.Bool.{Bool, true, false, ◌||◌}
use mathlib.Core.List.{List, ◌++◌}
use mathlib.Core.Path.{◌≡◌, refl, sym, ap, ◌∙◌}
use native.Mathlib.Omega.{arith}
use lib.Dec.{leb}
use lib.ListN.{length}
use Rattle.std.specs.Bool.{then_some}
use borrow.Author.Tests.{ltb-true, lt-ltb, le-leb, leb-true, leb-false, lt-leb, eq-eqb}
use Rattle.std.specs.Prelude.{if◌then◌else◌}
use Rattle.numbers.specs.Numbers.{times, all_below, distinct, ascends, some_of, one_if}
use Rattle.numbers.proofs.Laws.{both, left-of, right_of, one-true}
use Rattle.numbers.proofs.Sort.{times-append, less-distinct, less-under}
use Rattle.files.specs.Queues.{reading_number, pool_of, cleanup_of, read_queue_of, replay_of, appending_of, reading_of, appending_size, files_of, file_count, room_kept, queues_kept}
use Rattle.numbers.proofs.QueueLists.{push_if_count}
use Rattle.files.specs.Moves.{reading_cleaned}
use Rattle.files.specs.Calls.{needs_new, lacks_number, files_used_up}
use Rattle.files.specs.declared.queues.Queues.{Queues}

pub record Room (q : Queues) : Type 0 where
  pub read : q.read_queue.count ≤ 64
  pub cleanup : q.cleanup_queue.count ≤ 64
  pub pool : q.log_pool.count ≤ 16
  pub replay : q.replay_queue.count ≤ 64
  pub all : one_if q.appending.some + q.read_queue.count + one_if q.reading.some + q.cleanup_queue.count + q.log_pool.count + q.replay_queue.count ≤ 64

pub room_facts : (q : Queues) → room_kept q ≡ true → Room q
unfolding room_kept file_count
room_facts q e =
    let a = right_of (leb q.read_queue.count 64) _ e in
    let b = right_of (leb q.cleanup_queue.count 64) _ a in
    let d = right_of (leb q.log_pool.count 16) _ b in
    record {
      read = leb-true q.read_queue.count 64 (left-of (leb q.read_queue.count 64) _ e);
      cleanup = leb-true q.cleanup_queue.count 64 (left-of (leb q.cleanup_queue.count 64) _ a);
      pool = leb-true q.log_pool.count 16 (left-of (leb q.log_pool.count 16) _ b);
      replay = leb-true q.replay_queue.count 64 (left-of (leb q.replay_queue.count 64) _ d);
      all = leb-true _ 64 (right_of (leb q.replay_queue.count 64) _ d);
    }

pub room-makes : (q : Queues) → Room q → room_kept q ≡ true
unfolding room_kept file_count
room-makes q r =
    both (le-leb _ _ r.read) (both (le-leb _ _ r.cleanup) (both (le-leb _ _ r.pool) (both (le-leb _ _ r.replay) (le-leb _ _ r.all))))

pub record Kept (q : Queues) : Type 0 where
  pub room : Room q
  pub below : all_below q.next_log_id (files_of q) ≡ true
  pub once : distinct (files_of q) ≡ true
  pub pool : ascends (pool_of q) ≡ true
  pub size : appending_size q < 9223372036854775808

pub kept_facts : (q : Queues) → queues_kept q ≡ true → Kept q
unfolding queues_kept
kept_facts q e =
    let a = right_of (room_kept q) _ e in
    let b = right_of (all_below q.next_log_id (files_of q)) _ a in
    let d = right_of (distinct (files_of q)) _ b in
    record {
      room = room_facts q (left-of (room_kept q) _ e);
      below = left-of (all_below q.next_log_id (files_of q)) _ a;
      once = left-of (distinct (files_of q)) _ b;
      pool = left-of (ascends (pool_of q)) _ d;
      size = ltb-true (appending_size q) 9223372036854775808 (right_of (ascends (pool_of q)) _ d);
    }

pub kept-makes : (q : Queues) → Kept q → queues_kept q ≡ true
unfolding queues_kept
kept-makes q k = both (room-makes q k.room) (both k.below (both k.once (both k.pool (lt-ltb _ _ k.size))))

-- a file that has a size is appending
pub sized_appending : (q : Queues) (min : ℕ) → min < appending_size q → q.appending.some ≡ true
unfolding appending_size
sized_appending q min h = by q.appending.some refl h
  where
    by : (b : Bool) → q.appending.some ≡ b → min < (if b then q.appending.size else 0) → b ≡ true
    by true e h = refl
    by false e h = absurd (omega arith)

-- how often a number stands in the places
pub whole : (v : ℕ) (q : Queues)
    → times v (files_of q) ≡ times v (appending_of q) + times v (read_queue_of q) + times v (reading_of q) + times v (cleanup_of q) + times v (pool_of q) + times v (replay_of q)
unfolding files_of
whole v q =
    let a = appending_of q in
    let b = read_queue_of q in
    let c = reading_of q in
    let d = cleanup_of q in
    let e = pool_of q in
    let f = replay_of q in
    omega (arith, times-append v (a ++ b ++ c ++ d ++ e) f, times-append v (a ++ b ++ c ++ d) e, times-append v (a ++ b ++ c) d, times-append v (a ++ b) c, times-append v a b)

-- where no number stands more often than it did, each file is in one place and below the next number still
pub still_kept : (q q' : Queues) → Kept q → Room q' → q'.next_log_id ≡ q.next_log_id → ((v : ℕ) → times v (files_of q') ≤ times v (files_of q))
    → ascends (pool_of q') ≡ true → appending_size q' < 9223372036854775808 → Kept q'
still_kept q q' k r e f p s = record {
  room = r;
  below = ap (λ (n : ℕ). all_below n (files_of q')) e ∙ less-under q.next_log_id (files_of q) (files_of q') f k.below;
  once = less-distinct (files_of q) (files_of q') f k.once;
  pool = p;
  size = s;
}

-- what `flush_one` moves finds room in the read queue
pub flush_room : (q : Queues) (min : ℕ) → queues_kept q ≡ true → min < appending_size q → q.read_queue.count < 64
flush_room q min ok h = omega (arith, (kept_facts q ok).room.all, one-true q.appending.some (sized_appending q min h))

-- what the test of all numbers found of a copy of them
pub below_as : (n n' : ℕ) (l l' : List ℕ) (b : Bool) → n' ≡ n → l' ≡ l → b ≡ all_below n' l' → all_below n l ≡ b
below_as n n' l l' b e f g = sym (g ∙ ap (λ (m : ℕ). all_below m l') e ∙ ap (all_below n) f)

-- a new number that is needed is there, and the size stays below its bound
left_false : (a b : Bool) → (a || b) ≡ false → a ≡ false
left_false false b e = refl
left_false true b e = e

right_false : (a b : Bool) → (a || b) ≡ false → b ≡ false
right_false false b e = e
right_false true b e = let w : ◌≡◌ {A = ℕ} 0 1 = cc in absurd (omega arith)

module _ (q : Queues) (length : ℕ) (f : files_used_up q length ≡ false) where
  pub number-left : q.appending.some ≡ false → q.log_pool.count ≡ 0 → q.next_log_id ≡ 4294967295 → ⊥
  unfolding needs_new lacks_number files_used_up
  number-left a p e =
      let g = left_false (lacks_number q) _ f in
      let z : true ≡ false = rw (a, p, eq-eqb q.next_log_id 4294967295 e) at g in
      let w : ◌≡◌ {A = ℕ} 0 1 = cc in omega arith

  pub size_low : appending_size q + length < 9223372036854775808
  unfolding files_used_up
  size_low = leb-false _ _ (right_false (lacks_number q) _ f)

-- the code's test of the size, without a sum that could wrap
pub leb_moved : (s s' l : ℕ) → s' ≡ s → s < 9223372036854775808 → leb (9223372036854775808 - s') l ≡ leb 9223372036854775808 (s + l)
leb_moved s s' l e h = by (leb 9223372036854775808 (s + l)) refl
  where
    by : (b : Bool) → leb 9223372036854775808 (s + l) ≡ b → leb (9223372036854775808 - s') l ≡ b
    by true f = le-leb (9223372036854775808 - s') l (omega (arith, leb-true 9223372036854775808 (s + l) f))
    by false f = lt-leb (9223372036854775808 - s') l (omega (arith, leb-false 9223372036854775808 (s + l) f))

-- a number is one number, if it is there
pub one-some : (b : Bool) (n : ℕ) → length (some_of (then_some b n)) ≡ one_if b
one-some true n = refl
one-some false n = refl

-- what the file being read leaves as it was when it goes to cleanup
pub cleaned_replay : (q : Queues) → (reading_cleaned q).replay_queue.count ≡ q.replay_queue.count
unfolding reading_cleaned
cleaned_replay q = refl

pub cleaned_cleanup : (q : Queues) → (reading_cleaned q).cleanup_queue.count ≡ q.cleanup_queue.count + one_if q.reading.some
unfolding reading_cleaned
cleaned_cleanup q = push_if_count q.cleanup_queue (reading_number q) ∙ ap (λ (n : ℕ). q.cleanup_queue.count + n) (one-some q.reading.some q.reading.id)

-- ---- the two doors of a call: what holds of the answer behind the test, and of the refusal, holds of the call
module _ {A : Type 0} (P : A → Type 0) {x : A} where
  pub door : {y : A} (b : Bool) → (b ≡ true → P x) → P y → P (if b then x else y)
  door true f p = f refl
  door false f p = p

  pub behind-door : (y : A) (b : Bool) → b ≡ true → P x → P (if b then x else y)
  behind-door y true e p = p
  behind-door y false e p = let z : ◌≡◌ {A = ℕ} 0 1 = cc in absurd (omega arith)
