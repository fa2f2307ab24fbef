-- What each operation of a queue comes to on lists, and that its array keeps its length. Assumes nothing.
use Prim.Native.Nat.{ℕ, suc, ◌+◌, ◌-◌, ◌≤◌, ◌<◌}
use mathlib.Core.List.{List, [], ◌∷◌, ◌++◌, append-nil}
use mathlib.Core.Path.{◌≡◌, refl, sym, ap, ◌∙◌}
use native.Mathlib.Omega.{arith}
use native.Mathlib.Numerals.{add-one}
use lib.ListN.{set, take, drop, length, length-set, length-drop}
use lib.Seq.{take-paste, length-paste, take-suc-set, drop-cons}
use Rattle.std.specs.Prelude.{Option, Some, None}
use Rattle.words.proofs.Cut.{drop_take}
use Rattle.numbers.specs.Numbers.{some_of, insert, insert_all, spot}
use Rattle.numbers.specs.Queue.{list_of, pushed, pushed_if, appended, front_of_of, first_of, without_first, sorted_in, all_sorted_in}
use Rattle.numbers.specs.declared.queue.NumberQueue.{NumberQueue}
use Rattle.numbers.proofs.Laws.{take-min, over-front, put-insert, put-length, spot-fits}

module _ (q : NumberQueue) where
  pub push_list : (v : ℕ) → q.count < length q.numbers → list_of (pushed q v) ≡ list_of q ++ v ∷ []
  push_list v h = ap (λ (m : ℕ). take m (set q.numbers q.count v)) (add-one q.count) ∙ take-suc-set q.numbers q.count v h

  pub push_length : (v : ℕ) → length (pushed q v).numbers ≡ length q.numbers
  push_length v = length-set q.numbers q.count v

  pub push_if_list : (some : Option ℕ) → q.count + length (some_of some) ≤ length q.numbers → list_of (pushed_if q some) ≡ list_of q ++ some_of some
  push_if_list None h = sym (append-nil (list_of q))
  push_if_list (Some v) h = push_list v (omega arith)

  pub push_if_count : (some : Option ℕ) → (pushed_if q some).count ≡ q.count + length (some_of some)
  push_if_count None = omega arith
  push_if_count (Some v) = refl

  pub push_if_length : (some : Option ℕ) → length (pushed_if q some).numbers ≡ length q.numbers
  push_if_length None = refl
  push_if_length (Some v) = push_length v

  module _ (r : NumberQueue) (h : q.count + r.count ≤ length q.numbers) (k : r.count ≤ length r.numbers) where
    pub append-list : list_of (appended q r) ≡ list_of q ++ list_of r
    append-list = take-paste q.numbers q.count r.numbers r.count (omega arith) k

    pub append-length : length (appended q r).numbers ≡ length q.numbers
    append-length = length-paste q.numbers q.count r.numbers r.count h k

  pub first-list : (n : ℕ) → list_of (first_of n q) ≡ take n (list_of q)
  first-list n = take-min n q.count q.numbers

  module _ (n : ℕ) (h : q.count ≤ length q.numbers) where
    left : q.count - n ≤ length (drop n q.numbers)
    left = rw length-drop (omega arith)

    pub without_list : list_of (without_first n q) ≡ drop n (list_of q)
    without_list = over-front q.numbers (drop n q.numbers) (q.count - n) (omega arith) left ∙ sym (drop_take n q.count q.numbers)

    pub without_length : length (without_first n q).numbers ≡ length q.numbers
    without_length = length-paste q.numbers 0 (drop n q.numbers) (q.count - n) (omega arith) left

  pub front-list : 0 < q.count → q.count ≤ length q.numbers → list_of q ≡ front_of_of q ∷ list_of (without_first 1 q)
  front-list h k =
      let e : q.count ≡ suc (q.count - 1) = omega arith in
      ap (take q.count) (drop-cons q.numbers 0 0 (omega arith)) ∙ ap (λ (m : ℕ). take m (front_of_of q ∷ drop 1 q.numbers)) e
      ∙ ap (λ (l : List ℕ). front_of_of q ∷ l) (sym (over-front q.numbers (drop 1 q.numbers) (q.count - 1) (omega arith) (left 1 k)))

  module _ (v : ℕ) (h : q.count < length q.numbers) where
    pub sorted_list : list_of (sorted_in q v) ≡ insert v (list_of q)
    sorted_list = put-insert v q.count q.numbers h

    pub sorted_length : length (sorted_in q v).numbers ≡ length q.numbers
    sorted_length = put-length (spot v (list_of q)) q.count v q.numbers (spot-fits v q.count q.numbers (omega arith)) h

pub all_sorted_count : (q : NumberQueue) (vs : List ℕ) → (all_sorted_in q vs).count ≡ q.count + length vs
all_sorted_count q [] = omega arith
all_sorted_count q (v ∷ vs) = omega (arith, all_sorted_count (sorted_in q v) vs)

pub all_sorted_list : (q : NumberQueue) (vs : List ℕ) → q.count + length vs ≤ length q.numbers → list_of (all_sorted_in q vs) ≡ insert_all (list_of q) vs
all_sorted_list q [] h = refl
all_sorted_list q (v ∷ vs) h =
    all_sorted_list (sorted_in q v) vs (omega (arith, sorted_length q v (omega arith))) ∙ ap (λ (l : List ℕ). insert_all l vs) (sorted_list q v (omega arith))

pub all_sorted_length : (q : NumberQueue) (vs : List ℕ) → q.count + length vs ≤ length q.numbers → length (all_sorted_in q vs).numbers ≡ length q.numbers
all_sorted_length q [] h = refl
all_sorted_length q (v ∷ vs) h =
    let e = sorted_length q v (omega arith) in
    all_sorted_length (sorted_in q v) vs (omega (arith, e)) ∙ e
