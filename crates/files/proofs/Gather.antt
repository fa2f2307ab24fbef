-- A queue that grows at its end: how many it holds, and which. Assumes nothing.
use Prim.Native.Nat.{ℕ, ◌+◌, ◌≤◌}
use mathlib.Core.List.{List, [], ◌++◌}
use mathlib.Core.Path.{◌≡◌, ap, ◌∙◌}
use native.Mathlib.Omega.{arith}
use lib.ListN.{length}
use Rattle.numbers.specs.Numbers.{some_of}
use Rattle.std.specs.Prelude.{Option}
use Rattle.numbers.specs.Queue.{list_of, no_numbers, pushed_if, appended}
use Rattle.numbers.specs.declared.queue.NumberQueue.{NumberQueue}
use Rattle.numbers.proofs.QueueLists.{push_if_list, push_if_count, push_if_length, append-list, append-length}

pub record Holds (r : NumberQueue) (n : ℕ) (l : List ℕ) : Type 0 where
  pub count : r.count ≡ n
  pub long : length r.numbers ≡ 64
  pub list : list_of r ≡ l

pub holds-new : (r : NumberQueue) → r ≡ no_numbers → Holds r 0 []
holds-new r e = record {
  count = ap (λ (x : NumberQueue). x.count) e;
  long = ap (λ (x : NumberQueue). length x.numbers) e;
  list = ap list_of e;
}

module _ (r r' : NumberQueue) (n : ℕ) (l : List ℕ) (h : Holds r n l) where
  pub holds_push : (some got : Option ℕ) → got ≡ some → r' ≡ pushed_if r got → n + length (some_of some) ≤ 64 → Holds r' (n + length (some_of some)) (l ++ some_of some)
  holds_push some got g f k =
      let e : r' ≡ pushed_if r some = f ∙ ap (pushed_if r) g in
      record {
        count = ap (λ (x : NumberQueue). x.count) e ∙ push_if_count r some ∙ ap (λ (m : ℕ). m + length (some_of some)) h.count;
        long = ap (λ (x : NumberQueue). length x.numbers) e ∙ push_if_length r some ∙ h.long;
        list = ap list_of e ∙ push_if_list r some (omega (arith, h.count, h.long)) ∙ ap (λ (m : List ℕ). m ++ some_of some) h.list;
      }

  pub holds-append : (s : NumberQueue) → r' ≡ appended r s → length s.numbers ≡ 64 → n + s.count ≤ 64 → Holds r' (n + s.count) (l ++ list_of s)
  holds-append s e f k =
      let a : r.count + s.count ≤ length r.numbers = omega (arith, h.count, h.long) in
      let b : s.count ≤ length s.numbers = omega arith in
      record {
        count = ap (λ (x : NumberQueue). x.count) e ∙ ap (λ (m : ℕ). m + s.count) h.count;
        long = ap (λ (x : NumberQueue). length x.numbers) e ∙ append-length r s a b ∙ h.long;
        list = ap list_of e ∙ append-list r s a b ∙ ap (λ (m : List ℕ). m ++ list_of s) h.list;
      }
