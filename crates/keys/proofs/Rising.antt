-- The rule of an order tested key by key. Assumes nothing.
use Prim.Native.Nat.{ℕ, ◌+◌, ◌-◌, ◌*◌, ◌<◌, ◌≤◌}
use mathlib.Core.Bool.{Bool, true, false, ◌&&◌}
use mathlib.Core.List.{List, [], ◌∷◌}
use mathlib.Core.Path.{◌≡◌, refl, sym, ap, ◌∙◌}
use native.Mathlib.Omega.{arith}
use lib.ListN.{get_or, take, drop, length}
use lib.Seq.{take-length}
use lib.Dec.{ltb}
use borrow.Author.Tests.{ltb-true, ltb-false}
use Rattle.numbers.specs.Numbers.{all_below, ascends}
use Rattle.keys.specs.Keys.{key_at, keys_of, all_under_of, ruled}
use Rattle.keys.proofs.Places.{under_at, rule-place, rule-order, rule_make, keys-cons, keys-end}

under_is : (n : ℕ) (l : List ℕ) → all_below n l ≡ all_under_of n l
under_is n [] = refl
under_is n (a ∷ l) = ap (λ (t : Bool). ltb a n && t) (under_is n l)

module _ (rows os : List ℕ) where
  abbrev n : ℕ
  n = length os

  all-under : all_under_of n (take n os) ≡ all_below n os
  all-under = ap (all_under_of n) (take-length os) ∙ sym (under_is n os)

  pub not_under : all_below (length os) os ≡ false → ruled rows os (length os) ≡ false
  not_under p = rule-place rows os n (all-under ∙ p)

  pub in_rows : all_below (length os) os ≡ true → 4 * length os ≤ length rows → (j : ℕ) → j < length os → 4 * get_or os j 0 + 4 ≤ length rows
  in_rows p k j h = omega (arith, k, under_at n os j h (sym (under_is n os) ∙ p))

  module _ (j : ℕ) (g : 1 ≤ j) (h : j < length os) where
    pair : drop (j - 1) (keys_of rows os (length os)) ≡ key_at rows (get_or os (j - 1) 0) ∷ key_at rows (get_or os j 0) ∷ drop (j + 1) (keys_of rows os (length os))
    pair =
        let e : j - 1 + 1 ≡ j = omega arith in
        keys-cons os n (omega arith) rows (j - 1) (omega arith) ∙ rw (e, keys-cons os n (omega arith) rows j h)

    pub stays : ltb (key_at rows (get_or os (j - 1) 0)) (key_at rows (get_or os j 0)) ≡ true
        → ascends (drop (j - 1) (keys_of rows os (length os))) ≡ ascends (drop j (keys_of rows os (length os)))
    stays p = ap ascends pair ∙ rw (p, keys-cons os n (omega arith) rows j h)

    pub falls : ltb (key_at rows (get_or os (j - 1) 0)) (key_at rows (get_or os j 0)) ≡ false → ascends (drop (j - 1) (keys_of rows os (length os))) ≡ false
    falls p = ap ascends pair ∙ rw p

  pub falling : (j : ℕ) → ascends (keys_of rows os (length os)) ≡ ascends (drop (j - 1) (keys_of rows os (length os)))
      → ascends (drop (j - 1) (keys_of rows os (length os))) ≡ false → ruled rows os (length os) ≡ false
  falling j e f = rule-order rows os n (e ∙ f)

  -- the last key alone, or none
  last : (j : ℕ) → length os ≤ j → ascends (drop (j - 1) (keys_of rows os (length os))) ≡ true
  last j h = by (ltb (j - 1) n) refl
    where
      by : (t : Bool) → ltb (j - 1) n ≡ t → ascends (drop (j - 1) (keys_of rows os n)) ≡ true
      by true e =
          let k : j - 1 < n = ltb-true (j - 1) n e in
          ap ascends (keys-cons os n (omega arith) rows (j - 1) k) ∙ rw (keys-end os n (omega arith) rows (j - 1 + 1) (omega arith))
      by false e = rw (keys-end os n (omega arith) rows (j - 1) (ltb-false (j - 1) n e))

  pub rules-all : all_below (length os) os ≡ true → (j : ℕ) → length os ≤ j
      → ascends (keys_of rows os (length os)) ≡ ascends (drop (j - 1) (keys_of rows os (length os))) → ruled rows os (length os) ≡ true
  rules-all p j h e = rule_make rows os n (all-under ∙ p) (e ∙ last j h)
