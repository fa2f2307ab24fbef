-- A name's digits, one at a time. Assumes nothing.
use Prim.Native.Nat.{ℕ, ◌+◌, ◌-◌, ◌*◌, ◌≤◌, ◌<◌}
use mathlib.Core.Bool.{Bool, true, false, not, ◌&&◌, ◌||◌, and-false}
use mathlib.Core.List.{List, [], ◌∷◌}
use mathlib.Core.Path.{◌≡◌, refl, sym, ap, ◌∙◌}
use native.Mathlib.Omega.{arith}
use native.Mathlib.Numerals.{add-one}
use lib.ListN.{get_or, take, drop, length, drop_of_length-le}
use lib.Seq.{drop-cons}
use lib.Dec.{ltb, leb, eqb}
use lib.Pointwise.{pointwise}
use borrow.Author.Tests.{lt-ltb, le-ltb, ltb-true, leb-true, ne_eqb, eqb-true, eqb-false}
use Rattle.std.specs.Prelude.{if◌then◌else◌, Option, Some, None}
use Rattle.numbers.specs.Numbers.{some_of, all_below}
use Rattle.numbers.proofs.Laws.{left-of, right_of}
use Rattle.found.specs.Names.{begins_log, no_leading_zero, is_digit, all_digits, value_from, decimal_from, log_name, digit_of}

pub drop_next : (l : List ℕ) (i : ℕ) → i < length l → drop i l ≡ get_or l i 0 ∷ drop (i + 1) l
drop_next l i h = drop-cons l i 0 h ∙ ap (λ (m : ℕ). get_or l i 0 ∷ drop m l) (sym (add-one i))

-- what `digit` found
pub record Digit (b d : ℕ) : Type 0 where
  pub digit : is_digit b ≡ true
  pub value : d ≡ b - 48
  pub low : d ≤ 9

pub digit_some : (b d : ℕ) (r : Option ℕ) → r ≡ digit_of b → r ≡ Some d → Digit b d
unfolding digit_of
digit_some b d r e f = by (is_digit b) refl (sym e ∙ f)
  where
    by : (x : Bool) → is_digit b ≡ x → (if x then Some (b - 48) else None) ≡ Some d → Digit b d
    by true g h =
        let v : d ≡ b - 48 = cc in
        let w : b ≤ 57 = leb-true b 57 (right_of (leb 48 b) (leb b 57) g) in
        record { digit = g; value = v; low = omega arith }
    by false g h = let z : ◌≡◌ {A = ℕ} 0 1 = cc in absurd (omega arith)

pub digit_none : (b : ℕ) (r : Option ℕ) → r ≡ digit_of b → r ≡ None → is_digit b ≡ false
unfolding digit_of
digit_none b r e f = by (is_digit b) refl (sym e ∙ f)
  where
    by : (x : Bool) → is_digit b ≡ x → ◌≡◌ {A = Option ℕ} (if x then Some (b - 48) else None) None → is_digit b ≡ false
    by true g h = let z : ◌≡◌ {A = ℕ} 0 1 = cc in absurd (omega arith)
    by false g h = g

pub value-le : (n : ℕ) (l : List ℕ) → n ≤ value_from n l
value-le n [] = omega arith
value-le n (b ∷ l) = omega (arith, value-le (10 * n + (b - 48)) l)

pub digits_large : (n : ℕ) (l : List ℕ) → 4294967296 ≤ n → decimal_from n l ≡ None
unfolding decimal_from
digits_large n l h = rw (le-ltb (value_from n l) 4294967296 (omega (arith, value-le n l)), and-false (all_digits l))

module _ (n : ℕ) (name : List ℕ) (i : ℕ) where
  pub digits-end : length name ≤ i → n < 4294967296 → decimal_from n (drop i name) ≡ Some n
  unfolding decimal_from
  digits-end h k = rw (drop_of_length-le name {i = i} h, lt-ltb n 4294967296 k)

  module _ (h : i < length name) where
    pub digits_more : (d : ℕ) → Digit (get_or name i 0) d → decimal_from n (drop i name) ≡ decimal_from (10 * n + d) (drop (i + 1) name)
    unfolding decimal_from
    digits_more d e = ap (decimal_from n) (drop_next name i h) ∙ rw (e.digit, e.value)

    pub digits-stop : is_digit (get_or name i 0) ≡ false → decimal_from n (drop i name) ≡ None
    unfolding decimal_from
    digits-stop e = ap (decimal_from n) (drop_next name i h) ∙ rw e

-- ---- what stands before the digits, and the first of them
module _ (name : List ℕ) where
  pub begins-long : begins_log name ≡ true → 3 < length name
  unfolding begins_log
  begins-long e = ltb-true 3 (length name) (left-of (ltb 3 (length name)) _ e)

  -- a number below 2^32
  pub taken-below : all_below 4294967296 (some_of (log_name name)) ≡ true
  unfolding log_name decimal_from
  taken-below = by (begins_log name && no_leading_zero (drop 3 name)) (all_digits (drop 3 name)) (ltb (value_from 0 (drop 3 name)) 4294967296) refl
    where
      by : (a b d : Bool) → ltb (value_from 0 (drop 3 name)) 4294967296 ≡ d
          → all_below 4294967296 (some_of (if a then (if b && d then Some (value_from 0 (drop 3 name)) else None) else None)) ≡ true
      by true true true e = rw e
      by true true false e = refl
      by true false d e = refl
      by false b d e = refl

-- what the prefix says: "log" in front, and something behind it
pub begins_as : (name : List ℕ) → pointwise eqb (take 3 name) (108 ∷ 111 ∷ 103 ∷ []) ≡ true → begins_log name ≡ ltb 3 (length name)
unfolding begins_log
begins_as [] e = let z : ◌≡◌ {A = ℕ} 0 1 = cc in absurd (omega arith)
begins_as (a ∷ []) e = none (eqb a 108) e
  where
    none : (x : Bool) → (x && false) ≡ true → ltb 3 1 ≡ ltb 3 1
    none x f = refl
begins_as (a ∷ b ∷ []) e = refl
begins_as (a ∷ b ∷ d ∷ l) e =
    let f = right_of (eqb a 108) _ e in
    let g = right_of (eqb b 111) _ f in
    rw (left-of (eqb a 108) _ e, left-of (eqb b 111) _ f, left-of (eqb d 103) _ g) (and_true (ltb 3 (length (a ∷ b ∷ d ∷ l))))
  where
    and_true : (x : Bool) → (x && true) ≡ x
    and_true true = refl
    and_true false = refl

pub begins_not : (name : List ℕ) → pointwise eqb (take 3 name) (108 ∷ 111 ∷ 103 ∷ []) ≡ false → begins_log name ≡ false
unfolding begins_log
begins_not [] e = refl
begins_not (a ∷ []) e = refl
begins_not (a ∷ b ∷ []) e = refl
begins_not (a ∷ b ∷ d ∷ l) e = by (ltb 3 (length (a ∷ b ∷ d ∷ l))) (eqb a 108) (eqb b 111) (eqb d 103) e
  where
    by : (w x y z : Bool) → (x && (y && (z && true))) ≡ false → (w && (x && (y && z))) ≡ false
    by false x y z f = refl
    by true true true true f = f
    by true true true false f = refl
    by true true false z f = refl
    by true false y z f = refl

-- the digits behind the prefix
module _ (name d : List ℕ) (e : pointwise eqb (take 3 name) (108 ∷ 111 ∷ 103 ∷ []) ≡ true) (f : d ≡ drop 3 name) (g : length d + 3 ≡ length name) where
  pub name-short : length d ≡ 0 → log_name name ≡ None
  unfolding log_name
  name-short h = rw (begins_as name e, le-ltb 3 (length name) (omega arith))

  pub name_zero : 1 < length d → get_or d 0 0 ≡ 48 → log_name name ≡ None
  unfolding log_name
  name_zero h k = rw (begins_as name e, lt-ltb 3 (length name) (omega arith), ← f, ne_eqb (length d) 1 (λ z. omega arith), k)

  pub name_digits : (length d ≡ 0 → ⊥) → (1 < length d → get_or d 0 0 ≡ 48 → ⊥) → log_name name ≡ decimal_from 0 d
  unfolding log_name
  name_digits h k = rw (begins_as name e, lt-ltb 3 (length name) (omega arith), ← f) (by (eqb (length d) 1) refl (eqb (get_or d 0 0) 48) refl)
    where
      by : (x : Bool) → eqb (length d) 1 ≡ x → (y : Bool) → eqb (get_or d 0 0) 48 ≡ y
          → (if eqb (length d) 1 || not (eqb (get_or d 0 0) 48) then decimal_from 0 d else None) ≡ decimal_from 0 d
      by true a y b = rw a
      by false a true b = absurd (k (omega (arith, eqb-false (length d) 1 a)) (eqb-true (get_or d 0 0) 48 b))
      by false a false b = rw (a, b)
