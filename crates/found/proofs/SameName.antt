-- Two taken names with one number are the same name, so that "The same taken name twice" is the same number twice. Assumes nothing.
use Prim.Native.Nat.{ℕ, zero, suc, ◌+◌, ◌-◌, ◌*◌, ◌<◌}
use mathlib.Core.Bool.{Bool, true, false, not, ◌&&◌, ◌||◌}
use mathlib.Core.List.{List, [], ◌∷◌}
use mathlib.Core.Path.{◌≡◌, refl, sym, ap, ◌∙◌}
use native.Mathlib.Omega.{arith}
use lib.ListN.{get_or, take, drop, length, length-drop}
use lib.Dec.{ltb, leb, eqb}
use borrow.Author.Tests.{ltb-true, ltb-false, leb-true, eqb-true, eqb-false}
use Rattle.std.specs.Prelude.{if◌then◌else◌, Some, None}
use Rattle.numbers.proofs.Laws.{left-of, right_of}
use Rattle.found.specs.Names.{begins_log, no_leading_zero, is_digit, all_digits, value_from, decimal_from, log_name}
use Rattle.found.proofs.NameLaws.{drop_next, value-le, begins-long}

-- ---- digits
-- as many digits with one value are the same, whatever stood before them
same_digits : (l k : List ℕ) (n m : ℕ) → length l ≡ length k → all_digits l ≡ true → all_digits k ≡ true → value_from n l ≡ value_from m k → (n ≡ m) × (l ≡ k)
same_digits [] [] n m e f g h = (h, refl)
same_digits [] (c ∷ k) n m e f g h = absurd (omega (arith, e))
same_digits (b ∷ l) [] n m e f g h = absurd (omega (arith, e))
same_digits (b ∷ l) (c ∷ k) n m e f g h =
    let r = same_digits l k (10 * n + (b - 48)) (10 * m + (c - 48)) (omega (arith, e)) (right_of (is_digit b) (all_digits l) f) (right_of (is_digit c) (all_digits k) g) h in
    let b1 = leb-true 48 b (left-of (leb 48 b) (leb b 57) (left-of (is_digit b) (all_digits l) f)) in
    let b2 = leb-true b 57 (right_of (leb 48 b) (leb b 57) (left-of (is_digit b) (all_digits l) f)) in
    let c1 = leb-true 48 c (left-of (leb 48 c) (leb c 57) (left-of (is_digit c) (all_digits k) g)) in
    let c2 = leb-true c 57 (right_of (leb 48 c) (leb c 57) (left-of (is_digit c) (all_digits k) g)) in
    let w : n ≡ m = omega (arith, r.0) in
    let v : b ≡ c = omega (arith, r.0) in
    (w, ap (λ (x : ℕ). x ∷ l) v ∙ ap (λ (t : List ℕ). c ∷ t) r.1)

-- digits after the first j of a list, whose value is that of the first j
behind-value : (j : ℕ) (l : List ℕ) (n : ℕ) → value_from n l ≡ value_from (value_from n (take j l)) (drop j l)
behind-value zero l n = refl
behind-value (suc j) [] n = refl
behind-value (suc j) (b ∷ l) n = behind-value j l (10 * n + (b - 48))

behind-digits : (j : ℕ) (l : List ℕ) → all_digits l ≡ true → all_digits (drop j l) ≡ true
behind-digits zero l e = e
behind-digits (suc j) [] e = e
behind-digits (suc j) (b ∷ l) e = behind-digits j l (right_of (is_digit b) (all_digits l) e)

-- more digits make another number, as the first of them isn't zero
no_longer : (l k : List ℕ) → 0 < length l → length l < length k → all_digits l ≡ true → all_digits k ≡ true → no_leading_zero k ≡ true → value_from 0 l ≡ value_from 0 k → ⊥
no_longer l [] p h f g z e = omega arith
no_longer l (c ∷ k) p h f g z e =
    let j : ℕ = length k - length l in
    let s = same_digits l (drop (suc j) (c ∷ k)) 0 (value_from 0 (take (suc j) (c ∷ k))) (omega (arith, length-drop j k)) f (behind-digits j k (right_of (is_digit c) (all_digits k) g)) (e ∙ behind-value (suc j) (c ∷ k) 0) in
    let c1 = leb-true 48 c (left-of (leb 48 c) (leb c 57) (left-of (is_digit c) (all_digits k) g)) in
    omega (arith, s.0, value-le (10 * 0 + (c - 48)) (take j k), first (eqb (length (c ∷ k)) 1) refl (eqb c 48) refl z)
  where
    first : (x : Bool) → eqb (length (c ∷ k)) 1 ≡ x → (y : Bool) → eqb c 48 ≡ y → (x || not y) ≡ true → c ≡ 48 → ⊥
    first true a y b w = λ v. omega (arith, eqb-true (length (c ∷ k)) 1 a)
    first false a true b w = let q : ◌≡◌ {A = ℕ} 0 1 = cc in absurd (omega arith)
    first false a false b w = eqb-false c 48 b

-- ---- names
record Taken (name : List ℕ) (n : ℕ) : Type 0 where
  begins : begins_log name ≡ true
  plain : no_leading_zero (drop 3 name) ≡ true
  digits : all_digits (drop 3 name) ≡ true
  value : value_from 0 (drop 3 name) ≡ n

taken_facts : (name : List ℕ) (n : ℕ) → log_name name ≡ Some n → Taken name n
unfolding log_name decimal_from
taken_facts name n = by (begins_log name) refl (no_leading_zero (drop 3 name)) refl (all_digits (drop 3 name)) refl (ltb (value_from 0 (drop 3 name)) 4294967296)
  where
    by : (a : Bool) → begins_log name ≡ a → (b : Bool) → no_leading_zero (drop 3 name) ≡ b → (c : Bool) → all_digits (drop 3 name) ≡ c → (d : Bool)
        → (if a && b then (if c && d then Some (value_from 0 (drop 3 name)) else None) else None) ≡ Some n → Taken name n
    by true e true f true g true h = record { begins = e; plain = f; digits = g; value = cc }
    by true e true f true g false h = let q : ◌≡◌ {A = ℕ} 0 1 = cc in absurd (omega arith)
    by true e true f false g d h = let q : ◌≡◌ {A = ℕ} 0 1 = cc in absurd (omega arith)
    by true e false f c g d h = let q : ◌≡◌ {A = ℕ} 0 1 = cc in absurd (omega arith)
    by false e b f c g d h = let q : ◌≡◌ {A = ℕ} 0 1 = cc in absurd (omega arith)

begins-is : (name : List ℕ) → begins_log name ≡ true → name ≡ 108 ∷ 111 ∷ 103 ∷ drop 3 name
unfolding begins_log
begins-is name e =
    let h = begins-long name e in
    let a = right_of (ltb 3 (length name)) _ e in
    let b = right_of (eqb (get_or name 0 0) 108) _ a in
    let x = eqb-true (get_or name 0 0) 108 (left-of (eqb (get_or name 0 0) 108) _ a) in
    let y = eqb-true (get_or name 1 0) 111 (left-of (eqb (get_or name 1 0) 111) _ b) in
    let z = eqb-true (get_or name 2 0) 103 (right_of (eqb (get_or name 1 0) 111) _ b) in
    drop_next name 0 (omega arith) ∙ rw (x, drop_next name 1 (omega arith), y, drop_next name 2 (omega arith), z)

pub same_name : (a b : List ℕ) (n : ℕ) → log_name a ≡ Some n → log_name b ≡ Some n → a ≡ b
same_name a b n e f =
    begins-is a p.begins ∙ ap (λ (t : List ℕ). 108 ∷ 111 ∷ 103 ∷ t) (same_digits (drop 3 a) (drop 3 b) 0 0 (by (ltb (length a) (length b)) refl (ltb (length b) (length a)) refl) p.digits q.digits v).1
    ∙ sym (begins-is b q.begins)
  where
    p : Taken a n
    p = taken_facts a n e

    q : Taken b n
    q = taken_facts b n f

    v : value_from 0 (drop 3 a) ≡ value_from 0 (drop 3 b)
    v = p.value ∙ sym q.value

    by : (x : Bool) → ltb (length a) (length b) ≡ x → (y : Bool) → ltb (length b) (length a) ≡ y → length (drop 3 a) ≡ length (drop 3 b)
    by true g y h =
        absurd (no_longer (drop 3 a) (drop 3 b) (omega (arith, length-drop 3 a, begins-long a p.begins)) (omega (arith, length-drop 3 a, length-drop 3 b, begins-long a p.begins, ltb-true (length a) (length b) g)) p.digits q.digits q.plain v)
    by false g true h =
        absurd (no_longer (drop 3 b) (drop 3 a) (omega (arith, length-drop 3 b, begins-long b q.begins)) (omega (arith, length-drop 3 a, length-drop 3 b, begins-long b q.begins, ltb-true (length b) (length a) h)) q.digits p.digits p.plain (sym v))
    by false g false h = omega (arith, length-drop 3 a, length-drop 3 b, ltb-false (length a) (length b) g, ltb-false (length b) (length a) h)
