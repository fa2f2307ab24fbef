-- A list's words read part by part, and refused where a drop names no table. Assumes nothing.
use mathlib.Core.Path.{◌≡◌, refl, sym, ap, ◌∙◌}
use mathlib.Core.Bool.{Bool, true, false, ◌&&◌}
use mathlib.Core.List.{List, [], ◌∷◌}
use Prim.Native.Nat.{ℕ, ◌+◌, ◌≤◌, ◌<◌}
use native.Mathlib.Omega.{arith}
use borrow.Author.Tests.{eq-eqb, ne_eqb, lt-ltb, le-ltb}
use lib.Dec.{ltb}
use lib.ListN.{length, take, drop, get_or, length-take}
use native.Mathlib.Numerals.{add-one}
use lib.Seq.{take_all, drop-cons, drop-drop, get_or-drop, get_or-take}
use Rattle.std.specs.Prelude.{Some, None, Result, Ok, Err}
use Rattle.std.specs.Result.{OkIff, result_ok}
use Rattle.std.specs.Prelude.{if◌then◌else◌}
use Rattle.std.proofs.lemmas.Option.{same_Some}
use Rattle.numbers.specs.Numbers.{all_below}
use Rattle.memory.specs.declared.counts.Counts.{Counts}
use Rattle.change.specs.declared.drops.Drops.{Drops}
use Rattle.host_words.specs.Change.{tables_from, counts_from, list_formed}
use Rattle.host_words.proofs.Laws.{and-false}
use Rattle.host_words.specs.Inner.{drops_read, list_read}

drop_one : (l : List ℕ) → drop 1 (take 17 l) ≡ take 16 (drop 1 l)
drop_one [] = refl
drop_one (x ∷ l) = refl

in_part : (n at i : ℕ) (w : List ℕ) → i < n → get_or (take n (drop at w)) i 0 ≡ get_or w (at + i) 0
in_part n at i w h = get_or-take n (drop at w) i 0 h ∙ get_or-drop at w i 0

take-most : (n : ℕ) (l : List ℕ) → length (take n l) ≤ n
take-most n l = omega (arith, length-take n l)

-- what was read, and that it could be
if_none : {A : Type 0} (b : Bool) (x : A) → (if b then Some x else None) ≡ None → b ≡ false
if_none true x e = cc
if_none false x e = refl

if_some : {A : Type 0} (b : Bool) (x y : A) → (if b then Some x else None) ≡ Some y → (b ≡ true) × (y ≡ x)
if_some true x y e = (refl, sym (same_Some _ _ e))
if_some false x y e = cc

-- one word tested of those that are left
module _ (m : ℕ) (d : List ℕ) (i : ℕ) (h : i < length d) where
  word_tested : all_below m (drop i d) ≡ ltb (get_or d i 0) m && all_below m (drop (i + 1) d)
  word_tested = rw (add-one i) (ap (all_below m) (drop-cons d i 0 h))

  pub word_below : get_or d i 0 < m → all_below m (drop (i + 1) d) ≡ all_below m (drop i d)
  word_below e = sym (word_tested ∙ rw (lt-ltb (get_or d i 0) m e))

  pub word_above : (get_or d i 0 < m → ⊥) → all_below m (drop i d) ≡ false
  word_above e = word_tested ∙ rw (le-ltb (get_or d i 0) m (omega arith))

-- what became of a word in a narrower type
pub narrowed : {E : Type 0} (r : Result ℕ E) (P : Type 0) (v x : ℕ) → OkIff r P v → Some x ≡ result_ok r → P × (x ≡ v)
narrowed (Ok y) P v x h e = (h.0, same_Some _ _ e ∙ h.1)
narrowed (Err y) P v x h e = cc

pub not_narrowed : {E : Type 0} (r : Result ℕ E) (P : Type 0) (v : ℕ) → OkIff r P v → None ≡ result_ok r → P → ⊥
not_narrowed (Ok y) P v h e = cc
not_narrowed (Err y) P v h e = h

module _ (w : List ℕ) where
  -- the drops in a part are those at its place
  pub drops_part : (at : ℕ) → drops_read (take 17 (drop at w)) 0 ≡ drops_read w at
  drops_part at =
      let tables : tables_from (take 17 (drop at w)) 1 ≡ tables_from w (at + 1) = ap (take 16) (drop_one (drop at w)) ∙ take_all 16 (take 16 (drop 1 (drop at w))) (take-most 16 (drop 1 (drop at w))) ∙ ap (take 16) (drop-drop 1 at w) in
      let count : get_or (take 17 (drop at w)) 0 0 ≡ get_or w at 0 = in_part 17 at 0 w (omega arith) ∙ ap (λ (k : ℕ). get_or w k 0) (omega arith) in
      rw (tables, count)

  pub counts_part : (at : ℕ) → counts_from (take 3 (drop at w)) 0 ≡ counts_from w at
  counts_part at =
      let first : get_or (take 3 (drop at w)) 0 0 ≡ get_or w at 0 = in_part 3 at 0 w (omega arith) ∙ ap (λ (k : ℕ). get_or w k 0) (omega arith) in
      rw (first, in_part 3 at 1 w (omega arith), in_part 3 at 2 w (omega arith))

  -- another number of words is no list
  pub list_short : (length w ≡ 38 → ⊥) → None ≡ list_read w
  unfolding list_formed
  list_short h = rw (ne_eqb _ _ h)

  module _ (long : length w ≡ 38) where
    pub first_refused : drops_read w 4 ≡ None → None ≡ list_read w
    unfolding list_formed
    first_refused h = rw (eq-eqb _ _ long, if_none _ _ h)

    pub second_refused : drops_read w 21 ≡ None → None ≡ list_read w
    unfolding list_formed
    second_refused h = rw (eq-eqb _ _ long, if_none _ _ h, and-false)

    pub both_read : (a b : Drops) (k : Counts) → drops_read w 4 ≡ Some a → drops_read w 21 ≡ Some b → k ≡ counts_from w 1
        → Some (record { record_id = get_or w 0 0; counts = k; dropped_tables = a; dropped_ref_count_tables = b }) ≡ list_read w
    unfolding list_formed
    both_read a b k p q e =
        let f = if_some _ _ _ p in
        let g = if_some _ _ _ q in
        rw (eq-eqb _ _ long, f.0, g.0, f.1, g.1, e)
