-- The first begin tag's byte of what lies behind a position, by the library's `position`. Assumes nothing.
use mathlib.Core.Path.{◌≡◌, sym, ap, subst, ◌∙◌}
use mathlib.Core.List.{List}
use Prim.Native.Nat.{ℕ, ◌+◌, ◌-◌, ◌≤◌, ◌<◌}
use native.Mathlib.Omega.{arith}
use lib.ListN.{length, drop, get_or}
use lib.Seq.{get_or-drop, get_or-take}
use Rattle.std.specs.Prelude.{Option, Some, None, MatchOption}
use Rattle.std.specs.List.{AllWithin, HoldsAt, slice_range}
use Rattle.salvaging.specs.Inner.{NextBegin, Begins}

abbrev pub no-tag : ℕ → Type 0
no-tag a = a ≡ 1 → ⊥

abbrev pub First : List ℕ → Option ℕ → Type 0
First rest r = MatchOption r (AllWithin no-tag rest 0 (length rest)) (λ i. (i < length rest) × HoldsAt (λ a. a ≡ 1) rest i × AllWithin no-tag rest 0 i)

module _ (log rest : List ℕ) (from : ℕ) (is : rest ≡ slice_range log from (length log)) (left : length rest + from ≡ length log) where
  behind : (k : ℕ) → from ≤ k → k < length log → get_or rest (k - from) 0 ≡ get_or log k 0
  behind k h l =
      ap (λ (t : List ℕ). get_or t (k - from) 0) is ∙ get_or-take (length log - from) (drop from log) (k - from) 0 (omega (arith, h, l)) ∙ get_or-drop from log (k - from) 0
      ∙ ap (λ (n : ℕ). get_or log n 0) (omega (arith, h))

  pub none-behind : (r : Option ℕ) → r ≡ None → First rest r → NextBegin log from None
  none-behind r e f =
      let m : First rest None = subst (First rest) e f in
      λ k h l t. m (k - from) 0 (omega arith) (omega (arith, left, h, l)) (behind k h l ∙ t)

  pub first-behind : (r : Option ℕ) (i : ℕ) → r ≡ Some i → First rest r → NextBegin log from (Some (from + i))
  first-behind r i e f =
      let m : First rest (Some i) = subst (First rest) e f in
      record {
        behind = omega arith;
        there = omega (arith, left, m.0);
        tag = sym (behind (from + i) (omega arith) (omega (arith, left, m.0))) ∙ ap (λ (n : ℕ). get_or rest n 0) (omega arith) ∙ m.1 0;
        none = λ k h l t. m.2 (k - from) 0 (omega arith) (omega (arith, h, l)) (behind k h (omega (arith, left, m.0, h, l)) ∙ t);
      }
