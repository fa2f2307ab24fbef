-- Laws of scanning. Assumes nothing.
use mathlib.Core.Path.{◌≡◌, refl, sym, ap, ◌∙◌}
use mathlib.Core.Bool.{Bool, true, false, not, ◌&&◌}
use mathlib.Core.List.{List, [], ◌∷◌}
use Prim.Native.Nat.{ℕ, suc, ◌+◌, ◌<◌}
use native.Mathlib.Numerals.{add-one}
use native.Mathlib.Omega.{arith}
use borrow.Author.Tests.{eq-eqb, ne_eqb}
use lib.Dec.{eqb}
use lib.Pointwise.{pointwise}
use Rattle.std.specs.Bool.{◌==◌}
use lib.ListN.{length, take, drop, length-drop}
use lib.Seq.{drop-drop}
use Rattle.std.specs.Prelude.{if◌then◌else◌, Option, MatchOption}
use Rattle.std.specs.List.{AllWithin, HoldsAt}
use Rattle.std.specs.Option.{unwrap_or}
use Rattle.std.proofs.lemmas.Iterator.{index_from_first}
use Rattle.directory_text.specs.Scan.{is_blank, is_wordy, is_before, front, behind, is_none, same_bytes, on_first, text_lines}

-- ---- the bytes in front that pass, by the place of the first that doesn't

module _ (p : ℕ → Bool) where
  front-hit : (b : ℕ) (bs : List ℕ) → p b ≡ false → length (front p (b ∷ bs)) ≡ 0
  unfolding front
  front-hit b bs e = rw e

  front-miss : (b : ℕ) (bs : List ℕ) → p b ≡ true → length (front p (b ∷ bs)) ≡ length (front p bs) + 1
  unfolding front
  front-miss b bs e = rw (e, add-one (length (front p bs)))

  front-none : length (front p []) ≡ 0
  unfolding front
  front-none = refl

  scanned : (text : List ℕ) (r : Option ℕ)
      → MatchOption r (AllWithin (λ b. p b ≡ true) text 0 (length text)) (λ i. (i < length text) × HoldsAt (λ b. p b ≡ false) text i × AllWithin (λ b. p b ≡ true) text 0 i)
      → length (front p text) ≡ unwrap_or r (length text)
  scanned text r h = index_from_first (λ l. length (front p l)) (λ b. p b ≡ false) (λ b. p b ≡ true) front-none front-hit front-miss text r h

  front-turn : (b : ℕ) (bs f : List ℕ) → take (length f) bs ≡ f → (t : Bool) → take (length (if t then b ∷ f else [])) (b ∷ bs) ≡ (if t then b ∷ f else [])
  front-turn b bs f e true = ap (λ (l : List ℕ). b ∷ l) e
  front-turn b bs f e false = refl

  by_front : (bs : List ℕ) → take (length (front p bs)) bs ≡ front p bs
  unfolding front
  by_front [] = refl
  by_front (b ∷ bs) = front-turn b bs (front p bs) (by_front bs) (p b)

  behind-turn : (b : ℕ) (bs f r : List ℕ) → drop (length f) bs ≡ r → (t : Bool) → drop (length (if t then b ∷ f else [])) (b ∷ bs) ≡ (if t then r else b ∷ bs)
  behind-turn b bs f r e true = e
  behind-turn b bs f r e false = refl

  pub by-behind : (bs : List ℕ) → drop (length (front p bs)) bs ≡ behind p bs
  unfolding front behind
  by-behind [] = refl
  by-behind (b ∷ bs) = behind-turn b bs (front p bs) (behind p bs) (by-behind bs) (p b)

  -- cut at that place, or at the end
  module _ (text : List ℕ) (r : Option ℕ)
      (h : MatchOption r (AllWithin (λ b. p b ≡ true) text 0 (length text)) (λ i. (i < length text) × HoldsAt (λ b. p b ≡ false) text i × AllWithin (λ b. p b ≡ true) text 0 i))
      (end : ℕ) (e : end ≡ unwrap_or r (length text)) where
    pub cut_front : take end text ≡ front p text
    cut_front = ap (λ (n : ℕ). take n text) (e ∙ sym (scanned text r h)) ∙ by_front text

    pub cut-behind : drop end text ≡ behind p text
    cut-behind = ap (λ (n : ℕ). drop n text) (e ∙ sym (scanned text r h)) ∙ by-behind text

-- the tests in the code, and the definitions'
pub wordy : (b : ℕ) → is_blank b ≡ false → is_wordy b ≡ true
unfolding is_wordy
wordy b e = rw e refl

pub blank : (b : ℕ) → is_blank b ≡ true → is_wordy b ≡ false
unfolding is_wordy
blank b e = rw e refl

pub is_it : (c b : ℕ) → b ≡ c → is_before c b ≡ false
unfolding is_before
is_it c b e = rw (eq-eqb b c e) refl

pub is_other : (c b : ℕ) → (b ≡ c → ⊥) → is_before c b ≡ true
unfolding is_before
is_other c b e = rw (ne_eqb b c e) refl

-- ---- whether bytes are left

pub none_is : (l : List ℕ) (b : Bool) → b ≡ (length l == 0) → is_none l ≡ b
unfolding is_none
none_is [] b e = sym e
none_is (x ∷ l) b e = sym (e ∙ ne_eqb (length (x ∷ l)) 0 (λ q. omega arith))

-- ---- the lines of a text, one after the other

lines-turn : (b : ℕ) (bs f : List ℕ) → on_first b (text_lines bs) ≡ (b ∷ f) ∷ text_lines (drop (suc (length f)) bs) → (t : Bool)
    → (if t then [] ∷ text_lines bs else on_first b (text_lines bs)) ≡ (if not t then b ∷ f else []) ∷ text_lines (drop (suc (length (if not t then b ∷ f else []))) (b ∷ bs))
lines-turn b bs f e true = refl
lines-turn b bs f e false = e

first-line : (b : ℕ) (bs : List ℕ) → on_first b (text_lines bs) ≡ (b ∷ front (is_before 10) bs) ∷ text_lines (drop (suc (length (front (is_before 10) bs))) bs)
unfolding front is_before on_first text_lines
first-line b [] = refl
first-line b (c ∷ cs) = ap (on_first b) (lines-turn c cs (front (is_before 10) cs) (first-line c cs) (eqb c 10))

lines_step : (bs : List ℕ) → 0 < length bs → text_lines bs ≡ front (is_before 10) bs ∷ text_lines (drop (suc (length (front (is_before 10) bs))) bs)
unfolding front is_before text_lines
lines_step [] h = absurd (omega arith)
lines_step (b ∷ bs) h = lines-turn b bs (front (is_before 10) bs) (first-line b bs) (eqb b 10)

-- the first line, and those behind its end
pub next-line : (bs : List ℕ) → 0 < length bs → text_lines bs ≡ front (is_before 10) bs ∷ text_lines (drop 1 (behind (is_before 10) bs))
next-line bs h =
    let e : suc (length (front (is_before 10) bs)) ≡ length (front (is_before 10) bs) + 1 = omega arith in
    lines_step bs h ∙ rw (e, ← drop-drop 1 (length (front (is_before 10) bs)) bs, by-behind (is_before 10) bs) refl

pub line-shorter : (bs : List ℕ) → 0 < length bs → length (drop 1 (behind (is_before 10) bs)) < length bs
line-shorter bs h = rw (← by-behind (is_before 10) bs) (omega (arith, length-drop 1 (drop (length (front (is_before 10) bs)) bs), length-drop (length (front (is_before 10) bs)) bs))

pub no_line : (bs : List ℕ) → length bs ≡ 0 → text_lines bs ≡ []
unfolding text_lines
no_line [] e = refl
no_line (b ∷ bs) e = absurd (omega arith)

-- ---- whether two words are one, as `==` says it

words-same : (a b : List ℕ) → pointwise eqb a b ≡ same_bytes a b
unfolding same_bytes
words-same [] [] = refl
words-same [] (b ∷ bs) = refl
words-same (a ∷ l) [] = refl
words-same (a ∷ l) (b ∷ bs) = ap (λ (t : Bool). eqb a b && t) (words-same l bs)

pub tested : (word l k : List ℕ) (t : Bool) → l ≡ k → t ≡ pointwise eqb word l → same_bytes word k ≡ t
tested word l k t e f = sym (f ∙ ap (pointwise eqb word) e ∙ words-same word k)
