-- Laws of heads: words pasted and written whole, words below a bound, and a head stored or left. Assumes nothing.
use mathlib.Core.Path.{◌≡◌, refl, sym, ap, ◌∙◌}
use mathlib.Core.Bool.{Bool, true, false, ◌&&◌}
use mathlib.Core.List.{List, [], ◌∷◌, ◌++◌, append-nil}
use Prim.Native.Nat.{ℕ, zero, suc, ◌+◌, ◌≤◌, ◌<◌}
use native.Mathlib.Numerals.{add-one}
use native.Mathlib.Omega.{arith}
use borrow.Author.Tests.{ltb-true, eqb-true}
use lib.Dec.{eqb, ltb}
use lib.ListN.{length, take, drop, get_or, set, length-take, length-drop, drop_of_length-le}
use lib.Seq.{paste, take-suc, take-suc-set, get_or-drop, get_or-take}
use Rattle.words.proofs.Choices.{if_true, if_false}
use Rattle.numbers.specs.Numbers.{all_below}
use Rattle.numbers.proofs.Laws.{left-of, right_of}
use Rattle.output.specs.Put.{put, Wrote}
use Rattle.host_words.specs.Head.{head_stored, head_after}

pub and-false : (b : Bool) → (b && false) ≡ false
and-false true = refl
and-false false = refl

-- an array pasted over whole
pub paste_all : (d s : List ℕ) (n : ℕ) → length d ≡ n → paste d 0 s n ≡ take n s
paste_all d s n e =
    let g : drop (0 + n) d ≡ [] = drop_of_length-le d {i = 0 + n} (omega arith) in
    rw (g, append-nil)

-- what was written over the whole is all there is
pub wrote-whole : {o bs n : List ℕ} {r : ℕ} → Wrote o 0 bs n r → length o ≤ r → n ≡ bs
unfolding put
wrote-whole {o} {bs} {n} {r} w h =
    let g : drop (0 + length bs) o ≡ [] = drop_of_length-le o {i = 0 + length bs} (omega (arith, w.next)) in
    w.bytes ∙ ap (λ (x : List ℕ). bs ++ x) g ∙ append-nil bs

-- one more of an array that is filled from words
pub fill_turn : (l w : List ℕ) (from i : ℕ) → i < length l → from + i < length w → take i l ≡ take i (drop from w) → take (i + 1) (set l i (get_or w (from + i) 0)) ≡ take (i + 1) (drop from w)
fill_turn l w from i h k e =
    let q : i < length (drop from w) = rw length-drop (omega arith) in
    rw (add-one i, take-suc-set l i _ h, e, take-suc (drop from w) i 0 q, get_or-drop from w i 0)

-- each of the words below a bound
pub below_at : (m : ℕ) (l : List ℕ) (i : ℕ) → all_below m l ≡ true → i < length l → get_or l i 0 < m
below_at m [] i e h = omega arith
below_at m (a ∷ l) zero e h = ltb-true _ _ (left-of (ltb a m) (all_below m l) e)
below_at m (a ∷ l) (suc i) e h = below_at m l i (right_of (ltb a m) (all_below m l) e) (omega arith)

pub below_in : (m n from : ℕ) (w : List ℕ) (i : ℕ) → all_below m (take n (drop from w)) ≡ true → i < n → from + n ≤ length w → get_or w (from + i) 0 < m
below_in m n from w i e h k =
    let q : i < length (take n (drop from w)) = simp (length-take, length-drop) (omega arith) in
    let t = below_at m (take n (drop from w)) i e q in
    rw (get_or-take n (drop from w) i 0 h, get_or-drop from w i 0) at t

-- a head that is stored, and one that is left
module _ (n m k : ℕ) (w new : List ℕ) {s : Bool} (e : m ≡ k) (h : s ≡ head_stored n m w) where
  pub head-new : {z : List ℕ} → s ≡ true → z ≡ new → z ≡ head_after n k w new
  head-new t q = q ∙ sym (if_true _ _ _ (ap (λ (x : ℕ). head_stored n x w) (sym e) ∙ sym h ∙ t))

  pub head-old : s ≡ false → w ≡ head_after n k w new
  head-old t = sym (if_false _ _ _ (ap (λ (x : ℕ). head_stored n x w) (sym e) ∙ sym h ∙ t))

pub head-length : (n m : ℕ) (w : List ℕ) {s : Bool} → s ≡ head_stored n m w → s ≡ true → length w ≡ n
unfolding head_stored
head-length n m w h t = eqb-true _ _ (left-of (eqb (length w) n) (ltb m 2) (sym h ∙ t))
