-- Bytes that stand at a place of a log, and numbers among them. Assumes nothing.
use mathlib.Core.Path.{◌≡◌, sym, ap, ◌∙◌}
use mathlib.Core.List.{List, ◌++◌}
use Prim.Native.Nat.{ℕ, ◌+◌, ◌-◌, ◌^◌, ◌≤◌, ◌<◌}
use native.Mathlib.Nat.{add-zero}
use native.Mathlib.Omega.{arith}
use lib.ListN.{length, take, drop, get_or, length-append, length-drop}
use lib.Seq.{drop-drop, take_at, drop_at, get_or-drop}
use Rattle.words.specs.Words.{little, little_at}
use Rattle.output.specs.Put.{le}
use Rattle.output.proofs.Laws.{length-le, little-le}

-- the log goes on with bs from `at` on
pub record Here (log : List ℕ) (at : ℕ) (bs : List ℕ) : Type 0 where
  pub fits : at ≤ length log
  pub is : drop at log ≡ bs

module _ {log : List ℕ} {at : ℕ} where
  pub left : {bs : List ℕ} → Here log at bs → length log - at ≡ length bs
  left h = sym (length-drop at log) ∙ ap length h.is

  -- the first n of them, and what stands behind those
  module _ (a b : List ℕ) (n : ℕ) (e : length a ≡ n) (h : Here log at (a ++ b)) where
    pub front : take n (drop at log) ≡ a
    front = ap (take n) h.is ∙ take_at a b n e

    pub on : Here log (at + n) b
    on = record {
      fits = omega (arith, left h, length-append a b, h.fits);
      is = sym (drop-drop n at log) ∙ ap (drop n) h.is ∙ drop_at a b n e;
    }

    pub room : n ≤ length log - at
    room = omega (arith, left h, length-append a b)

-- a number of n bytes
pub number : (n x : ℕ) (b : List ℕ) {log : List ℕ} {at : ℕ} → x < 256 ^ n → Here log at (le n x ++ b) → x ≡ little_at n log at
number n x b h e = sym (ap little (front (le n x) b n (length-le n x) e) ∙ little-le n x h)

-- the tag
pub tag_at : (tag : ℕ) (b : List ℕ) {log : List ℕ} {at : ℕ} → tag < 256 → Here log at (le 1 tag ++ b) → get_or log at 0 ≡ tag
unfolding le
tag_at tag b {log} {at} h e =
    ap (λ (n : ℕ). get_or log n 0) (sym (add-zero at)) ∙ sym (get_or-drop at log 0 0) ∙ ap (λ (l : List ℕ). get_or l 0 0) e.is ∙ omega arith
