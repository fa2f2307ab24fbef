-- Words written part by part, one behind the other, over all that there are. Assumes nothing.
use mathlib.Core.Path.{◌≡◌, refl, sym, ap, ap₂, ◌∙◌}
use mathlib.Core.List.{List, [], ◌∷◌, ◌++◌, append-nil, append_assoc}
use Prim.Native.Nat.{ℕ, ◌+◌, ◌-◌, ◌≤◌, ◌<◌}
use native.Mathlib.Omega.{arith}
use lib.ListN.{length, set, drop, length-append, drop_of_length-le}
use lib.Seq.{take_at, drop_at}
use borrow.Rule.Slice.PartMut.{put_mid}

-- a part behind those that were written
step : (x y b : List ℕ) (n m : ℕ) → length x ≡ n → put_mid n m (x ++ y) b ≡ (x ++ b) ++ drop m y
step x y b n m e = ap₂ (λ (p q : List ℕ). p ++ (b ++ drop m q)) (take_at x y n e) (drop_at x y n e) ∙ sym (append_assoc x b (drop m y))

-- the last part
last : (x y b : List ℕ) (n : ℕ) → length x ≡ n → put_mid n (length (x ++ y) - n) (x ++ y) b ≡ x ++ b
last x y b n e =
    let k : length y ≤ length (x ++ y) - n = omega (arith, length-append x y, e) in
    step x y b n (length (x ++ y) - n) e ∙ ap (λ (l : List ℕ). (x ++ b) ++ l) (drop_of_length-le y {i = length (x ++ y) - n} k) ∙ append-nil (x ++ b)

pub a_count : (w b : List ℕ) (c : ℕ) → 0 < length w → put_mid 1 (length (set w 0 c) - 1) (set w 0 c) b ≡ c ∷ b
a_count [] b c h = absurd (omega arith)
a_count (x ∷ w) b c h = last (c ∷ []) w b 1 refl

module _ (w a b : List ℕ) (n m : ℕ) (ea : length a ≡ n) (eb : length b ≡ m) where
  two : put_mid n m (a ++ drop n w) b ≡ (a ++ b) ++ drop m (drop n w)
  two = step a (drop n w) b n m ea

  both-length : length (a ++ b) ≡ n + m
  both-length = length-append a b ∙ omega (arith, ea, eb)

  pub three : (c : List ℕ) → put_mid (n + m) (length (put_mid n m (a ++ drop n w) b) - (n + m)) (put_mid n m (a ++ drop n w) b) c ≡ a ++ b ++ c
  three c = ap (λ (l : List ℕ). put_mid (n + m) (length l - (n + m)) l c) two ∙ last (a ++ b) (drop m (drop n w)) c (n + m) both-length

  pub four : (c d : List ℕ) (k : ℕ) → length c ≡ k
      → put_mid (n + m + k) (length (put_mid (n + m) k (put_mid n m (a ++ drop n w) b) c) - (n + m + k)) (put_mid (n + m) k (put_mid n m (a ++ drop n w) b) c) d ≡ a ++ b ++ c ++ d
  four c d k ec =
      ap (λ (l : List ℕ). put_mid (n + m + k) (length l - (n + m + k)) l d) (ap (λ (l : List ℕ). put_mid (n + m) k l c) two ∙ step (a ++ b) (drop m (drop n w)) c (n + m) k both-length)
      ∙ last (a ++ b ++ c) (drop k (drop m (drop n w))) d (n + m + k) (length-append (a ++ b) c ∙ omega (arith, both-length, ec))
