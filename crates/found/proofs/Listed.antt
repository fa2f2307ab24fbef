-- A list with the same behind it. Assumes nothing.
use Prim.Native.Nat.{ℕ, zero, suc, ◌-◌}
use mathlib.Core.List.{List, ◌++◌}
use mathlib.Core.Path.{◌≡◌}
use native.Mathlib.Omega.{arith}
use lib.ListN.{take, drop, length, replicate}
use lib.Seq.{take_at}
use Rattle.found.specs.Listed.{listed}

drop_same : {A : Type 0} (a : A) (n k : ℕ) → drop k (replicate n a) ≡ replicate (n - k) a
drop_same a n zero = let e : n - 0 ≡ n = omega arith in rw e
drop_same a zero (suc k) = let e : 0 - suc k ≡ 0 = omega arith in rw e
drop_same a (suc n) (suc k) = let e : suc n - suc k ≡ n - k = omega arith in rw e (drop_same a n k)

-- a list written over the front of an array of which each place is the same
pub at_front_is : {A : Type 0} (a : A) (n : ℕ) (l l' : List A) → l' ≡ l → l' ++ drop (length l) (replicate n a) ≡ listed a n l
unfolding listed
at_front_is a n l l' e = rw (e, drop_same a n (length l))

-- the first of an array that a list fills
pub filled : {A : Type 0} (a : A) (n k : ℕ) (l : List A) → length l ≡ k → take k (listed a n l) ≡ l
unfolding listed
filled a n k l e = take_at l _ k e
