-- The keys of one kind as they are lent. Assumes nothing.
use Prim.Native.Nat.{ℕ, ◌+◌, ◌*◌, ◌<◌, ◌≤◌}
use mathlib.Core.Bool.{true, false}
use mathlib.Core.List.{List, map}
use mathlib.Core.Path.{◌≡◌, sym, ap, ◌∙◌}
use native.Mathlib.Omega.{arith}
use lib.ListN.{get_or, take, length}
use lib.Seq.{take-length, length-take-le}
use lib.Dec.{ltb, eqb}
use borrow.Author.Tests.{lt-ltb, le-ltb}
use Rattle.numbers.specs.Numbers.{ascends, spot}
use Rattle.numbers.proofs.Laws.{spot-le}
use Rattle.keys.specs.Keys.{key_at, keys_of, ruled, holds}
use Rattle.keys.specs.Lent.{keys_in}
use Rattle.keys.specs.declared.ordered.Keys.{Keys}
use Rattle.keys.proofs.Places.{in_use, key-at, keys_length, rule-rises}
use Rattle.keys.proofs.Turns.{below_as}

module _ (k : Keys) where
  whole : length k.order.now ≤ length k.order.now
  whole = omega arith

  pub keys_in-length : length (keys_in k) ≡ length k.order.now
  keys_in-length = keys_length k.order.now (length k.order.now) whole k.rows.now

  pub spot-within : (key : ℕ) → spot key (keys_in k) ≤ length k.order.now
  spot-within key = omega (arith, spot-le key (keys_in k), keys_in-length)

  pub keys_in-rise : ascends (keys_in k) ≡ true
  keys_in-rise = rule-rises k.rows.now k.order.now (length k.order.now) k.ruled

  module _ (j : ℕ) (h : j < length k.order.now) where
    pub row-fits : 4 * get_or k.order.now j 0 + 4 ≤ length k.rows.now
    row-fits = omega (arith, k.in_rows, in_use k.rows.now k.order.now (length k.order.now) j k.ruled whole h)

    pub key_in-at : key_at k.rows.now (get_or k.order.now j 0) ≡ get_or (keys_in k) j 0
    key_in-at = sym (key-at k.rows.now k.order.now (length k.order.now) 0 j whole h)

    -- the key at j is below exactly if j is before the key's place
    pub below-place : (key : ℕ) → ltb (get_or (keys_in k) j 0) key ≡ ltb j (spot key (keys_in k))
    below-place key =
        ap (λ (a : ℕ). ltb a key) (sym key_in-at)
        ∙ below_as k.rows.now k.order.now (length k.order.now) key j whole h k.ruled

    pub stands-at : (key : ℕ) → holds key j (keys_in k) ≡ eqb (get_or (keys_in k) j 0) key
    stands-at key = rw (keys_in-length, lt-ltb j (length k.order.now) h)

  pub stands-past : (key j : ℕ) → length k.order.now ≤ j → holds key j (keys_in k) ≡ false
  stands-past key j h = rw (keys_in-length, le-ltb j (length k.order.now) h)

-- the first n of an order, lent
pub keys_in-taken : (k : Keys) (rows order : List ℕ) (n : ℕ) → k.rows.now ≡ rows → k.order.now ≡ take n order → keys_in k ≡ keys_of rows order n
unfolding keys_of
keys_in-taken k rows order n r o = ap (map (key_at k.rows.now)) (take-length k.order.now ∙ o) ∙ rw r

pub ruled-taken : (rows order : List ℕ) (n : ℕ) → n ≤ length order → ruled rows order n ≡ true → ruled rows (take n order) (length (take n order)) ≡ true
unfolding ruled keys_of
ruled-taken rows order n h ok = rw (take-length (take n order), length-take-le n order h) ok
