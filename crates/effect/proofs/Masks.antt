-- How many entries a mask names. Assumes nothing.
use mathlib.Core.Path.{◌≡◌}
use mathlib.Core.List.{List}
use Prim.Native.Nat.{ℕ, zero, suc, ◌+◌, ◌*◌, ◌/◌, ◌≤◌}
use native.Mathlib.Nat.{mul-le-mul_right}
use native.Mathlib.Omega.{arith}
use lib.Count.{ones_in, ones, ones_step}
use lib.ListN.{length}
use Rattle.words.specs.Words.{little_at}
use Rattle.effect.specs.Meaning.{Entries}

-- the k lowest bits have no more set ones than all
low_ones : (k m : ℕ) → ones_in k m ≤ ones m
unfolding ones_in
low_ones zero m = omega arith
low_ones (suc k) m = omega (arith, ones_step m, low_ones k (m / 2))

module _ (width mask : ℕ) (payload : List ℕ) (m : mask ≡ little_at 8 payload 0) (e : Entries width payload) where
  -- the payload holds an entry for each set bit, and so for each of the lowest 64
  pub entries-held : 8 + ones mask * width ≤ length payload
  entries-held = rw m (omega arith)

  pub entries-room : 8 + ones_in 64 mask * width ≤ length payload
  entries-room = omega (arith, entries-held, mul-le-mul_right width (low_ones 64 mask))
