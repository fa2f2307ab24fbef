-- A turn of the search: three keys asked at once, and what is left. Assumes nothing.
use Prim.Native.Nat.{ℕ, ◌+◌, ◌<◌, ◌≤◌}
use mathlib.Core.Bool.{Bool, true, false}
use mathlib.Core.List.{List}
use mathlib.Core.Path.{◌≡◌, refl, sym, ◌∙◌}
use lib.ListN.{get_or, length}
use lib.Dec.{ltb}
use borrow.Author.Tests.{lt-ltb, le-ltb}
use Rattle.numbers.specs.Numbers.{spot}
use Rattle.keys.specs.Keys.{key_at, keys_of, ruled}
use Rattle.keys.proofs.Places.{below-spot, not_below-spot}

-- the key at j is below k exactly if j is before k's place
pub below_as : (rows os : List ℕ) (n k j : ℕ) → n ≤ length os → j < n → ruled rows os n ≡ true → ltb (key_at rows (get_or os j 0)) k ≡ ltb j (spot k (keys_of rows os n))
below_as rows os n k j w h ok = by (ltb (key_at rows (get_or os j 0)) k) refl
  where
    by : (b : Bool) → ltb (key_at rows (get_or os j 0)) k ≡ b → ltb (key_at rows (get_or os j 0)) k ≡ ltb j (spot k (keys_of rows os n))
    by true e = e ∙ sym (lt-ltb j _ (below-spot rows os n k j w h ok e))
    by false e = e ∙ sym (le-ltb j _ (not_below-spot rows os n k j w h e))

-- what is looked for stands between a place and one that lies `left` behind it
abbrev pub Within : ℕ → ℕ → ℕ → Type 0
Within s low left = (low ≤ s) × (s ≤ low + left)
