-- The rules of keys, in one pass over them. Assumes nothing.
use mathlib.Core.Path.{◌≡◌, refl, ap, ◌∙◌}
use mathlib.Core.Bool.{Bool, true, false, ◌&&◌, and-false}
use mathlib.Core.List.{List, [], ◌∷◌, map}
use Prim.Native.Nat.{ℕ, ◌+◌, ◌*◌, ◌<◌, ◌≤◌}
use native.Mathlib.Omega.{arith}
use lib.Dec.{ltb, leb}
use lib.ListN.{get_or, take, drop, length}
use borrow.Author.Tests.{ltb-true, ltb-false, le-leb, lt-leb}
use Rattle.directory.specs.declared.table.TableKind.{TableKind}
use Rattle.directory.specs.declared.table.TableKind.TheVariants.{Index, Value, RefCount}
use Rattle.numbers.specs.Numbers.{above, ascends}
use Rattle.numbers.proofs.Laws.{places-cons}
use Rattle.keys.specs.Keys.{key_at, mark_at, keys_of, every, all_under_of, ruled}
use Rattle.overlay.specs.Rules.{mark_ruled, row_ruled, keys_ruled}
use Rattle.overlay.specs.Inner.{most_mark, is_within, followed}

-- a mask: any word but 0
any_mask : (mark : ℕ) → mark ≤ 18446744073709551615 → leb 1 mark && leb mark 18446744073709551615 ≡ ltb 0 mark
any_mask mark h = by (ltb 0 mark) refl
  where
    by : (t : Bool) → ltb 0 mark ≡ t → leb 1 mark && leb mark 18446744073709551615 ≡ ltb 0 mark
    by true e = let k = ltb-true 0 mark e in rw (le-leb 1 mark (omega arith), le-leb mark 18446744073709551615 h)
    by false e = let k = ltb-false 0 mark e in rw (lt-leb 1 mark (omega arith))

mark-same : (kind : TableKind) (mark : ℕ) → mark ≤ 18446744073709551615 → leb 1 mark && leb mark (most_mark kind) ≡ mark_ruled kind mark
mark-same Index mark h = any_mask mark h
mark-same Value mark h = refl
mark-same RefCount mark h = any_mask mark h

-- three rules of a place and of those behind it, as one pass meets them
step : (u a r us vs rs f : Bool) → (us && vs) && rs ≡ f → ((u && us) && (a && vs)) && (r && rs) ≡ u && (r && (a && f))
step false a r us vs rs f e = refl
step true false r us vs rs f e = rw (and-false us, and-false r)
step true true false us vs rs f e = and-false (us && vs)
step true true true us vs rs f e = e

start : (u r us vs rs f : Bool) → (us && vs) && rs ≡ f → ((u && us) && vs) && (r && rs) ≡ u && (r && f)
start false r us vs rs f e = refl
start true false us vs rs f e = and-false (us && vs)
start true true us vs rs f e = e

module _ (kind : TableKind) (rows : List ℕ) (words : (i : ℕ) → get_or rows i 0 ≤ 18446744073709551615) where
  row_same : (p : ℕ) → is_within (most_mark kind) (get_or rows (4 * p) 0) (mark_at rows p) ≡ row_ruled kind rows p
  unfolding row_ruled
  row_same p = ap (λ (b : Bool). ltb (get_or rows (4 * p) 0) 65536 && b) (mark-same kind (mark_at rows p) (words (4 * p + 3)))

  behind : (n k : ℕ) (l : List ℕ) → (all_under_of n l && above k (map (key_at rows) l)) && every (row_ruled kind rows) l ≡ followed (most_mark kind) rows n k l
  behind n k [] = refl
  behind n k (p ∷ l) =
      rw (row_same p) (step (ltb p n) (ltb k (key_at rows p)) (row_ruled kind rows p) _ _ _ _ (behind n (key_at rows p) l))

  -- all of them
  pub pass : (os : List ℕ) (n : ℕ) → n ≤ length os → 0 < n
      → ruled rows os n && every (row_ruled kind rows) (take n os)
      ≡ ltb (get_or os 0 0) n && (is_within (most_mark kind) (get_or rows (4 * get_or os 0 0) 0) (mark_at rows (get_or os 0 0))
      && followed (most_mark kind) rows n (key_at rows (get_or os 0 0)) (drop 1 (take n os)))
  unfolding ruled keys_of
  pass os n k h =
      let p = get_or os 0 0 in
      ap (λ (l : List ℕ). (all_under_of n l && ascends (map (key_at rows) l)) && every (row_ruled kind rows) l) (places-cons os n k 0 h)
      ∙ rw (row_same p) (start (ltb p n) (row_ruled kind rows p) _ _ _ _ (behind n (key_at rows p) (drop 1 (take n os))))

  -- the rules whole, by a first place
  module _ (room : ℕ) (os : List ℕ) (n : ℕ) where
    pub ruled-none : n ≡ 0 → keys_ruled kind room rows os n ≡ true
    unfolding keys_ruled ruled keys_of
    ruled-none e = rw (e, le-leb 0 room (omega arith))

    pub ruled-by : n ≤ room → n ≤ length os → 0 < n → (most : ℕ) → most ≡ most_mark kind
        → keys_ruled kind room rows os n
        ≡ ltb (get_or os 0 0) n && (is_within most (get_or rows (4 * get_or os 0 0) 0) (mark_at rows (get_or os 0 0))
        && followed most rows n (key_at rows (get_or os 0 0)) (drop 1 (take n os)))
    unfolding keys_ruled
    ruled-by g k h most e = rw (le-leb n room g, e) (pass os n k h)
