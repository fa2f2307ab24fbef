-- A rule of each row after a put: it holds of all if it held before and holds of the row that is written. Assumes nothing.
use mathlib.Core.Path.{◌≡◌, refl, ◌∙◌, subst}
use mathlib.Core.Bool.{Bool, true, false}
use mathlib.Core.List.{List}
use Prim.Native.Nat.{ℕ, ◌+◌, ◌*◌, ◌≤◌, ◌<◌}
use native.Mathlib.Omega.{arith}
use lib.Dec.{eqb}
use lib.ListN.{length, get_or, take}
use borrow.Author.Tests.{eqb-true, eqb-false}
use Rattle.directory.specs.declared.table.TableKind.{TableKind}
use Rattle.numbers.proofs.Laws.{put-places}
use Rattle.numbers.specs.Numbers.{spot}
use Rattle.keys.specs.Keys.{rank, row_put_of, keys_of, every, holds}
use Rattle.keys.proofs.Places.{rule-under}
use Rattle.keys.proofs.Kept.{every-same, every-put}
use Rattle.overlay.specs.Rules.{Overlay, overlay_kept}
use Rattle.overlay.specs.Overlay.{spot_in_of, stands_in, put_over}
use Rattle.overlay.proofs.Ruled.{Kept, shows}
use Rattle.overlay.proofs.Plan.{spot_in, place_in_lem, over-is, next-is}

module _ (kind : TableKind) (room : ℕ) (o : Overlay) (ok : overlay_kept kind room o ≡ true) (table index id mark : ℕ) (src : List ℕ)
    (free : stands_in o (rank table index) ≡ false → o.count < room) (f : List ℕ → ℕ → Bool)
    (here : (p : ℕ) → 4 * p + 4 ≤ length o.rows → f (row_put_of o.rows p table index id mark) p ≡ true)
    (other : (p q : ℕ) → 4 * p + 4 ≤ length o.rows → (q ≡ p → ⊥) → f (row_put_of o.rows p table index id mark) q ≡ f o.rows q) where
  abbrev key : ℕ
  key = rank table index

  abbrev j : ℕ
  j = spot key (keys_of o.rows o.order o.count)

  abbrev there : Bool
  there = holds key j (keys_of o.rows o.order o.count)

  -- the rule holds of every place in use
  abbrev Holds : Overlay → Type 0
  Holds q = every (f q.rows) (take q.count q.order) ≡ true

  k : Kept kind room o
  k = shows kind room o ok

  w : o.count ≤ length o.order
  w = omega (arith, k.fits, k.order-long)

  over : there ≡ true → Holds o → Holds (put_over kind o table index id mark src)
  over h e =
      subst Holds (over-is kind o table index id mark src j refl h)
      (every-same _ _ o.count (take o.count o.order) (rule-under o.rows o.order o.count k.in_order) (λ q i g. by q g (eqb q p) refl) e)
    where
      p : ℕ
      p = get_or o.order j 0

      low : 4 * p + 4 ≤ length o.rows
      low = omega (arith, place_in_lem o key j refl w k.in_order h, k.fits, k.rows_long)

      by : (q : ℕ) → f o.rows q ≡ true → (b : Bool) → eqb q p ≡ b → f (row_put_of o.rows p table index id mark) q ≡ true
      by q g true i = let z : q ≡ p = eqb-true q p i in rw z (here p low)
      by q g false i = other p q low (eqb-false q p i) ∙ g

  next : there ≡ false → o.count < room → Holds o → Holds (put_over kind o table index id mark src)
  next h r e =
      subst Holds (next-is kind o table index id mark src j refl h)
      (rw (put-places j o.count o.count o.order (spot_in o key j refl w) (omega (arith, k.order-long)))
      (every-put (f (row_put_of o.rows o.count table index id mark)) j o.count (take o.count o.order) (here o.count low)
      (every-same _ _ o.count (take o.count o.order) (rule-under o.rows o.order o.count k.in_order)
      (λ q i g. other o.count q low (λ z. omega arith) ∙ g) e)))
    where
      low : 4 * o.count + 4 ≤ length o.rows
      low = omega (arith, k.rows_long)

  pub each-put : every (f o.rows) (take o.count o.order) ≡ true
      → every (f (put_over kind o table index id mark src).rows) (take (put_over kind o table index id mark src).count (put_over kind o table index id mark src).order) ≡ true
  unfolding stands_in spot_in_of
  each-put e = by there refl free
    where
      by : (b : Bool) → there ≡ b → (there ≡ false → o.count < room) → Holds (put_over kind o table index id mark src)
      by true h r = over h e
      by false h r = next h (r h) e
