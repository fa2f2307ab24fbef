-- What leaves, and a removal by that. Assumes nothing.
use mathlib.Core.Path.{◌≡◌, refl, sym, ap, ◌∙◌, subst}
use mathlib.Core.Bool.{Bool, true, false}
use mathlib.Core.List.{List}
use Prim.Native.Nat.{ℕ, ◌+◌, ◌-◌, ◌*◌, ◌<◌, ◌≤◌}
use native.Mathlib.Omega.{arith}
use lib.ListN.{take, length}
use Rattle.std.specs.Prelude.{if◌then◌else◌}
use Rattle.directory.specs.declared.table.TableKind.{TableKind}
use Rattle.numbers.proofs.Laws.{left-of}
use Rattle.keys.specs.Keys.{rank, cut_out, rename_all}
use Rattle.keys.specs.declared.ordered.Keys.{Keys}
use Rattle.overlay.specs.Rules.{Overlay, slot_size, overlay_kept, lists_of, rows_of, order_of, overlay_of}
use Rattle.std.specs.Prelude.{Option, Some, None}
use Rattle.overlay.specs.Overlay.{spot_in_of, stands_in, place_in, goes_from, row_moved, slot_moved, freed, removed_from}
use Rattle.overlay.specs.Inner.{leaving_in}
use Rattle.overlay.proofs.Ruled.{Kept, shows}
use Rattle.overlay.proofs.Slots.{slot_in_lem}
use Rattle.overlay.proofs.Plan.{stands_in_lem, place_in_lem, place-there, lent, leaving-lent}

abbrev free_by : TableKind → Overlay → Option (ℕ × ℕ) → Overlay
free_by kind o (Some (j, p)) = freed kind o j p
free_by kind o None = o

module _ (kind : TableKind) (o : Overlay) (key id : ℕ) where
  removed-by : removed_from kind o key id ≡ free_by kind o (leaving_in o key id)
  unfolding removed_from leaving_in
  removed-by = by (goes_from o key id)
    where
      by : (b : Bool) → (if b then freed kind o (spot_in_of o key) (place_in o key) else o) ≡ free_by kind o (if b then Some (spot_in_of o key, place_in o key) else None)
      by true = refl
      by false = refl

  pub gone-is : (j p : ℕ) → Some (j, p) ≡ leaving_in o key id → freed kind o j p ≡ removed_from kind o key id
  gone-is j p e = ap (free_by kind o) e ∙ sym removed-by

  pub left_is : None ≡ leaving_in o key id → o ≡ removed_from kind o key id
  left_is e = ap (free_by kind o) e ∙ sym removed-by

  -- the code's stores, as they stand, are the removal
  pub removal_is : (rows order bytes : List ℕ) (s : ℕ) → s ≡ slot_size kind → (j p : ℕ) → leaving_in o key id ≡ Some (j, p)
      → rows ≡ row_moved o.rows (o.count - 1) p → order ≡ rename_all (o.count - 1) (o.count - 1) p (cut_out j (o.count - 1) o.order) → bytes ≡ slot_moved s o.bytes (o.count - 1) p
      → lists_of rows order bytes (o.count - 1) ≡ removed_from kind o key id
  unfolding freed
  removal_is rows order bytes s size j p e r d b = rw (r, d, b, size) (gone-is j p (sym e))

-- a place in use, and the position of the order where it stands
abbrev is_at : Option (ℕ × ℕ) → Bool
is_at (Some (j, p)) = true
is_at None = false

abbrev spot_by : Option (ℕ × ℕ) → ℕ
spot_by (Some (j, p)) = j
spot_by None = 0

abbrev place_by : Option (ℕ × ℕ) → ℕ
place_by (Some (j, p)) = p
place_by None = 0

module _ (kind : TableKind) (room : ℕ) (o : Overlay) (ok : overlay_kept kind room o ≡ true) (key id : ℕ) where
  k : Kept kind room o
  k = shows kind room o ok

  w : o.count ≤ length o.order
  w = omega (arith, k.fits, k.order-long)

  pub record Leaves (j p : ℕ) : Type 0 where
    pub spot-low : j < o.count
    pub place-low : p < o.count
    pub most : o.count ≤ room
    pub slot : slot_size kind * (o.count - 1) + slot_size kind ≤ length o.bytes

  pub leaves : (j p : ℕ) → leaving_in o key id ≡ Some (j, p) → Leaves j p
  unfolding leaving_in goes_from stands_in spot_in_of
  leaves j p e = by (goes_from o key id) refl
    where
      plan : Bool → Option (ℕ × ℕ)
      plan b = if b then Some (spot_in_of o key, place_in o key) else None

      by : (b : Bool) → goes_from o key id ≡ b → Leaves j p
      by true h =
          let there : stands_in o key ≡ true = left-of (stands_in o key) _ h in
          let s : spot_in_of o key ≡ j = ap spot_by (sym (ap plan h) ∙ e) in
          let q : place_in o key ≡ p = ap place_by (sym (ap plan h) ∙ e) in
          let low : spot_in_of o key < o.count = stands_in_lem o key (spot_in_of o key) refl w there in
          let used : place_in o key < o.count = subst (λ (i : ℕ). i < o.count) (sym (place-there o key (spot_in_of o key) refl there)) (place_in_lem o key (spot_in_of o key) refl w k.in_order there) in
          record {
            spot-low = omega (arith, s, low);
            place-low = omega (arith, q, used);
            most = k.fits;
            slot = omega (arith, slot_in_lem (slot_size kind) (o.count - 1) room (omega (arith, low, k.fits)), k.bytes-long);
          }
      by false h =
          let z : true ≡ false = ap is_at (sym e ∙ ap plan h) in
          let y : ◌≡◌ {A = ℕ} 0 1 = cc in
          absurd (omega arith)

-- what the search over the keys that are lent says of the whole
pub leaving_says : (kind : TableKind) (room : ℕ) (words bytes : List ℕ) (n : ℕ) → overlay_kept kind room (overlay_of room words bytes n) ≡ true
    → (k : Keys) → k.rows.now ≡ rows_of room words → k.order.now ≡ take n (order_of room words)
    → (t table index id : ℕ) (r : Option (ℕ × ℕ)) → r ≡ leaving_in (lent k) (rank t index) id → t ≡ table
    → leaving_in (overlay_of room words bytes n) (rank table index) id ≡ r
leaving_says kind room words bytes n ok k e f t table index id r g h =
    let s = shows kind room (overlay_of room words bytes n) ok in
    sym
    (g
    ∙ ap (λ (x : ℕ). leaving_in (lent k) (rank x index) id) h
    ∙ leaving-lent k (overlay_of room words bytes n) (omega (arith, s.fits, s.order-long)) e f (rank table index) id)
