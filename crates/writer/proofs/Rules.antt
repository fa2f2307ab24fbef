-- What the rules of a list give: each of its keys can be written. Assumes nothing.
use mathlib.Core.Path.{◌≡◌, ap}
use mathlib.Core.Bool.{true}
use mathlib.Core.List.{List, []}
use Prim.Native.Nat.{ℕ, ◌-◌, ◌*◌, ◌≤◌, ◌<◌}
use native.Mathlib.Omega.{arith}
use lib.ListN.{length, take, drop, get_or, length-drop}
use lib.Seq.{get_or-take, length-take-le}
use Rattle.directory.specs.declared.table.TableKind.{TableKind}
use Rattle.keys.specs.Keys.{mark_at}
use Rattle.overlay.specs.Rules.{Overlay, lists_of, slot_size, stored_length, row_ruled, overlay_kept}
use Rattle.overlay.proofs.Parts.{rest_part}
use Rattle.overlay.proofs.Ruled.{shows}
use Rattle.memory.specs.Parts.{span_of, of_kind}
use Rattle.memory.specs.declared.span.Holder.TheVariants as holder
use Rattle.memory.proofs.Spans.{all-shows, lies}
use Rattle.change.specs.Change.{Change, change_ruled, places_of}
use Rattle.change.specs.Ruled.{list_of}
use Rattle.change.specs.declared.ruled.Ruled.{Ruled}
use Rattle.change.proofs.Listed.{Placed, placed, placed_at}
use Rattle.change.proofs.OneKind.{list-ruled}
use Rattle.change.proofs.Rules.{ruled-parts}
use Rattle.writer.specs.Bytes.{entry_bytes_at}
use Rattle.writer.specs.Inner.{Writable}

-- a key of a kind, by its place and by its number in the order
module _ (kind : TableKind) (room : ℕ) (o : Overlay) (small : room ≤ 256) (ok : overlay_kept kind room o ≡ true) where
  pub within : o.count ≤ length o.order
  within = let k = shows kind room o ok in omega (arith, k.fits, k.order-long)

  writable : (p : ℕ) → Placed kind room o p → Writable kind o.rows o.bytes p
  writable p k = record { place = omega (arith, k.low); row = k.row; table = k.small; lies = k.stored }

  pub place-writable : (p : ℕ) → p < o.count → row_ruled kind o.rows p ≡ true → Writable kind o.rows o.bytes p
  place-writable p h e = writable p (placed_at kind room o ok p h e)

  pub key-writable : (i : ℕ) → i < o.count → Writable kind o.rows o.bytes (get_or o.order i 0)
  key-writable i h = writable (get_or o.order i 0) (placed kind room o ok i h)

-- where the chunk or value of a key begins, and that it lies there: `size` is a slot's, as the code has it
module _ (kind : TableKind) (rows bytes : List ℕ) (p : ℕ) (w : Writable kind rows bytes p) where
  pub lies-there : stored_length kind (mark_at rows p) ≤ length (drop (slot_size kind * p) bytes)
  lies-there = rw length-drop (omega (arith, w.lies))

  module _ (size : ℕ) (e : size ≡ slot_size kind) where
    pub begins_in : size * p ≤ length bytes
    begins_in = rw e (omega (arith, w.lies))

    pub part-is : take (length bytes - size * p) (drop (size * p) bytes) ≡ drop (slot_size kind * p) bytes
    part-is = rw e (rest_part (slot_size kind * p) bytes)

-- each kind of a list
pub kind-kept : (l : Change) → change_ruled l ≡ true → (kind : TableKind) → overlay_kept kind (span_of holder.List kind).room (of_kind kind l.parts) ≡ true
kind-kept l e = (all-shows holder.List l.parts (ruled-parts l e)).each

-- each key of a kind, as the code is lent it: it can be written, and its bytes are the list's
module _ (kind : TableKind) (r : Ruled) where
  abbrev o : Overlay
  o = of_kind kind (list_of r).parts

  ok : overlay_kept kind (span_of holder.List kind).room o ≡ true
  ok = kind-kept (list_of r) (list-ruled r) kind

  pub few : o.count ≤ length o.order
  few = within kind (span_of holder.List kind).room o (lies holder.List kind).room_most ok

  module _ (rows order slots : List ℕ) (e : rows ≡ o.rows) (f : order ≡ places_of o) (g : slots ≡ o.bytes) where
    pub low : (j : ℕ) → j < length order → j < o.count
    low j h = omega (arith, ap length f, length-take-le o.count o.order few)

    pub past : (j : ℕ) → length order ≤ j → o.count ≤ j
    past j h = omega (arith, ap length f, length-take-le o.count o.order few)

    module _ (j : ℕ) (h : j < length order) where
      here : get_or order j 0 ≡ get_or o.order j 0
      here = rw f (get_or-take o.count o.order j 0 (low j h))

      pub lent-writable : Writable kind rows slots (get_or order j 0)
      lent-writable = rw (here, e, g) (key-writable kind (span_of holder.List kind).room o (lies holder.List kind).room_most ok j (low j h))

      pub lent-bytes : entry_bytes_at kind (lists_of rows [] slots 0) (get_or order j 0) ≡ entry_bytes_at kind o (get_or o.order j 0)
      unfolding entry_bytes_at
      lent-bytes = rw (here, e, g)
