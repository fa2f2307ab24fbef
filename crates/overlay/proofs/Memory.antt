-- One place of an overlay after its row and its slot are written, and every other place. Assumes nothing.
use mathlib.Core.Path.{◌≡◌, refl, ap}
use mathlib.Core.Bool.{Bool, true, false, ◌&&◌}
use mathlib.Core.List.{List, map, map-map}
use Prim.Native.Nat.{ℕ, ◌+◌, ◌*◌, ◌<◌, ◌≤◌}
use native.Mathlib.Omega.{arith}
use lib.Dec.{ltb}
use lib.ListN.{get_or, take, drop, length}
use lib.Seq.{paste}
use borrow.Author.Tests.{ltb-true, ltb-false, lt-ltb}
use Rattle.directory.specs.declared.table.TableKind.{TableKind}
use Rattle.numbers.proofs.Laws.{both, left-of, right_of}
use Rattle.numbers.specs.Numbers.{ascends}
use Rattle.keys.specs.Keys.{rank, key_at, id_at, mark_at, row_put_of, keys_of, every}
use Rattle.keys.proofs.Places.{rule-under, rule-rises}
use Rattle.keys.proofs.Kept.{table_here, index-here, id-here, mark-here, word-other}
use Rattle.overlay.specs.Rules.{stored_length, Overlay, slot_size, mark_ruled, row_ruled, lists_of}
use Rattle.overlay.specs.Entries.{entry_at, entries_of}
use Rattle.overlay.proofs.Slots.{slot_in_lem, paste_here, paste_before, paste_behind}
use Rattle.overlay.proofs.Ruled.{Kept, unit-fits}
use Rattle.overlay.proofs.Order.{every-both}
use Rattle.overlay.proofs.Entries.{key_of}

pub keys_are : (kind : TableKind) (o : Overlay) → map key_of (entries_of kind o) ≡ keys_of o.rows o.order o.count
unfolding entries_of keys_of entry_at
keys_are kind o = map-map key_of (entry_at kind o) (take o.count o.order)

-- a place in use, whose mark is one of the kind
abbrev pub in_use_lem : TableKind → Overlay → ℕ → Bool
in_use_lem kind o q = ltb q o.count && row_ruled kind o.rows q

pub use_fits : (kind : TableKind) (o : Overlay) (q : ℕ) → in_use_lem kind o q ≡ true → (q < o.count) × (stored_length kind (mark_at o.rows q) ≤ slot_size kind)
unfolding row_ruled
use_fits kind o q e = (
  ltb-true q o.count (left-of (ltb q o.count) _ e),
  unit-fits kind (mark_at o.rows q) (right_of (ltb (get_or o.rows (4 * q) 0) 65536) _ (right_of (ltb q o.count) _ e)),
)

module _ (kind : TableKind) (room : ℕ) (o : Overlay) (k : Kept kind room o) where
  pub used : every (in_use_lem kind o) (take o.count o.order) ≡ true
  used = every-both (λ (q : ℕ). ltb q o.count) (row_ruled kind o.rows) (take o.count o.order) (rule-under o.rows o.order o.count k.in_order) k.each

  pub rising : ascends (map (key_at o.rows) (take o.count o.order)) ≡ true
  unfolding keys_of
  rising = rule-rises o.rows o.order o.count k.in_order

-- the rule of a row
module _ (kind : TableKind) (rows : List ℕ) (p t x id mark : ℕ) (fits : 4 * p + 4 ≤ length rows) where
  pub rule-here : t < 65536 → mark_ruled kind mark ≡ true → row_ruled kind (row_put_of rows p t x id mark) p ≡ true
  unfolding row_ruled
  rule-here h g = rw (table_here rows p t x id mark fits, mark-here rows p t x id mark fits) (both (lt-ltb t 65536 h) g)

  pub rule-other : (q : ℕ) → (q ≡ p → ⊥) → row_ruled kind (row_put_of rows p t x id mark) q ≡ row_ruled kind rows q
  unfolding row_ruled
  rule-other q ne =
      rw (word-other rows p t x id mark fits q (4 * q) ne (omega arith) (omega arith), word-other rows p t x id mark fits q (4 * q + 3) ne (omega arith) (omega arith))

module _ (kind : TableKind) (room : ℕ) (o : Overlay) (k : Kept kind room o) (p t x id mark : ℕ) (v : List ℕ) (c : ℕ) (hp : p < room) (cs : c ≤ slot_size kind) (cv : c ≤ length v)
    (order : List ℕ) (n : ℕ) where
  abbrev after : Overlay
  after = lists_of (row_put_of o.rows p t x id mark) order (paste o.bytes (slot_size kind * p) v c) n

  fits : 4 * p + 4 ≤ length o.rows
  fits = omega (arith, k.rows_long)

  pub slot-fits : slot_size kind * p + c ≤ length o.bytes
  slot-fits = omega (arith, k.bytes-long, slot_in_lem (slot_size kind) p room hp)

  pub entry_here : stored_length kind mark ≤ c → entry_at kind after p ≡ record { key = rank t x; id = id; mark = mark; bytes = take (stored_length kind mark) v }
  unfolding entry_at
  entry_here h =
      rw (
        table_here o.rows p t x id mark fits,
        index-here o.rows p t x id mark fits,
        id-here o.rows p t x id mark fits,
        mark-here o.rows p t x id mark fits,
        paste_here o.bytes (slot_size kind * p) v c slot-fits cv (stored_length kind mark) h,
      )

  pub entry_other : (q : ℕ) → stored_length kind (mark_at o.rows q) ≤ slot_size kind → (q ≡ p → ⊥) → entry_at kind after q ≡ entry_at kind o q
  unfolding entry_at
  entry_other q h ne =
      rw (word (4 * q) (omega arith) (omega arith), word (4 * q + 1) (omega arith) (omega arith), word (4 * q + 2) (omega arith) (omega arith), word (4 * q + 3) (omega arith) (omega arith))
      (ap (λ (l : List ℕ). record { key = key_at o.rows q; id = id_at o.rows q; mark = mark_at o.rows q; bytes = l }) (by (ltb q p) refl))
    where
      word : (w : ℕ) → 4 * q ≤ w → w < 4 * q + 4 → get_or (row_put_of o.rows p t x id mark) w 0 ≡ get_or o.rows w 0
      word w a b = word-other o.rows p t x id mark fits q w ne a b

      lt : p ≤ q → (q ≡ p → ⊥) → p < q
      lt a b = omega arith

      by : (b : Bool) → ltb q p ≡ b
          → take (stored_length kind (mark_at o.rows q)) (drop (slot_size kind * q) (paste o.bytes (slot_size kind * p) v c)) ≡ take (stored_length kind (mark_at o.rows q)) (drop (slot_size kind * q) o.bytes)
      by true e =
          paste_before o.bytes (slot_size kind * p) v c slot-fits cv (stored_length kind (mark_at o.rows q)) (slot_size kind * q) (omega (arith, h, slot_in_lem (slot_size kind) q p (ltb-true q p e)))
      by false e =
          ap (take (stored_length kind (mark_at o.rows q)))
          (paste_behind o.bytes (slot_size kind * p) v c slot-fits cv (slot_size kind * q) (omega (arith, slot_in_lem (slot_size kind) p q (lt (ltb-false q p e) ne))))
