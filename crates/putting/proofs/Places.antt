-- A list's part of one kind: its words as the code reads them, and the bytes of a place in use. Assumes nothing.
use mathlib.Core.Path.{◌≡◌, sym, ap, ◌∙◌, subst}
use mathlib.Core.Bool.{true}
use mathlib.Core.List.{List}
use Prim.Native.Nat.{ℕ, ◌+◌, ◌-◌, ◌*◌, ◌≤◌, ◌<◌}
use native.Mathlib.Omega.{arith}
use lib.ListN.{length, get_or, take, drop}
use lib.Seq.{get_or-take, get_or-drop}
use borrow.Author.Tests.{le-leb}
use Rattle.directory.specs.declared.table.TableKind.{TableKind}
use Rattle.numbers.proofs.Laws.{both}
use Rattle.keys.specs.Keys.{rank, key_at, mark_at}
use Rattle.overlay.specs.Rules.{Overlay, slot_size, stored_length, mark_ruled, keys_ruled, overlay_kept, rows_of, order_of, overlay_of}
use Rattle.overlay.specs.Overlay.{put_over}
use Rattle.overlay.proofs.Ruled.{shows, unit-fits}
use Rattle.overlay.proofs.Slots.{slot-length}
use Rattle.memory.specs.Parts.{Parts, of_kind, with_kind, parts_kept, Takes, put_into}
use Rattle.memory.specs.declared.span.Holder.{Holder}
use Rattle.putting.specs.Listed.{stored_at, put_place}
use Rattle.putting.specs.Inner.{row_at, place_put, RowGoes}
use Rattle.change.proofs.Listed.{Placed}
use Rattle.putting.specs.declared.place.ListedRow.{ListedRow}

pub order-word : (room i : ℕ) (words : List ℕ) → get_or words (4 * room + i) 0 ≡ get_or (order_of room words) i 0
order-word room i words = sym (get_or-drop (4 * room) words i 0)

pub row_word : (room k : ℕ) (words : List ℕ) → k < 4 * room → get_or (rows_of room words) k 0 ≡ get_or words k 0
row_word room k words h = get_or-take (4 * room) words k 0 h

module _ (kind : TableKind) (room : ℕ) (list : Overlay) (ok : overlay_kept kind room list ≡ true) where
  pub order-holds : list.count ≤ length list.order
  order-holds = let k = shows kind room list ok in omega (arith, k.fits, k.order-long)

  pub keys-ruled : keys_ruled kind room list.rows list.order list.count ≡ true
  unfolding keys_ruled
  keys-ruled = let k = shows kind room list ok in both (le-leb list.count room k.fits) (both k.in_order k.each)

-- its bytes: as many as its mark says, and they fit a slot
module _ (kind : TableKind) (room : ℕ) (list : Overlay) (p : ℕ) (ready : Placed kind room list p) where
  pub bytes-long : length (stored_at kind list p) ≡ stored_length kind (mark_at list.rows p)
  bytes-long = slot-length (stored_length kind (mark_at list.rows p)) (slot_size kind * p) list.bytes ready.stored

  pub bytes_fit : length (stored_at kind list p) ≤ slot_size kind
  bytes_fit = omega (arith, bytes-long, ready.short)

over-same : (kind : TableKind) (o : Overlay) (id : ℕ) {t t' x x' m m' : ℕ} (p : ℕ) (l : List ℕ) → t ≡ t' → x ≡ x' → m ≡ m'
    → put_over kind o t x id m (take (stored_length kind m) (drop (slot_size kind * p) l)) ≡ put_over kind o t' x' id m' (take (stored_length kind m') (drop (slot_size kind * p) l))
over-same kind o id p l a b c = rw (a, b, c)

-- a place in use as the code reads it
module _ (kind : TableKind) (room : ℕ) (words bytes : List ℕ) (n p : ℕ) (ready : Placed kind room (overlay_of room words bytes n) p) where
  table-word : get_or (rows_of room words) (4 * p) 0 ≡ get_or words (4 * p) 0
  table-word = row_word room (4 * p) words (omega (arith, ready.low))

  index_word : get_or (rows_of room words) (4 * p + 1) 0 ≡ get_or words (4 * p + 1) 0
  index_word = row_word room (4 * p + 1) words (omega (arith, ready.low))

  mark-word : mark_at (rows_of room words) p ≡ get_or words (4 * p + 3) 0
  mark-word = row_word room (4 * p + 3) words (omega (arith, ready.low))

  key-word : key_at (rows_of room words) p ≡ rank (get_or words (4 * p) 0) (get_or words (4 * p + 1) 0)
  key-word = rw (table-word, index_word)

  pub table-small : get_or words (4 * p) 0 < 65536
  table-small = subst (λ (t : ℕ). t < 65536) table-word ready.small

  pub row_goes : (h : Holder) (shared : Parts) → parts_kept h shared ≡ true → Takes h kind shared (key_at (rows_of room words) p) → RowGoes h kind (row_at words p) bytes p shared
  row_goes h shared ok free = record {
    kept = ok;
    mark = subst (λ (m : ℕ). mark_ruled kind m ≡ true) mark-word ready.mark;
    lies = subst (λ (m : ℕ). slot_size kind * p + stored_length kind m ≤ length bytes) mark-word ready.stored;
    takes = subst (λ (k : ℕ). Takes h kind shared k) key-word free;
  }

  pub row_put : (id : ℕ) (shared : Parts) → place_put kind id (row_at words p) bytes p shared ≡ with_kind kind shared (put_place kind id (overlay_of room words bytes n) p (of_kind kind shared))
  unfolding place_put put_into put_place
  row_put id shared = ap (with_kind kind shared) (over-same kind (of_kind kind shared) id p bytes (sym table-word) (sym index_word) (sym mark-word))

-- the bytes of an entry, which the code lends
module _ (h : Holder) (kind : TableKind) (row : ListedRow) (stored : List ℕ) (p : ℕ) (shared : Parts) (g : RowGoes h kind row stored p shared) (s n : ℕ) (size : s ≡ slot_size kind) (many : n ≡ stored_length kind row.mark) where
  from_is : s * p ≡ slot_size kind * p
  from_is = ap (λ (k : ℕ). k * p) size

  pub part_lies : s * p + n ≤ length stored
  part_lies = omega (arith, from_is, many, g.lies)

  pub part-is : take (s * p + n - s * p) (drop (s * p) stored) ≡ take (stored_length kind row.mark) (drop (slot_size kind * p) stored)
  part-is =
      let z : s * p + n - s * p ≡ n = omega arith in
      ap (λ (k : ℕ). take k (drop (s * p) stored)) (z ∙ many) ∙ ap (λ (k : ℕ). take (stored_length kind row.mark) (drop k stored)) from_is

  pub part-fits : length (take (s * p + n - s * p) (drop (s * p) stored)) ≤ slot_size kind
  part-fits =
      omega (arith, ap length part-is, slot-length (stored_length kind row.mark) (slot_size kind * p) stored g.lies, unit-fits kind row.mark g.mark)

  pub part-put : (id : ℕ) (q : Parts) (src : List ℕ) → q ≡ put_into kind shared row.table row.index id row.mark src → src ≡ take (s * p + n - s * p) (drop (s * p) stored)
      → q ≡ place_put kind id row stored p shared
  unfolding place_put
  part-put id q src f e = f ∙ ap (put_into kind shared row.table row.index id row.mark) (e ∙ part-is)
