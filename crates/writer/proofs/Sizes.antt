-- The length of a record: what is computed beforehand is what is written. Assumes nothing.
use mathlib.Core.Path.{◌≡◌, refl, sym, ap, ap₂, ◌∙◌}
use mathlib.Core.Bool.{true}
use mathlib.Core.List.{List, [], ◌∷◌}
use Prim.Native.Nat.{ℕ, zero, suc, ◌+◌, ◌*◌, ◌^◌, ◌≤◌, ◌<◌, ◌/◌, ◌%◌, suc-le-suc}
use native.Mathlib.Nat.{zero-mul, one-mul, suc-mul, add-mul, mul_comm, zero-lt-suc}
use native.Mathlib.Numerals.{add-one}
use native.Mathlib.Omega.{arith}
use lib.Arith.{lt-one}
use lib.Count.{ones, ones_in, ones_step}
use lib.Dec.{eqb}
use lib.ListN.{length, take, drop, get_or, length-append, length-drop}
use lib.Pow.{shr_lt}
use lib.Seq.{get_or-take, length-take-le}
use Rattle.std.specs.Prelude.{if◌then◌else◌}
use Rattle.directory.specs.Table.{unit_of}
use Rattle.directory.specs.declared.table.TableKind.{TableKind}
use Rattle.directory.specs.declared.table.TableKind.TheVariants.{Index, Value, RefCount}
use Rattle.keys.specs.Keys.{mark_at}
use Rattle.overlay.specs.Rules.{Overlay, slot_size, overlay_kept}
use Rattle.memory.specs.Parts.{of_kind}
use Rattle.memory.specs.declared.span.Holder.TheVariants as holder
use Rattle.memory.proofs.Spans.{lies}
use Rattle.change.specs.Change.{Change, drop_room, change_ruled}
use Rattle.change.specs.Size.{entry_size, places_size, entries_size, record_size}
use Rattle.change.proofs.Rules.{ruled-shows}
use Rattle.change.specs.declared.drops.Drops.{Drops}
use Rattle.output.specs.Put.{le, joined}
use Rattle.output.proofs.Laws.{length-le}
use Rattle.writer.specs.Bytes.{set_slots, masked_bytes, payload_of, entry_bytes_at, entries, drop_bytes, drops_bytes, body, record_of}
use Rattle.writer.specs.Inner.{Writable}
use Rattle.writer.specs.Typed.{Typed}
use Rattle.writer.proofs.Masks.{length_masked, length-entry}
use Rattle.writer.proofs.Rules.{within, key-writable, lies-there, kind-kept}

-- the slots that a mask names: a number of k digits has them among its k lowest
pub ones_in_lem : (k m : ℕ) → m < 2 ^ k → ones_in k m ≡ ones m
unfolding ones_in ones
ones_in_lem zero m h = rw (lt-one h)
ones_in_lem (suc k) m h = ap (λ (x : ℕ). m % 2 + x) (ones_in_lem k (m / 2) (shr_lt k 1 (rw add-one h))) ∙ sym (ones_step m)

bit : (b w : ℕ) (xs : List ℕ) → b < 2 → length xs ≡ w → length (if eqb b 1 then xs else []) ≡ b * w
bit zero w xs h e = sym (zero-mul w)
bit (suc zero) w xs h e = e ∙ sym (one-mul w)
bit (suc (suc b)) w xs h e = absurd (omega arith)

pub length-slots : (n w mask : ℕ) (chunk : List ℕ) → n * w ≤ length chunk → length (set_slots n w mask chunk) ≡ ones_in n mask * w
unfolding set_slots ones_in
length-slots zero w mask chunk h = sym (zero-mul w)
length-slots (suc n) w mask chunk h =
    let room = rw suc-mul at h in
    let left : n * w ≤ length (drop w chunk) = rw length-drop (omega arith) in
    length-append (if eqb (mask % 2) 1 then take w chunk else []) (set_slots n w (mask / 2) (drop w chunk))
    ∙ ap₂ (λ (x y : ℕ). x + y) (bit (mask % 2) w (take w chunk) (omega arith) (length-take-le w chunk (omega arith))) (length-slots n w (mask / 2) (drop w chunk) left)
    ∙ sym (add-mul (mask % 2) (ones_in n (mask / 2)) w)

masked_size : (w mask : ℕ) (chunk : List ℕ) → mask < 18446744073709551616 → 64 * w ≤ length chunk → length (masked_bytes w mask chunk) ≡ 8 + w * ones mask
masked_size w mask chunk fits h =
    length_masked w mask chunk ∙ ap (λ (x : ℕ). 8 + x) (length-slots 64 w mask chunk h ∙ mul_comm (ones_in 64 mask) w ∙ ap (λ (x : ℕ). w * x) (ones_in_lem 64 mask fits))

-- an entry, by its kind
payload-size : (kind : TableKind) (mark : ℕ) (bytes : List ℕ) → mark < 18446744073709551616 → unit_of kind mark ≤ length bytes → 11 + length (payload_of kind mark bytes) ≡ entry_size kind mark
payload-size Index mark bytes fits h = omega (arith, masked_size 8 mark bytes fits h)
payload-size Value mark bytes fits h = omega (arith, length-take-le mark bytes h)
payload-size RefCount mark bytes fits h = omega (arith, masked_size 16 mark bytes fits h)

module _ (kind : TableKind) (o : Overlay) (words : (i : ℕ) → get_or o.rows i 0 < 18446744073709551616) where
  entry-size : (p : ℕ) → Writable kind o.rows o.bytes p → length (entry_bytes_at kind o p) ≡ entry_size kind (mark_at o.rows p)
  unfolding entry_bytes_at
  entry-size p w =
      length-entry kind (get_or o.rows (4 * p) 0) (get_or o.rows (4 * p + 1) 0) (mark_at o.rows p) (drop (slot_size kind * p) o.bytes)
      ∙ payload-size kind (mark_at o.rows p) (drop (slot_size kind * p) o.bytes) (words (4 * p + 3)) (lies-there kind o.rows o.bytes p w)

  joined-size : (ps : List ℕ) → ((j : ℕ) → j < length ps → Writable kind o.rows o.bytes (get_or ps j 0)) → length (joined (entry_bytes_at kind o) ps) ≡ places_size kind o.rows ps
  unfolding joined places_size
  joined-size [] h = refl
  joined-size (p ∷ ps) h =
      length-append (entry_bytes_at kind o p) (joined (entry_bytes_at kind o) ps)
      ∙ ap₂ (λ (x y : ℕ). x + y) (entry-size p (h zero (zero-lt-suc (length ps)))) (joined-size ps (λ j i. h (suc j) (suc-le-suc i)))

  pub entries-length : (room : ℕ) → room ≤ 256 → overlay_kept kind room o ≡ true → length (entries kind o) ≡ entries_size kind o
  unfolding entries entries_size
  entries-length room small ok =
      let fits = within kind room o small ok in
      joined-size (take o.count o.order)
      (λ j h. let i : j < o.count = rw (length-take-le o.count o.order fits) at h in rw (get_or-take o.count o.order j 0 i) (key-writable kind room o small ok j i))

drops-size : (tag : ℕ) (ts : List ℕ) → length (joined (drop_bytes tag) ts) ≡ 3 * length ts
unfolding joined drop_bytes le
drops-size tag [] = refl
drops-size tag (t ∷ ts) = omega (arith, drops-size tag ts)

pub drops-length : (tag : ℕ) (s : Drops) → s.count ≤ drop_room → length s.tables ≡ drop_room → length (drops_bytes tag s) ≡ 3 * s.count
unfolding drops_bytes
drops-length tag s h e = omega (arith, drops-size tag (take s.count s.tables), length-take-le s.count s.tables (omega arith))

-- a record is as long as its list says
module _ (l : Change) (ok : change_ruled l ≡ true) (t : Typed l) where
  of-kind : (kind : TableKind) → length (entries kind (of_kind kind l.parts)) ≡ entries_size kind (of_kind kind l.parts)
  of-kind kind = entries-length kind (of_kind kind l.parts) (t.rows kind) _ (lies holder.List kind).room_most (kind-kept l ok kind)

  pub length_record : length (record_of l) ≡ record_size l
  unfolding record_of body record_size
  length_record =
      simp (length-append, length-le)
      (omega (arith, of-kind Index, of-kind Value, of-kind RefCount, drops-length 5 l.drops (ruled-shows l ok).drops t.drops_long, drops-length 7 l.count_drops (ruled-shows l ok).count-drops t.count_drops_long))
