-- The length of a list's record: a turn of the sum at a time, and that no record passes 50,526 bytes. Assumes nothing.
use mathlib.Core.Path.{◌≡◌, refl, ap}
use mathlib.Core.Bool.{true}
use mathlib.Core.List.{List, [], ◌∷◌}
use Prim.Native.Nat.{ℕ, zero, suc, ◌+◌, ◌*◌, ◌≤◌, ◌<◌, suc-le-suc}
use native.Mathlib.Nat.{suc-mul, mul-le-mul_right, le_trans, zero-lt-suc}
use native.Mathlib.Omega.{arith}
use native.Mathlib.Numerals.{add-one}
use lib.Count.{ones-le}
use lib.Dec.{leb}
use lib.ListN.{length, take, drop, get_or, drop_of_length-le}
use lib.Seq.{get_or-take, length-take-le, drop-cons}
use borrow.Author.Tests.{leb-true}
use Rattle.directory.specs.declared.table.TableKind.{TableKind}
use Rattle.directory.specs.declared.table.TableKind.TheVariants.{Index, Value, RefCount}
use Rattle.numbers.proofs.Laws.{right_of}
use Rattle.keys.specs.Keys.{mark_at}
use Rattle.overlay.specs.Rules.{Overlay, mark_ruled, overlay_kept, lists_of}
use Rattle.overlay.proofs.Ruled.{shows}
use Rattle.memory.specs.Parts.{span_of, of_kind}
use Rattle.memory.specs.declared.span.Holder.TheVariants as holder
use Rattle.memory.proofs.Spans.{all-shows}
use Rattle.change.specs.Change.{Change, change_ruled}
use Rattle.change.specs.Size.{entry_size, places_size, entries_size, record_size}
use Rattle.change.proofs.Rules.{ruled-shows}
use Rattle.change.proofs.Listed.{placed}

module _ (kind : TableKind) (rows ps : List ℕ) (j : ℕ) where
  pub sizes-next : j < length ps → places_size kind rows (drop j ps) ≡ entry_size kind (mark_at rows (get_or ps j 0)) + places_size kind rows (drop (j + 1) ps)
  unfolding places_size
  sizes-next h = rw (add-one j, drop-cons ps j 0 h)

  pub sizes-past : length ps ≤ j → places_size kind rows (drop j ps) ≡ 0
  unfolding places_size
  sizes-past h = ap (places_size kind rows) (drop_of_length-le ps h)

-- the bytes are not asked
pub size-keys : (kind : TableKind) (rows order bytes : List ℕ) (n : ℕ) → entries_size kind (lists_of rows order [] n) ≡ entries_size kind (lists_of rows order bytes n)
unfolding entries_size
size-keys kind rows order bytes n = refl

-- the largest entry of a kind
abbrev most : TableKind → ℕ
most Index = 531
most Value = 523
most RefCount = 1043

mark-most : (kind : TableKind) (mark : ℕ) → mark_ruled kind mark ≡ true → mark < 18446744073709551616 → entry_size kind mark ≤ most kind
mark-most Index mark e h = omega (arith, ones-le 64 mark h)
mark-most Value mark e h = omega (arith, leb-true mark 512 (right_of (leb 1 mark) _ e))
mark-most RefCount mark e h = omega (arith, ones-le 64 mark h)

places-most : (kind : TableKind) (rows : List ℕ) (m : ℕ) (ps : List ℕ) → ((j : ℕ) → j < length ps → entry_size kind (mark_at rows (get_or ps j 0)) ≤ m) → places_size kind rows ps ≤ length ps * m
unfolding places_size
places-most kind rows m [] h = omega arith
places-most kind rows m (p ∷ ps) h =
    let e : entry_size kind (mark_at rows p) ≤ m = h zero (zero-lt-suc (length ps)) in
    omega (arith, suc-mul (length ps) m, places-most kind rows m ps (λ j i. h (suc j) (suc-le-suc i)))

entries-most : (kind : TableKind) (room : ℕ) (o : Overlay) → overlay_kept kind room o ≡ true → ((i : ℕ) → get_or o.rows i 0 < 18446744073709551616) → entries_size kind o ≤ room * most kind
unfolding entries_size
entries-most kind room o ok words =
    let k = shows kind room o ok in
    let few : o.count ≤ length o.order = omega (arith, k.fits, k.order-long) in
    let size = length-take-le o.count o.order few in
    le_trans (places-most kind o.rows (most kind) (take o.count o.order) (λ j h. each j (rw size at h))) (rw size (mul-le-mul_right (most kind) k.fits))
  where
    each : (j : ℕ) → j < o.count → entry_size kind (mark_at o.rows (get_or (take o.count o.order) j 0)) ≤ most kind
    each j h =
        rw (get_or-take o.count o.order j 0 h)
        (mark-most kind (mark_at o.rows (get_or o.order j 0)) (placed kind room o ok j h).mark (words (4 * get_or o.order j 0 + 3)))

-- "the largest record is 50,526 bytes"; `words` is what the type says of the words
pub record_size_max : (l : Change) → change_ruled l ≡ true → ((kind : TableKind) (i : ℕ) → get_or (of_kind kind l.parts).rows i 0 < 18446744073709551616) → record_size l ≤ 50526
unfolding record_size
record_size_max l ok words = omega (arith, part Index, part Value, part RefCount, ruled-shows l ok)
  where
    part : (kind : TableKind) → entries_size kind (of_kind kind l.parts) ≤ (span_of holder.List kind).room * most kind
    part kind = entries-most kind (span_of holder.List kind).room (of_kind kind l.parts) ((all-shows holder.List l.parts (ruled-shows l ok).parts).each kind) (words kind)
