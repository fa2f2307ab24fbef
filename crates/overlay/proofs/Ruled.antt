-- What an overlay shows that keeps its rules. Assumes nothing.
use mathlib.Core.Path.{◌≡◌}
use mathlib.Core.Bool.{true}
use mathlib.Core.List.{List}
use Prim.Native.Nat.{ℕ, ◌*◌, ◌≤◌}
use native.Mathlib.Omega.{arith}
use lib.Dec.{leb, eqb}
use lib.ListN.{take, length}
use borrow.Author.Tests.{leb-true, le-leb, eqb-true, eq-eqb}
use Rattle.directory.specs.declared.table.TableKind.{TableKind}
use Rattle.directory.specs.declared.table.TableKind.TheVariants.{Index, Value, RefCount}
use Rattle.numbers.proofs.Laws.{both, left-of, right_of}
use Rattle.keys.specs.Keys.{every, ruled}
use Rattle.overlay.specs.Rules.{stored_length, Overlay, slot_size, mark_ruled, row_ruled, keys_ruled, overlay_kept}

-- what a ruled mark stands for fits a slot
pub unit-fits : (kind : TableKind) (mark : ℕ) → mark_ruled kind mark ≡ true → stored_length kind mark ≤ slot_size kind
unit-fits Index mark e = omega arith
unit-fits Value mark e = leb-true mark 512 (right_of (leb 1 mark) _ e)
unit-fits RefCount mark e = omega arith

module _ (kind : TableKind) (room : ℕ) (rows order : List ℕ) (n : ℕ) where
  pub keys-room : keys_ruled kind room rows order n ≡ true → n ≤ room
  unfolding keys_ruled
  keys-room e = leb-true n room (left-of (leb n room) _ e)

  pub keys-order : keys_ruled kind room rows order n ≡ true → ruled rows order n ≡ true
  unfolding keys_ruled
  keys-order e = left-of (ruled rows order n) _ (right_of (leb n room) _ e)

  pub keys-each : keys_ruled kind room rows order n ≡ true → every (row_ruled kind rows) (take n order) ≡ true
  unfolding keys_ruled
  keys-each e = right_of (ruled rows order n) _ (right_of (leb n room) _ e)

pub record Kept (kind : TableKind) (room : ℕ) (o : Overlay) : Type 0 where
  pub rows_long : length o.rows ≡ 4 * room
  pub order-long : length o.order ≡ room
  pub bytes-long : length o.bytes ≡ slot_size kind * room
  pub fits : o.count ≤ room
  pub in_order : ruled o.rows o.order o.count ≡ true
  pub each : every (row_ruled kind o.rows) (take o.count o.order) ≡ true

module _ (kind : TableKind) (room : ℕ) (o : Overlay) where
  pub shows : overlay_kept kind room o ≡ true → Kept kind room o
  unfolding overlay_kept
  shows e =
      let a = right_of (eqb (length o.rows) (4 * room)) _ e in
      let b = right_of (eqb (length o.order) room) _ a in
      let k = right_of (eqb (length o.bytes) (slot_size kind * room)) _ b in
      record {
        rows_long = eqb-true (length o.rows) (4 * room) (left-of (eqb (length o.rows) (4 * room)) _ e);
        order-long = eqb-true (length o.order) room (left-of (eqb (length o.order) room) _ a);
        bytes-long = eqb-true (length o.bytes) (slot_size kind * room) (left-of (eqb (length o.bytes) (slot_size kind * room)) _ b);
        fits = keys-room kind room o.rows o.order o.count k;
        in_order = keys-order kind room o.rows o.order o.count k;
        each = keys-each kind room o.rows o.order o.count k;
      }

  pub makes : Kept kind room o → overlay_kept kind room o ≡ true
  unfolding overlay_kept keys_ruled
  makes k =
      both (eq-eqb (length o.rows) (4 * room) k.rows_long)
      (both (eq-eqb (length o.order) room k.order-long)
      (both (eq-eqb (length o.bytes) (slot_size kind * room) k.bytes-long)
      (both (le-leb o.count room k.fits) (both k.in_order k.each))))
