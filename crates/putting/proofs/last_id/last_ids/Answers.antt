-- `last_ids` meets its contract. The invariant: the values from the i-th of the order on are left to set theirs. Assumes nothing.
use mathlib.Core.Path.{◌≡◌, refl, sym, ap, ◌∙◌}
use mathlib.Core.List.{List}
use Prim.Native.Nat.{ℕ, ◌+◌, ◌*◌, ◌≤◌, ◌<◌}
use native.Mathlib.Omega.{arith}
use lib.ListN.{length, get_or}
use Rattle.directory.specs.declared.table.TableKind.TheVariants.{Value}
use Rattle.keys.proofs.Places.{in_use}
use Rattle.overlay.specs.Rules.{rows_of, order_of, keys_ruled}
use mathlib.Core.Bool.{true}
use Rattle.overlay.proofs.Parts.{order-long}
use Rattle.overlay.proofs.Ruled.{keys-room, keys-order}
use Rattle.change.proofs.Fitting.{table_at}
use Rattle.putting.proofs.LastIds.{ids-done, ids_next}
use Rattle.putting.proofs.Places.{order-word, row_word}
use Rattle.putting.proofs.last_id.last_ids.Goals as goal

-- the i-th value of a kind's words, as the code reads it: its place, and its table's number
module _ (room n : ℕ) (words : List ℕ) (whole : length words ≡ 5 * room) (kept : keys_ruled Value room (rows_of room words) (order_of room words) n ≡ true) where
  few : n ≤ room
  few = keys-room Value room _ _ n kept

  long : n ≤ length (order_of room words)
  long = omega (arith, few, order-long room words whole)

  module _ (i : ℕ) (h : i < n) where
    abbrev p : ℕ
    p = get_or words (4 * room + i) 0

    place : p < room
    place = rw (order-word room i words) (omega (arith, few, in_use _ _ n i (keys-order Value room _ _ n kept) long h))

    table_is : get_or words (4 * p) 0 ≡ get_or (rows_of room words) (4 * get_or (order_of room words) i 0) 0
    table_is = sym (row_word room (4 * p) words (omega (arith, place))) ∙ ap (λ (k : ℕ). get_or (rows_of room words) (4 * k) 0) (order-word room i words)

    small : get_or words (4 * p) 0 < 65536
    small = rw table_is (table_at Value room _ _ n i long h kept)

pub loop-i-init : goal.loop-i-init
loop-i-init c = refl

pub overflow_add-p : goal.overflow_add-p
overflow_add-p c = omega (arith, few c.args.room c.args.n c.args.listed.now c.requires.0 c.requires.2, c.loop-i-test.true)

pub offset_bounds-listed-cut : goal.offset_bounds-listed-cut
offset_bounds-listed-cut c = omega (arith, few c.args.room c.args.n c.args.listed.now c.requires.0 c.requires.2, c.loop-i-test.true)

pub bounds-listed-cut : goal.bounds-listed-cut
bounds-listed-cut c = omega (arith, few c.args.room c.args.n c.args.listed.now c.requires.0 c.requires.2, c.loop-i-test.true, c.requires.0)

pub overflow_mul-table : goal.overflow_mul-table
overflow_mul-table c = omega (arith, place c.args.room c.args.n c.args.listed.now c.requires.0 c.requires.2 c.loop-i.i c.loop-i-test.true)

pub offset_bounds-listed-p : goal.offset_bounds-listed-p
offset_bounds-listed-p c = omega (arith, place c.args.room c.args.n c.args.listed.now c.requires.0 c.requires.2 c.loop-i.i c.loop-i-test.true)

pub bounds-listed-p : goal.bounds-listed-p
bounds-listed-p c = omega (arith, place c.args.room c.args.n c.args.listed.now c.requires.0 c.requires.2 c.loop-i.i c.loop-i-test.true, c.requires.0)

pub overflow_cast-table : goal.overflow_cast-table
overflow_cast-table c = omega (arith, small c.args.room c.args.n c.args.listed.now c.requires.0 c.requires.2 c.loop-i.i c.loop-i-test.true)

pub loop-i-preserved : goal.loop-i-preserved
loop-i-preserved c =
    let words : List ℕ = c.args.listed.now in
    let l = long c.args.room c.args.n words c.requires.0 c.requires.2 in
    let h = c.loop-i-test.true in
    ids_next _ _ _ _ _ l c.loop-i.i _ _ c.loop-i.invariant h _ (table_is c.args.room c.args.n words c.requires.0 c.requires.2 c.loop-i.i h) _ c.column_of.ensures _ c.with_last_id-o.ensures

pub returns : goal.returns
returns c = ids-done _ _ _ _ _ (long c.args.room c.args.n c.args.listed.now c.requires.0 c.requires.2) c.loop-i.i _ _ c.loop-i.invariant c.loop-i-test.false
