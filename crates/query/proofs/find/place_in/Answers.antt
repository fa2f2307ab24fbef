-- `place_in` meets its contract. Assumes nothing.
use mathlib.Core.Path.{◌≡◌, sym, ◌∙◌}
use mathlib.Core.Bool.{true}
use mathlib.Core.List.{List, []}
use Prim.Native.Nat.{ℕ, ◌*◌}
use native.Mathlib.Omega.{arith}
use lib.ListN.{length}
use Rattle.directory.specs.declared.table.TableKind.{TableKind}
use Rattle.keys.specs.Keys.{rank}
use Rattle.overlay.specs.Rules.{rows_of, order_of, overlay_of, overlay_kept}
use Rattle.overlay.specs.Inner.{seat_in}
use Rattle.overlay.specs.declared.seat.Seat.{Seat}
use Rattle.overlay.specs.declared.seat.Seat.TheVariants.{Over}
use Rattle.overlay.proofs.Ruled.{shows}
use Rattle.overlay.proofs.Parts.{words_long}
use Rattle.overlay.proofs.Seats.{seat_keys}
use Rattle.query.proofs.Found.{FoundAt, found, part-fits}
use Rattle.query.proofs.Places.{place-over, place_none}
use Rattle.query.proofs.find.place_in.Goals as goal

module _ (kind : TableKind) (room : ℕ) (words bytes : List ℕ) (n : ℕ) (ok : overlay_kept kind room (overlay_of room words bytes n) ≡ true) where
  long : length words ≡ 5 * room
  long = let k = shows kind room (overlay_of room words bytes n) ok in words_long room words k.rows_long k.order-long

  -- the seat is the same whatever the bytes are
  seat : (key : ℕ) (s : Seat) → s ≡ seat_in (overlay_of room words [] n) key → seat_in (overlay_of room words bytes n) key ≡ s
  seat key s e = sym (e ∙ seat_keys (rows_of room words) (order_of room words) bytes n key)

  there : (key p : ℕ) → Over p ≡ seat_in (overlay_of room words [] n) key → FoundAt kind room (overlay_of room words bytes n) ok key p
  there key p e = found kind room (overlay_of room words bytes n) ok key p (seat key (Over p) e)

pub seat_of-requires : goal.seat_of-requires
seat_of-requires c =
    let a = c.args in
    let k = shows a.kind a.room (overlay_of a.room a.words.now a.bytes.now a.n) c.requires in (long a.kind a.room a.words.now a.bytes.now a.n c.requires, k.fits, k.in_order)

pub overflow_mul-result : goal.overflow_mul-result
overflow_mul-result c =
    let a = c.args in
    let f = there a.kind a.room a.words.now a.bytes.now a.n c.requires _ c.in-Over.p c.in-Over.ensures in
    rw c.slot_size.ensures.0 (omega arith)

pub overflow_mul-p : goal.overflow_mul-p
overflow_mul-p c =
    let a = c.args in
    let f = there a.kind a.room a.words.now a.bytes.now a.n c.requires _ c.in-Over.p c.in-Over.ensures in
    omega (arith, long a.kind a.room a.words.now a.bytes.now a.n c.requires)

pub overflow_add-p : goal.overflow_add-p
overflow_add-p c =
    let a = c.args in
    let f = there a.kind a.room a.words.now a.bytes.now a.n c.requires _ c.in-Over.p c.in-Over.ensures in
    omega (arith, long a.kind a.room a.words.now a.bytes.now a.n c.requires)

pub offset_bounds-words-p : goal.offset_bounds-words-p
offset_bounds-words-p c =
    let a = c.args in
    let f = there a.kind a.room a.words.now a.bytes.now a.n c.requires _ c.in-Over.p c.in-Over.ensures in
    omega (arith, long a.kind a.room a.words.now a.bytes.now a.n c.requires)

pub bounds-words-p : goal.bounds-words-p
bounds-words-p c =
    let a = c.args in
    let f = there a.kind a.room a.words.now a.bytes.now a.n c.requires _ c.in-Over.p c.in-Over.ensures in
    omega (arith, long a.kind a.room a.words.now a.bytes.now a.n c.requires)

pub returns-in-Over-clause-place : goal.returns-in-Over-clause-place
returns-in-Over-clause-place c =
    let a = c.args in
    let key = rank a.table a.index in
    let f = there a.kind a.room a.words.now a.bytes.now a.n c.requires key c.in-Over.p c.in-Over.ensures in
    place-over a.kind a.room a.words.now a.bytes.now a.n key c.in-Over.p c.slot_size.result c.stored_length.result f.at.low
    (seat a.kind a.room a.words.now a.bytes.now a.n c.requires key _ c.in-Over.ensures) c.slot_size.ensures.0 c.stored_length.ensures

pub returns-in-Over-clause-within : goal.returns-in-Over-clause-within
returns-in-Over-clause-within c =
    let a = c.args in
    let key = rank a.table a.index in
    part-fits a.kind a.room a.words.now a.bytes.now a.n c.requires key c.in-Over.p (seat a.kind a.room a.words.now a.bytes.now a.n c.requires key _ c.in-Over.ensures) c.slot_size.result c.stored_length.result c.slot_size.ensures.0 c.stored_length.ensures

pub returns-in-Next-clause-place : goal.returns-in-Next-clause-place
returns-in-Next-clause-place c =
    let a = c.args in
    let key = rank a.table a.index in
    place_none a.kind (overlay_of a.room a.words.now a.bytes.now a.n) key c.in-Next.field-0 (seat a.kind a.room a.words.now a.bytes.now a.n c.requires key _ c.in-Next.ensures)
