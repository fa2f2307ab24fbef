-- `room_for` meets its contract: the mark of the row where the key sits, or room for the next. Assumes nothing.
use mathlib.Core.Path.{◌≡◌, sym, ap, ◌∙◌}
use mathlib.Core.Bool.{true}
use mathlib.Core.List.{List, []}
use Prim.Native.Nat.{ℕ, ◌+◌, ◌*◌, ◌≤◌}
use native.Mathlib.Omega.{arith}
use lib.ListN.{length, get_or}
use lib.Seq.{get_or-take}
use Rattle.std.specs.Prelude.{Ok}
use Rattle.keys.specs.Keys.{rank, ruled}
use Rattle.overlay.specs.Rules.{Overlay, rows_of, order_of, overlay_of}
use Rattle.overlay.specs.Inner.{seat_in}
use Rattle.overlay.specs.declared.seat.Seat.TheVariants.{Over}
use Rattle.overlay.proofs.Parts.{order-long}
use Rattle.overlay.proofs.Seats.{sits}
use Rattle.change.specs.Insert.{room_for}
use Rattle.change.proofs.Accepted.{room-over, room-full, room_next}
use Rattle.change.proofs.plans.room_for.Goals as goal

module _ (room : ℕ) (words : List ℕ) (n : ℕ) (keys : (length words ≡ 5 * room) × (n ≤ room) × (ruled (rows_of room words) (order_of room words) n ≡ true)) where
  abbrev o : Overlay
  o = overlay_of room words [] n

  few : n ≤ length (order_of room words)
  few = omega (arith, order-long room words keys.0, keys.1)

  module _ (key p : ℕ) (e : Over p ≡ seat_in o key) where
    used : 4 * p + 4 ≤ length words
    used = omega (arith, (sits o few keys.2 key p (sym e)).used, keys.0, keys.1)

    over : Ok (get_or words (4 * p + 3) 0) ≡ room_for room o key
    over =
        room-over room o few keys.2 key p _ (sym e)
        (sym (get_or-take (4 * room) words (4 * p + 3) 0 (omega (arith, (sits o few keys.2 key p (sym e)).used, keys.1))))

pub overflow_mul-result : goal.overflow_mul-result
overflow_mul-result c = omega (arith, used c.args.room c.args.words.now c.args.n c.requires _ c.in-Over.p c.in-Over.ensures)

pub overflow_add-result : goal.overflow_add-result
overflow_add-result c = omega (arith, used c.args.room c.args.words.now c.args.n c.requires _ c.in-Over.p c.in-Over.ensures)

pub offset_bounds-words-p : goal.offset_bounds-words-p
offset_bounds-words-p c = omega (arith, used c.args.room c.args.words.now c.args.n c.requires _ c.in-Over.p c.in-Over.ensures)

pub bounds-words-p : goal.bounds-words-p
bounds-words-p c = omega (arith, used c.args.room c.args.words.now c.args.n c.requires _ c.in-Over.p c.in-Over.ensures)

pub returns-in-Over : goal.returns-in-Over
returns-in-Over c =
    let a = c.args in
    over a.room a.words.now a.n c.requires (rank c.from.result a.index) c.in-Over.p c.in-Over.ensures
    ∙ ap (λ (t : ℕ). room_for a.room (overlay_of a.room a.words.now [] a.n) (rank t a.index)) c.from.ensures

pub returns-then-room-n : goal.returns-then-room-n
returns-then-room-n c =
    let a = c.args in
    room-full a.room (overlay_of a.room a.words.now [] a.n) (few a.room a.words.now a.n c.requires) c.requires.2 (rank c.from.result a.index) c.in-Next.field-0 (sym c.in-Next.ensures) c.if-room-n.true
    ∙ ap (λ (t : ℕ). room_for a.room (overlay_of a.room a.words.now [] a.n) (rank t a.index)) c.from.ensures

pub returns-else-room-n : goal.returns-else-room-n
returns-else-room-n c =
    let a = c.args in
    room_next a.room (overlay_of a.room a.words.now [] a.n) (few a.room a.words.now a.n c.requires) c.requires.2 (rank c.from.result a.index) c.in-Next.field-0 (sym c.in-Next.ensures) c.if-room-n.false
    ∙ ap (λ (t : ℕ). room_for a.room (overlay_of a.room a.words.now [] a.n) (rank t a.index)) c.from.ensures
