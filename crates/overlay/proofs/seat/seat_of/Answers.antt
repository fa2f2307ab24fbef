-- `seat_of` meets its contract. Assumes nothing.
use Rattle.std.proofs.Common.{◌∙◌, [], sym, arith}
use Rattle.keys.specs.Keys.{rank}
use Rattle.overlay.specs.Rules.{overlay_of}
use Rattle.overlay.proofs.Parts.{order-long}
use Rattle.overlay.proofs.Plan.{over-lent, next-lent}
use Rattle.overlay.proofs.seat.seat_of.Goals as goal

pub returns-then-stands : goal.returns-then-stands
returns-then-stands c =
    let a = c.args in
    over-lent c.keys_in-keys.result (overlay_of a.room a.words.now [] a.n) (omega (arith, order-long a.room a.words.now c.requires.0)) c.keys_in-keys.ensures.rows c.keys_in-keys.ensures.order (rank a.t a.index) c.place-j.result c.place-j.ensures (sym c.stands.ensures.value ∙ c.if-stands.true)

pub returns-else-stands : goal.returns-else-stands
returns-else-stands c =
    let a = c.args in
    next-lent c.keys_in-keys.result (overlay_of a.room a.words.now [] a.n) (omega (arith, order-long a.room a.words.now c.requires.0)) c.keys_in-keys.ensures.rows c.keys_in-keys.ensures.order (rank a.t a.index) c.place-j.result c.place-j.ensures (sym c.stands.ensures.value ∙ c.if-stands.false)
