-- `leaving_of` meets its contract: the key stands there, with that id or with another, or it doesn't. Assumes nothing.
use Rattle.std.proofs.Common.{◌∙◌, sym, arith}
use Rattle.keys.specs.Keys.{rank_of}
use Rattle.overlay.proofs.Plan.{own-lent, newer_lent, none-lent}
use Rattle.overlay.proofs.seat.leaving_of.Goals as goal

pub returns-then-not-stands : goal.returns-then-not-stands
returns-then-not-stands c =
    let a = c.args in
    none-lent a.keys (rank_of a.key) c.place-j.result c.place-j.ensures a.id (sym c.stands.ensures.value ∙ c.if-not-stands.true)

pub returns-then-keys-p : goal.returns-then-keys-p
returns-then-keys-p c =
    let a = c.args in
    newer_lent a.keys (rank_of a.key) c.place-j.result c.place-j.ensures a.id (sym c.stands.ensures.value ∙ c.if-not-stands.false) c.if-keys-p.true

pub returns : goal.returns
returns c =
    let a = c.args in
    own-lent a.keys (rank_of a.key) c.place-j.result c.place-j.ensures a.id (sym c.stands.ensures.value ∙ c.if-not-stands.false) (omega (arith, c.if-keys-p.false))
