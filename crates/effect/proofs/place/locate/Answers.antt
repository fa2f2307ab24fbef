-- `locate` meets its contract. Assumes nothing.
use mathlib.Core.Path.{sym, ◌∙◌}
use Prim.Native.Nat.{◌+◌, ◌*◌, ◌≤◌}
use native.Mathlib.Omega.{arith}
use Rattle.directory.specs.Directory.{image_length}
use Rattle.effect.proofs.Spots.{spot-room, spot-at, spot_past, spot-none}
use Rattle.effect.proofs.place.locate.Goals as goal

pub returns-in_err-start : goal.returns-in_err-start
returns-in_err-start c = c.from_residual.ensures ∙ spot-none _ _ _ _ (sym c.place.ensures ∙ c.in_err-start.was)

pub overflow_add-result : goal.overflow_add-result
overflow_add-result c =
    let room : c.in_ok-start.start + c.args.index * c.slot_length-unit.result + c.slot_length-unit.result
    ≤ image_length c.args.tables.now.directory = spot-room _ _ _ _ _ (sym c.place.ensures ∙ c.in_ok-start.was) _ (rw c.from.ensures at c.if-index-from.true) _ c.slot_length-unit.ensures.0 in
    omega (arith, room)

pub returns-then-index-from : goal.returns-then-index-from
returns-then-index-from c = spot-at _ _ _ _ _ (sym c.place.ensures ∙ c.in_ok-start.was) _ (rw c.from.ensures at c.if-index-from.true) _ c.slot_length-unit.ensures.0

pub returns-else-index-from : goal.returns-else-index-from
returns-else-index-from c = spot_past _ _ _ _ _ (sym c.place.ensures ∙ c.in_ok-start.was) _ (rw c.from.ensures at c.if-index-from.false)
