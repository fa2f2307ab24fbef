-- `order_move` meets its contract: a place taken out, then the last one named anew. Assumes nothing.
use mathlib.Core.Path.{ap, ◌∙◌}
use Rattle.keys.specs.Keys.{rename_all}
use Rattle.overlay.proofs.place.order_move.Goals as goal

pub returns : goal.returns
returns c = let a = c.args in c.rename.ensures ∙ ap (rename_all a.last a.last a.p) c.cut.ensures
