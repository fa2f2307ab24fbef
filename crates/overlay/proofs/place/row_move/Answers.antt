-- `row_move` meets its contract. Assumes nothing.
use Rattle.std.proofs.Common.{◌∙◌}
use Rattle.keys.proofs.Rows.{row-copied}
use Rattle.overlay.proofs.place.row_move.Goals as goal

pub returns : goal.returns
returns c = let a = c.args in c.copy_within.ensures.after ∙ row-copied a.rows.now a.q a.p c.requires.1 c.requires.0
