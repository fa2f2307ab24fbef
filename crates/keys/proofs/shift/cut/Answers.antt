-- `cut` meets its contract. Assumes nothing.
use Rattle.std.proofs.Common.{◌∙◌, arith}
use Rattle.keys.proofs.Gap.{cut-copied}
use Rattle.keys.proofs.shift.cut.Goals as goal

pub returns : goal.returns
returns c = c.copy_within.ensures.after ∙ cut-copied c.args.at c.args.n c.args.order.now (omega arith)
