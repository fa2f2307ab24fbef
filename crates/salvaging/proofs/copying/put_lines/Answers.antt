-- `put_lines` meets its contract. Assumes nothing.
use mathlib.Core.Path.{◌∙◌}
use Rattle.salvaging.proofs.Copied.{line-rest, lines-done}
use Rattle.salvaging.proofs.copying.put_lines.Goals as goal

pub loop-i-preserved : goal.loop-i-preserved
loop-i-preserved c = line-rest c.args.lines.now c.loop-i.i c.loop-i-test.true c.loop-i.invariant _ (c.copy_from_slice.ensures.after ∙ c.words.ensures)

pub returns : goal.returns
returns c = lines-done c.args.lines.now c.loop-i.i c.loop-i-test.false _ _ c.loop-i.invariant
