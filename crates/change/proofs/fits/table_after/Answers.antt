-- `table_after` meets its contract: the same number has the same table. Assumes nothing.
use mathlib.Core.Path.{sym, ap, ◌∙◌}
use Rattle.directory.specs.Directory.{find_table}
use Rattle.change.proofs.fits.table_after.Goals as goal

pub returns-then-table-last : goal.returns-then-table-last
returns-then-table-last c = c.requires ∙ ap (find_table c.args.directory c.args.kind) (sym c.if-table-last.true)
