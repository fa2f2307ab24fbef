-- The tables copied over those of no table. Assumes nothing.
use Rattle.lent.proofs.Gathering.{gathering}
use Rattle.lent.proofs.slice.gather.Goals as goal

pub returns : goal.returns
returns c = gathering c.args.tables.now _ _ _ _ c.min-n.ensures c.min.ensures c.new.ensures c.copy_from_slice.ensures.after
