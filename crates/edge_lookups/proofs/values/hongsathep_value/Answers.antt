-- As words. Assumes nothing.
use Rattle.edge_lookups.proofs.Loaded.{value-from}
use Rattle.edge_lookups.proofs.Copies.{told}
use Rattle.edge_lookups.proofs.values.hongsathep_value.Goals as goal

pub returns : goal.returns
returns c = told _ _ (value-from c.overlays_of.ensures _ _ _) _ c.args.dest.now _ c.copied-done.ensures.told c.copied-done.ensures.copied c.keep_copied.ensures
