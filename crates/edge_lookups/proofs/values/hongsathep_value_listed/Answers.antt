-- As words. Assumes nothing.
use Rattle.edge_lookups.proofs.Loaded.{value-listed-from}
use Rattle.edge_lookups.proofs.Copies.{told}
use Rattle.edge_lookups.proofs.values.hongsathep_value_listed.Goals as goal

pub returns : goal.returns
returns c = told _ _ (value-listed-from c.list_of-l.ensures _ _ c.overlays_of-o.ensures _ _ _) _ c.args.dest.now _ c.copied_listed-done.ensures.told c.copied_listed-done.ensures.copied c.keep_copied.ensures
