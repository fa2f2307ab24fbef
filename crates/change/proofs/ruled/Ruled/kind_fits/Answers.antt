-- `Ruled::kind_fits` meets its contract. Assumes nothing.
use Rattle.change.specs.Change.{entry_fits, entries_fit}
use Rattle.change.proofs.ruled.Ruled.kind_fits.Goals as goal

pub returns : goal.returns
unfolding entries_fit entry_fits
returns c = rw (c.keys.ensures.rows, c.keys.ensures.order) at c.all_fit.ensures
