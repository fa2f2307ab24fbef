-- `Ruled::kind_size` meets its contract. Assumes nothing.
use Rattle.change.specs.Size.{entries_size}
use Rattle.change.proofs.ruled.Ruled.kind_size.Goals as goal

pub returns : goal.returns
unfolding entries_size
returns c = rw (c.keys.ensures.rows, c.keys.ensures.order) at c.places_size.ensures
