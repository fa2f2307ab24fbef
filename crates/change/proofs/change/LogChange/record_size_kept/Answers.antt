-- `LogChange::record_size_kept` meets its contract: one call. Assumes nothing.
use Rattle.change.specs.Ruled.{list_of}
use Rattle.change.proofs.change.LogChange.record_size_kept.Goals as goal

pub invariant_of-record_size : goal.invariant_of-record_size
invariant_of-record_size c = record { ruled = c.requires }

pub returns : goal.returns
unfolding list_of
returns c = c.record_size.ensures
