-- `hongsathep_record_size` meets its contract. Assumes nothing.
use mathlib.Core.Path.{◌∙◌}
use Rattle.change.specs.Size.{sized}
use Rattle.edge_lists.proofs.Lists.{loaded, size-left}
use Rattle.edge_lists.proofs.listing.hongsathep_record_size.Goals as goal

pub returns : goal.returns
returns c =
    let a = c.args in
    size-left (c.record_size-done.ensures ∙ loaded sized a.items.now a.chunks.now c.directory_of.ensures c.list_of.ensures) c.keep_size.ensures
