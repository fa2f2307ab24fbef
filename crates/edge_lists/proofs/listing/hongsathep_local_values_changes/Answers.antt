-- `hongsathep_local_values_changes` meets its contract. Assumes nothing.
use mathlib.Core.Path.{ap, ◌∙◌}
use Rattle.change.specs.declared.change.LogChange.{LogChange}
use Rattle.change.specs.Change.{change_of}
use Rattle.change.specs.Values.{values_of}
use Rattle.edge_lists.proofs.Lists.{values_left}
use Rattle.edge_lists.proofs.listing.hongsathep_local_values_changes.Goals as goal

pub returns : goal.returns
returns c =
    let a = c.args in
    values_left (c.local_values_changes-done.ensures ∙ ap (λ (l : LogChange). values_of (change_of l a.items.now a.chunks.now) a.table) c.list_of.ensures) c.keep_values.ensures
