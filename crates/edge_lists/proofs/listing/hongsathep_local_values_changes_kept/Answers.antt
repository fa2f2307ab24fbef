-- `hongsathep_local_values_changes_kept` meets its contract. Assumes nothing.
use mathlib.Core.Path.{ap, ◌∙◌}
use Rattle.std.specs.Prelude.{Ok}
use Rattle.change.specs.declared.values.LocalValues.{LocalValues}
use Rattle.change.specs.declared.change.LogChange.{LogChange}
use Rattle.change.specs.Change.{change_of, change_ruled}
use Rattle.change.specs.Values.{values_of_kept}
use Rattle.edge_lists.proofs.Lists.{values_left}
use Rattle.edge_lists.proofs.listing.hongsathep_local_values_changes_kept.Goals as goal

pub local_values_changes_kept-values-requires : goal.local_values_changes_kept-values-requires
local_values_changes_kept-values-requires c =
    let a = c.args in
    ap (λ (l : LogChange). change_ruled (change_of l a.items.now a.chunks.now)) c.list_of.ensures ∙ c.requires

pub returns : goal.returns
returns c =
    let a = c.args in
    values_left (ap (λ (v : LocalValues). Ok v) (c.local_values_changes_kept-values.ensures ∙ ap (λ (l : LogChange). values_of_kept (change_of l a.items.now a.chunks.now) a.table) c.list_of.ensures)) c.keep_values.ensures
