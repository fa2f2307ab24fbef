-- `hongsathep_drop_table` meets its contract. Assumes nothing.
use mathlib.Core.Path.{◌∙◌}
use Rattle.directory.specs.declared.directory.Directory.{Directory}
use Rattle.change.specs.Change.{Change}
use Rattle.change.specs.Drop.{table_dropped}
use Rattle.edge_lists.proofs.Lists.{loaded, drop_left}
use Rattle.edge_lists.proofs.listing.hongsathep_drop_table.Goals as goal

pub returns : goal.returns
returns c =
    let a = c.args in
    let e = c.drop_table-done.ensures ∙ loaded (λ (d : Directory) (l : Change). table_dropped d l a.table) a.items.now a.chunks.now c.directory_of-directory.ensures c.list_of.ensures in
    drop_left a.list.now a.items.now a.chunks.now c.drop_table-done.result e c.keep_changed.ensures
