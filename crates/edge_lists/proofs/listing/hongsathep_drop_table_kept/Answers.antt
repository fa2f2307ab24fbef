-- `hongsathep_drop_table_kept` meets its contract. Assumes nothing.
use mathlib.Core.Path.{◌∙◌}
use Rattle.directory.specs.declared.directory.Directory.{Directory}
use Rattle.change.specs.Change.{Change, change_kept}
use Rattle.change.specs.Drop.{table_dropped_kept}
use Rattle.edge_lists.proofs.Lists.{loaded, drop_left}
use Rattle.edge_lists.proofs.listing.hongsathep_drop_table_kept.Goals as goal

pub drop_table_kept-done-requires : goal.drop_table_kept-done-requires
drop_table_kept-done-requires c =
    let a = c.args in
    loaded change_kept a.items.now a.chunks.now c.directory_of-directory.ensures c.list_of.ensures ∙ c.requires

pub returns : goal.returns
returns c =
    let a = c.args in
    let e = c.drop_table_kept-done.ensures ∙ loaded (λ (d : Directory) (l : Change). table_dropped_kept d l a.table) a.items.now a.chunks.now c.directory_of-directory.ensures c.list_of.ensures in
    drop_left a.list.now a.items.now a.chunks.now c.drop_table_kept-done.result e c.keep_changed.ensures
