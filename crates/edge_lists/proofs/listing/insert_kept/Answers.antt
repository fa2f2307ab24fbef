-- `insert_kept` meets its contract. Assumes nothing.
use mathlib.Core.Path.{◌∙◌}
use Rattle.directory.specs.declared.directory.Directory.{Directory}
use Rattle.change.specs.Change.{Change, change_kept}
use Rattle.change.specs.Insert.{inserted_kept}
use Rattle.edge_lists.proofs.Lists.{loaded, insert-left}
use Rattle.edge_lists.proofs.listing.insert_kept.Goals as goal

pub insert_kept-done-requires : goal.insert_kept-done-requires
insert_kept-done-requires c =
    let a = c.args in
    loaded change_kept a.items.now a.chunks.now c.directory_of-directory.ensures c.list_of.ensures ∙ c.requires

pub returns : goal.returns
returns c =
    let a = c.args in
    let e = c.insert_kept-done.ensures ∙ loaded (λ (d : Directory) (l : Change). inserted_kept a.kind d l a.table a.index a.sub a.data.now) a.items.now a.chunks.now c.directory_of-directory.ensures c.list_of.ensures in
    insert-left a.list.now c.insert_kept-done.new.words c.insert_kept-done.new.bytes c.insert_kept-done.result e c.keep_changed.ensures
