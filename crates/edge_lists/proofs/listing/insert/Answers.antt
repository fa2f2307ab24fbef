-- `insert` meets its contract. Assumes nothing.
use mathlib.Core.Path.{◌∙◌}
use Rattle.directory.specs.declared.directory.Directory.{Directory}
use Rattle.change.specs.Change.{Change}
use Rattle.change.specs.Insert.{inserted}
use Rattle.edge_lists.proofs.Lists.{loaded, insert-left}
use Rattle.edge_lists.proofs.listing.insert.Goals as goal

pub returns : goal.returns
returns c =
    let a = c.args in
    let e = c.insert-done.ensures ∙ loaded (λ (d : Directory) (l : Change). inserted a.kind d l a.table a.index a.sub a.data.now) a.items.now a.chunks.now c.directory_of-directory.ensures c.list_of.ensures in
    insert-left a.list.now c.insert-done.new.words c.insert-done.new.bytes c.insert-done.result e c.keep_changed.ensures
