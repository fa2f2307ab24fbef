-- The call over the directory that was gathered.
use Rattle.std.proofs.Common.{ap, ◌∙◌}
use Rattle.directory.specs.declared.directory.Directory.{Directory}
use Rattle.change.specs.Change.{change_of}
use Rattle.change.specs.Drop.{table_dropped}
use Rattle.lent.proofs.lists.drop_table.Goals as goal

pub returns : goal.returns
returns c = let a = c.args in c.drop_table.ensures ∙ ap (λ (d : Directory). table_dropped d (change_of a.list a.words.now a.bytes.now) a.id.0) c.gather.ensures
