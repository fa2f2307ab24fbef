-- The call over the directory that was gathered.
use Rattle.std.proofs.Common.{ap, ◌∙◌}
use Rattle.directory.specs.declared.directory.Directory.{Directory}
use Rattle.directory.specs.declared.table.TableKind.TheVariants.{Index}
use Rattle.change.specs.Change.{change_of}
use Rattle.change.specs.Insert.{inserted}
use Rattle.lent.proofs.lists.insert_index.Goals as goal

pub returns : goal.returns
returns c = let a = c.args in c.insert_index.ensures ∙ ap (λ (d : Directory). inserted Index d (change_of a.list a.words.now a.bytes.now) a.table.0 a.index a.sub a.data.now) c.gather.ensures
