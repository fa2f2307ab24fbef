-- The call over the directory that was gathered.
use Rattle.std.proofs.Common.{ap, ◌∙◌}
use Rattle.directory.specs.declared.directory.Directory.{Directory}
use Rattle.directory.specs.declared.table.TableKind.TheVariants.{Value}
use Rattle.change.specs.Change.{change_of}
use Rattle.change.specs.Insert.{inserted}
use Rattle.lent.proofs.lists.insert_value.Goals as goal

pub returns : goal.returns
returns c = let a = c.args in c.insert_value.ensures ∙ ap (λ (d : Directory). inserted Value d (change_of a.list a.words.now a.bytes.now) a.table.0 a.index 0 a.data.now) c.gather.ensures
