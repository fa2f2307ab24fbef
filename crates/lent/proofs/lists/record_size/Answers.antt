-- The call over the directory that was gathered.
use Rattle.std.proofs.Common.{ap, ◌∙◌}
use Rattle.directory.specs.declared.directory.Directory.{Directory}
use Rattle.change.specs.Change.{change_of}
use Rattle.change.specs.Size.{sized}
use Rattle.lent.proofs.lists.record_size.Goals as goal

pub returns : goal.returns
returns c = let a = c.args in c.record_size.ensures ∙ ap (λ (d : Directory). sized d (change_of a.list a.words.now a.bytes.now)) c.gather.ensures
