-- The call over the directory that was gathered.
use Rattle.std.proofs.Common.{ap, ◌∙◌}
use Rattle.directory.specs.declared.directory.Directory.{Directory}
use Rattle.change.specs.Change.{change_of}
use Rattle.writer.specs.Flush.{flush_to_file}
use Rattle.lent.proofs.records.flush_to_file.Goals as goal

pub returns : goal.returns
returns c = let a = c.args in c.flush_to_file.ensures ∙ ap (λ (d : Directory). flush_to_file d (change_of a.list a.words.now a.bytes.now) a.out.now) c.gather.ensures
