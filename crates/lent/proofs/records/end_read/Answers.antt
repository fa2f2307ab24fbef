-- The call over the directory that was gathered.
use Rattle.std.proofs.Common.{ap, ◌∙◌}
use Rattle.directory.specs.declared.directory.Directory.{Directory}
use Rattle.memory.specs.Overlays.{overlays_of}
use Rattle.clearing.specs.EndRead.{end_read_of}
use Rattle.lent.proofs.records.end_read.Goals as goal

pub returns : goal.returns
returns c = let a = c.args in c.end_read.ensures ∙ ap (λ (d : Directory). end_read_of d a.log.now a.position (overlays_of a.overlays a.words.now a.bytes.now) a.next) c.gather.ensures
