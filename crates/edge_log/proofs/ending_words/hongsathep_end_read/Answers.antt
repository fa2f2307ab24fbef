-- `hongsathep_end_read` meets its contract. Assumes nothing.
use mathlib.Core.Path.{ap₂, ◌∙◌}
use Rattle.directory.specs.declared.directory.Directory.{Directory}
use Rattle.memory.specs.declared.overlays.LogOverlays.{LogOverlays}
use Rattle.memory.specs.Overlays.{overlays_of}
use Rattle.clearing.specs.EndRead.{end_read_of}
use Rattle.edge_log.proofs.Memories.{read-left}
use Rattle.edge_log.proofs.ending_words.hongsathep_end_read.Goals as goal

pub returns : goal.returns
returns c =
    let a = c.args in
    let e = c.end_read-done.ensures ∙ ap₂ (λ (d : Directory) (o : LogOverlays). end_read_of d a.log.now a.position (overlays_of o a.words.now a.bytes.now) a.next.now) c.directory_of-d.ensures c.overlays_of-o.ensures in
    let f = read-left a.position c.overlays_of-o.result a.next.now c.end_read-done.result c.end_read-done.new.words c.end_read-done.new.bytes _ _ _ _ _ _ _ _ e c.keep_read.ensures in
    record { answer = f.told; overlays = f.head; memory = f.memory; next = f.next; end = f.end; id = f.id; fault = f.fault }
