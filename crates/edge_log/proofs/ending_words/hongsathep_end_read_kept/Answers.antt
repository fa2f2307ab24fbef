-- `hongsathep_end_read_kept` meets its contract. Assumes nothing.
use mathlib.Core.Path.{ap, ap₂, ◌∙◌}
use Rattle.directory.specs.Directory.{directory_kept}
use Rattle.directory.specs.declared.directory.Directory.{Directory}
use Rattle.memory.specs.Parts.{parts_of, parts_kept}
use Rattle.memory.specs.Overlays.{overlays_of}
use Rattle.memory.specs.declared.overlays.LogOverlays.{LogOverlays}
use Rattle.memory.specs.declared.span.Holder.TheVariants as holder
use Rattle.clearing.specs.EndRead.{record_again, clearable, end_read_by}
use Rattle.edge_log.proofs.Memories.{read-left}
use Rattle.edge_log.proofs.ending_words.hongsathep_end_read_kept.Goals as goal

pub end_read_kept-done-requires : goal.end_read_kept-done-requires
end_read_kept-done-requires c =
    let a = c.args in
    (ap directory_kept c.directory_of-d.ensures ∙ c.requires.0, ap (λ (o : LogOverlays). parts_kept holder.Shared (parts_of holder.Shared o.counts a.words.now a.bytes.now)) c.overlays_of-o.ensures ∙ c.requires.1, c.requires.2)

pub returns : goal.returns
returns c =
    let a = c.args in
    let e = c.end_read_kept-done.ensures ∙ ap₂ (λ (d : Directory) (o : LogOverlays). end_read_by a.position (overlays_of o a.words.now a.bytes.now) a.next.now (clearable (record_again d a.log.now a.position))) c.directory_of-d.ensures c.overlays_of-o.ensures in
    let f = read-left a.position c.overlays_of-o.result a.next.now c.end_read_kept-done.result c.end_read_kept-done.new.words c.end_read_kept-done.new.bytes _ _ _ _ _ _ _ _ e c.keep_read.ensures in
    record { answer = f.told; overlays = f.head; memory = f.memory; next = f.next; end = f.end; id = f.id; fault = f.fault }
