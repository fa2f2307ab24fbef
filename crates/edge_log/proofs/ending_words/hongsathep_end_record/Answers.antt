-- `hongsathep_end_record` meets its contract. Assumes nothing.
use mathlib.Core.Path.{◌∙◌}
use Rattle.ending.specs.EndRecord.{end_record}
use Rattle.edge_log.proofs.Memories.{handed, end-left}
use Rattle.edge_log.proofs.ending_words.hongsathep_end_record.Goals as goal

pub returns : goal.returns
returns c =
    let a = c.args in
    end-left c.overlays_of-o.result c.queues_of-q.result c.end_record-done.result c.end_record-done.new.words c.end_record-done.new.bytes c.end_record-done.new.out _ _ _ _ _ _ _
    (c.end_record-done.ensures ∙ handed end_record a.items.now a.chunks.now a.words.now a.bytes.now a.next a.out.now c.directory_of-d.ensures c.list_of-l.ensures c.overlays_of-o.ensures c.queues_of-q.ensures) c.keep_ended.ensures
