-- `end_record` meets its contract: all that is handed in tested once, and the second door. Assumes nothing.
use mathlib.Core.Path.{sym, ◌∙◌}
use Rattle.ending.proofs.Decided.{any_output}
use Rattle.ending.proofs.Left.{given, left-13}
use Rattle.ending.proofs.record_end.end_record.Goals as goal

pub returns-then-not-kept : goal.returns-then-not-kept
returns-then-not-kept c =
    let a = c.args in
    let h = given a.list a.list_words a.list_bytes a.overlays a.words.now a.bytes.now a.queues a.next in
    left-13 a.directory h a.out.now (sym (any_output a.directory h a.out.now) ∙ sym c.kept.ensures ∙ c.if-not-kept.true)

pub end_record_kept-requires : goal.end_record_kept-requires
end_record_kept-requires c =
    let a = c.args in
    sym (any_output a.directory (given a.list a.list_words a.list_bytes a.overlays a.words.now a.bytes.now a.queues a.next) a.out.now) ∙ sym c.kept.ensures ∙ c.if-not-kept.false
