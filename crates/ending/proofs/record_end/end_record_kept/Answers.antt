-- `end_record_kept` meets its contract: refused, or written and put. Assumes nothing.
use Rattle.std.proofs.lemmas.Result.{err_from_is_err_and}
use Rattle.change.proofs.Rules.{kept-ruled, kept-parts}
use Rattle.putting.specs.Inner.{parts_at}
use Rattle.ending.specs.EndRecord.{handed_of}
use Rattle.ending.proofs.Decided.{list-kept, shared_kept}
use Rattle.ending.proofs.Left.{given, left-refused, is_free, as_given, left-done}
use Rattle.ending.proofs.record_end.end_record_kept.Goals as goal

pub returns-in_err-source : goal.returns-in_err-source
returns-in_err-source c =
    let a = c.args in
    let p = err_from_is_err_and c.from_residual.result c.from_residual.ensures.1 in
    rw (p.1, p.2)
    (left-refused a.directory (given a.list a.list_words a.list_bytes a.overlays a.words.now a.bytes.now a.queues a.next) a.out.now _ c.in_err-source.ensures)

pub flush_to_file_kept-requires : goal.flush_to_file_kept-requires
unfolding handed_of
flush_to_file_kept-requires c = kept-ruled c.args.directory _ (list-kept c.args.directory _ c.requires)

pub put_list-overlays-requires : goal.put_list-overlays-requires
unfolding handed_of parts_at
put_list-overlays-requires c =
    let a = c.args in
    let h = given a.list a.list_words a.list_bytes a.overlays a.words.now a.bytes.now a.queues a.next in (
      kept-parts a.directory _ (list-kept a.directory _ c.requires),
      shared_kept a.directory _ c.requires,
      is_free a.directory h a.out.now c.in_ok-source.field-0 c.in_ok-source.ensures,
    )

pub returns : goal.returns
returns c =
    let a = c.args in
    let h = given a.list a.list_words a.list_bytes a.overlays a.words.now a.bytes.now a.queues a.next in
    let size = as_given a.directory h a.out.now c.in_ok-source.field-0 c.in_ok-source.ensures _ _ c.flush_to_file_kept.ensures c.unwrap_or-length.result c.unwrap_or-length.ensures in
    left-done a.directory h a.out.now c.in_ok-source.field-0 c.in_ok-source.ensures c.unwrap_or-length.result _ size _ _ _ c.put_list-overlays.ensures
