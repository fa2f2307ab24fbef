-- `Handed::file` meets its contract: the tests, then the files, then the output's length. Assumes nothing.
use Rattle.std.proofs.Common.{sym, ◌∙◌, arith}
use Rattle.std.proofs.lemmas.Result.{err_from_is_err_and}
use Rattle.memory.specs.declared.span.Holder.TheVariants as holder
use Rattle.putting.specs.Inner.{parts_at}
use Rattle.putting.proofs.Parts.{keys_in}
use Rattle.change.proofs.Rules.{kept-ruled, kept-parts}
use Rattle.ending.specs.EndRecord.{handed_of}
use Rattle.ending.specs.Inner.{handed_by}
use Rattle.ending.proofs.Decided.{list-kept, shared_kept, queues-kept, next-kept, file-11, file-9, file-refused, file-10, file-0, without_bytes}
use Rattle.ending.proofs.handed.Handed.file.Goals as goal

pub overflow_sub-self : goal.overflow_sub-self
unfolding handed_of
overflow_sub-self c = omega (arith, next-kept c.args.directory (handed_by c.args.self c.args.out.now) c.requires)

pub returns-then-self : goal.returns-then-self
unfolding handed_of
returns-then-self c = file-11 c.args.directory (handed_by c.args.self c.args.out.now) c.requires c.if-self.true

pub any_crowded-requires : goal.any_crowded-requires
unfolding handed_of parts_at
any_crowded-requires c =
    let d = c.args.directory in
    let s = c.args.self in
    let h = handed_by s c.args.out.now in
    (λ kind. keys_in holder.List kind s.list.counts s.list_words.now s.list_bytes.now (kept-parts d h.list (list-kept d h c.requires)), λ kind. keys_in holder.Shared kind s.overlays.counts s.words.now s.bytes.now (shared_kept d h c.requires))

pub returns-then-any_crowded : goal.returns-then-any_crowded
unfolding handed_of
returns-then-any_crowded c =
    let s = c.args.self in
    file-9 c.args.directory (handed_by s c.args.out.now) c.requires c.if-self.false
    (sym (without_bytes s.list.counts s.overlays.counts s.list_words.now s.list_bytes.now s.words.now s.bytes.now) ∙ sym c.any_crowded.ensures ∙ c.if-any_crowded.true)

pub record_size_kept-size-requires : goal.record_size_kept-size-requires
unfolding handed_of
record_size_kept-size-requires c =
    let d = c.args.directory in
    let h = handed_by c.args.self c.args.out.now in
    kept-ruled d h.list (list-kept d h c.requires)

pub take_file_kept-requires : goal.take_file_kept-requires
unfolding handed_of
take_file_kept-requires c = queues-kept c.args.directory (handed_by c.args.self c.args.out.now) c.requires

pub returns-in_err-taken : goal.returns-in_err-taken
unfolding handed_of
returns-in_err-taken c =
    let s = c.args.self in
    let p = err_from_is_err_and c.from_residual.result c.from_residual.ensures.1 in
    rw (p.1, p.2)
    (file-refused c.args.directory (handed_by s c.args.out.now) c.requires c.if-self.false
    (sym (without_bytes s.list.counts s.overlays.counts s.list_words.now s.list_bytes.now s.words.now s.bytes.now) ∙ sym c.any_crowded.ensures ∙ c.if-any_crowded.false)
    c.record_size_kept-size.result c.record_size_kept-size.ensures _ c.in_err-taken.ensures)

pub returns-then-out-size : goal.returns-then-out-size
unfolding handed_of
returns-then-out-size c =
    let s = c.args.self in
    file-10 c.args.directory (handed_by s c.args.out.now) c.requires c.if-self.false
    (sym (without_bytes s.list.counts s.overlays.counts s.list_words.now s.list_bytes.now s.words.now s.bytes.now) ∙ sym c.any_crowded.ensures ∙ c.if-any_crowded.false)
    c.record_size_kept-size.result c.record_size_kept-size.ensures c.in_ok-taken.taken c.in_ok-taken.ensures c.if-out-size.true

pub returns : goal.returns
unfolding handed_of
returns c =
    let s = c.args.self in
    file-0 c.args.directory (handed_by s c.args.out.now) c.requires c.if-self.false
    (sym (without_bytes s.list.counts s.overlays.counts s.list_words.now s.list_bytes.now s.words.now s.bytes.now) ∙ sym c.any_crowded.ensures ∙ c.if-any_crowded.false)
    c.record_size_kept-size.result c.record_size_kept-size.ensures c.in_ok-taken.taken c.in_ok-taken.ensures c.if-out-size.false
