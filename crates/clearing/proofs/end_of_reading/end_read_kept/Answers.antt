-- `end_read_kept` meets its contract: nothing is touched on a refusal, and else the record goes out of the overlays. Assumes nothing.
use borrow.Author.Rules.{rules}
use mathlib.Core.Path.{◌≡◌, ◌∙◌}
use mathlib.Core.Bool.{true}
use Rattle.std.specs.Prelude.{Ok}
use Rattle.std.proofs.lemmas.Result.{err_from_is_err_and}
use Rattle.answer.specs.Answer.{refusal}
use Rattle.answer.specs.declared.answer.Answer.TheVariants.{UsedUp}
use Rattle.record.specs.Next.{reader_at, step_of}
use Rattle.replay.specs.Replay.{rest_in, whole_of}
use Rattle.replay.specs.declared.whole.WholeRecord.{WholeRecord}
use Rattle.replay.proofs.Checked.{plain_walker}
use Rattle.clearing.proofs.Again.{Clears, not_again, used-up, clears}
use Rattle.clearing.proofs.Ended.{refused-ends, plain-walks, cleared-ends, raised}
use Rattle.clearing.proofs.end_of_reading.end_read_kept.Goals as goal

pub returns-in_err-whole : goal.returns-in_err-whole
returns-in_err-whole c =
    let a = c.args in
    let p = err_from_is_err_and c.from_residual.result c.from_residual.ensures.1 in
    rw (p.1, p.2)
    (refused-ends a.position a.next a.overlays a.words.now a.bytes.now c.in_err-whole.field-0.0 _
    (not_again a.directory a.log.now a.position c.in_err-whole.field-0.0 c.in_err-whole.ensures))

pub returns-then-id : goal.returns-then-id
returns-then-id c =
    let a = c.args in
    rw c.new.ensures
    (refused-ends a.position a.next a.overlays a.words.now a.bytes.now (refusal UsedUp c.in_ok-whole.whole.end) _
    (used-up a.directory a.log.now a.position c.in_ok-whole.whole c.in_ok-whole.ensures c.if-id.true))

pub clear_rest-counts-requires : goal.clear_rest-counts-requires
clear_rest-counts-requires c =
    let a = c.args in
    let w : WholeRecord = c.in_ok-whole.whole in
    let found : Ok w ≡ whole_of (rest_in a.directory a.log.now) (step_of a.directory a.log.now (reader_at a.position true)) = c.in_ok-whole.ensures in
    let k : Clears a.directory a.log.now a.position w found = clears a.directory a.log.now a.position w found (search rules) in
    let v = c.unvalidated-reader in (
      plain_walker a.directory a.log.now a.position w.opened k.opened _ v.ensures,
      c.requires.1,
      plain-walks a.directory a.log.now v.result w.opened v.ensures k.actions w.end k.plainly,
    )

pub returns : goal.returns
returns c =
    let a = c.args in
    let w : WholeRecord = c.in_ok-whole.whole in
    let found : Ok w ≡ whole_of (rest_in a.directory a.log.now) (step_of a.directory a.log.now (reader_at a.position true)) = c.in_ok-whole.ensures in
    let k : Clears a.directory a.log.now a.position w found = clears a.directory a.log.now a.position w found (search rules) in
    let l = c.clear_rest-counts in
    cleared-ends a.directory a.log.now c.unvalidated-reader.result w.opened c.unvalidated-reader.ensures k.actions w.end k.plainly a.position a.next a.overlays a.words.now a.bytes.now l.new.words l.new.bytes l.result c.max.result (c.max.ensures ∙ raised a.next w.opened.record_id) l.ensures _ k.again
