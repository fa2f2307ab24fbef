-- `checked_rest` meets its contract. Assumes nothing.
use mathlib.Core.Path.{sym, ap, ◌∙◌}
use borrow.Author.Tests.{eq-eqb, ne_eqb}
use Rattle.std.specs.Prelude.{Err}
use Rattle.std.proofs.lemmas.Result.{err_from_is_err_and}
use Rattle.record.specs.declared.reader.LogReader.{LogReader}
use Rattle.replay.specs.Replay.{rest_in, end_in}
use Rattle.replay.proofs.Checked.{checked-no, checked_yes, checked_wrong}
use Rattle.replay.proofs.check.checked_rest.Goals as goal

pub returns-in_err-end : goal.returns-in_err-end
returns-in_err-end c =
    let a = c.args in
    let d = a.directory.now in
    let p = err_from_is_err_and c.from_residual.result c.from_residual.ensures.1 in
    rw (p.1, p.2) (checked-no d a.log.now a.at a.opened c.requires _
    (sym c.in_err-end.was ∙ c.end_of.ensures.end ∙ ap (λ (x : LogReader). end_in (rest_in d a.log.now x)) c.unvalidated.ensures))

pub returns-then-sum-checksum : goal.returns-then-sum-checksum
returns-then-sum-checksum c =
    let a = c.args in
    let d = a.directory.now in
    checked_yes d a.log.now a.at a.opened c.requires _
    (sym c.in_ok-end.was ∙ c.end_of.ensures.end ∙ ap (λ (x : LogReader). end_in (rest_in d a.log.now x)) c.unvalidated.ensures)
    (eq-eqb _ _ (sym c.u32_at-sum.ensures ∙ c.if-sum-checksum.true ∙ c.checksum.ensures))

pub returns-else-sum-checksum : goal.returns-else-sum-checksum
returns-else-sum-checksum c =
    let a = c.args in
    let d = a.directory.now in
    ap Err c.new.ensures
    ∙ checked_wrong d a.log.now a.at a.opened c.requires _
    (sym c.in_ok-end.was ∙ c.end_of.ensures.end ∙ ap (λ (x : LogReader). end_in (rest_in d a.log.now x)) c.unvalidated.ensures)
    (ne_eqb _ _ (λ e. c.if-sum-checksum.false (c.u32_at-sum.ensures ∙ e ∙ sym c.checksum.ensures)))
