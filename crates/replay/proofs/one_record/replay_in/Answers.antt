-- `replay_in` meets its contract. Assumes nothing.
use mathlib.Core.Path.{sym, ap, ◌∙◌}
use borrow.Author.Tests.{eq-eqb, ne_eqb}
use Rattle.std.specs.Prelude.{Err}
use Rattle.std.proofs.lemmas.Result.{err_from_is_err_and}
use Rattle.replay.specs.Replay.{image_after, end_in}
use Rattle.replay.proofs.Opening.{opens_at, opening, record_refused, record_wrong, record_opened}
use Rattle.replay.proofs.one_record.replay_in.Goals as goal

pub replay_opened-requires : goal.replay_opened-requires
replay_opened-requires c =
    let a = c.args in
    let e = opens_at a.layout.now.directory a.log.now a.at _ _ c.new.ensures c.open.ensures in
    record { opened = opening a.layout.now.directory _ _ _ (sym e ∙ c.in_ok-opened.was); image = c.requires }

pub returns-in_err-opened : goal.returns-in_err-opened
returns-in_err-opened c =
    let a = c.args in
    let e = opens_at a.layout.now.directory a.log.now a.at _ _ c.new.ensures c.open.ensures in
    let r = record_refused a.layout.now.directory a.log.now a.at a.expected _ (sym e ∙ c.in_err-opened.was) in
    let p = err_from_is_err_and c.from_residual.result c.from_residual.ensures.1 in
    rw (p.1, p.2) (record { told = sym (ap end_in r); image = sym (ap (image_after a.layout.now.directory a.image.now) r) })

pub shape_of-image : goal.shape_of-image
shape_of-image c = c.replay_opened.auto.image

pub returns-then-opened-expected : goal.returns-then-opened-expected
returns-then-opened-expected c =
    let a = c.args in
    let e = opens_at a.layout.now.directory a.log.now a.at _ _ c.new.ensures c.open.ensures in
    let r = record_opened a.layout.now.directory a.log.now a.at a.expected _ (sym e ∙ c.in_ok-opened.was) (eq-eqb _ _ c.if-opened-expected.true) in
    record { told = c.replay_opened.ensures.told ∙ sym (ap end_in r); image = c.replay_opened.ensures.image ∙ sym (ap (image_after a.layout.now.directory a.image.now) r) }

pub returns-else-opened-expected : goal.returns-else-opened-expected
returns-else-opened-expected c =
    let a = c.args in
    let e = opens_at a.layout.now.directory a.log.now a.at _ _ c.new.ensures c.open.ensures in
    let r = record_wrong a.layout.now.directory a.log.now a.at a.expected _ (sym e ∙ c.in_ok-opened.was) (ne_eqb _ _ c.if-opened-expected.false) in
    record { told = ap Err c.new-else-opened-expected.ensures ∙ sym (ap end_in r); image = sym (ap (image_after a.layout.now.directory a.image.now) r) }
