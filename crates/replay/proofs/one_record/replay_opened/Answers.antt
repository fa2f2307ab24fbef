-- `replay_opened` meets its contract. Assumes nothing.
use mathlib.Core.Path.{sym, ap, ◌∙◌}
use Rattle.std.proofs.lemmas.Result.{err_from_is_err_and}
use Rattle.record.specs.declared.reader.LogReader.{LogReader}
use Rattle.replay.specs.Inner.{is_walked}
use Rattle.replay.specs.Replay.{rest_in, image_after}
use Rattle.replay.proofs.Checked.{second_walks, second-leaves, untouched, plain_walker}
use Rattle.replay.proofs.one_record.replay_opened.Goals as goal

pub apply_rest-requires : goal.apply_rest-requires
apply_rest-requires c =
    let a = c.args in
    let d = a.layout.now.directory in
    record {
      walker = plain_walker d a.log.now a.at a.opened c.requires.opened _ c.unvalidated.ensures;
      walks =
          ap (λ (r : LogReader). is_walked (rest_in d a.log.now r)) c.unvalidated.ensures
          ∙ second_walks d a.log.now a.at a.opened c.requires.opened _ (sym c.in_ok-end.was ∙ c.checked_rest.ensures);
      image = c.requires.image;
    }

pub returns-in_err-end : goal.returns-in_err-end
returns-in_err-end c =
    let a = c.args in
    let d = a.layout.now.directory in
    let e = sym c.in_err-end.was ∙ c.checked_rest.ensures in
    let p = err_from_is_err_and c.from_residual.result c.from_residual.ensures.1 in
    rw (p.1, p.2) (record { told = e; image = untouched d _ _ (rest_in d a.log.now a.opened) e })

pub returns : goal.returns
returns c =
    let a = c.args in
    let d = a.layout.now.directory in
    let e = sym c.in_ok-end.was ∙ c.checked_rest.ensures in
    record {
      told = e;
      image =
          c.apply_rest.ensures
          ∙ ap (λ (r : LogReader). image_after d a.image.now (rest_in d a.log.now r)) c.unvalidated.ensures
          ∙ second-leaves d a.log.now a.at a.opened c.requires.opened a.image.now _ e;
    }
