-- `check_record_in` meets its contract. Assumes nothing.
use mathlib.Core.Path.{sym, ap, ◌∙◌}
use Prim.Native.Nat.{suc}
use lib.ListN.{length}
use Rattle.std.proofs.lemmas.Result.{err_from_is_err_and}
use Rattle.replay.specs.Replay.{rest_of, whole_of}
use Rattle.replay.proofs.Opening.{opens_at, opening}
use Rattle.replay.proofs.AnyId.{whole_not, whole_is}
use Rattle.replay.proofs.whole.check_record_in.Goals as goal

pub checked_rest-requires : goal.checked_rest-requires
checked_rest-requires c =
    let a = c.args in
    let e = opens_at a.directory.now a.log.now a.at _ _ c.new.ensures c.open.ensures in
    opening a.directory.now _ _ _ (sym e ∙ c.in_ok-opened.was)

pub returns-in_err-opened : goal.returns-in_err-opened
returns-in_err-opened c =
    let a = c.args in
    let e = opens_at a.directory.now a.log.now a.at _ _ c.new.ensures c.open.ensures in
    let p = err_from_is_err_and c.from_residual.result c.from_residual.ensures.1 in
    rw (p.1, p.2) (sym (ap (whole_of _) (sym e ∙ c.in_err-opened.was)))

pub returns-in_err-end : goal.returns-in_err-end
returns-in_err-end c =
    let a = c.args in
    let e = opens_at a.directory.now a.log.now a.at _ _ c.new.ensures c.open.ensures in
    let p = err_from_is_err_and c.from_residual-in_err-end.result c.from_residual-in_err-end.ensures.1 in
    rw (p.1, p.2) (whole_not (rest_of (suc (length a.log.now)) a.directory.now a.log.now) _ _ (sym e ∙ c.in_ok-opened.was) _ (sym c.in_err-end.was ∙ c.checked_rest.ensures))

pub returns : goal.returns
returns c =
    let a = c.args in
    let e = opens_at a.directory.now a.log.now a.at _ _ c.new.ensures c.open.ensures in
    whole_is (rest_of (suc (length a.log.now)) a.directory.now a.log.now) _ _ (sym e ∙ c.in_ok-opened.was) _ (sym c.in_ok-end.was ∙ c.checked_rest.ensures)
