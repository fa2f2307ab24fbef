-- `Queues::open` meets its contract. Assumes nothing.
use mathlib.Core.Path.{ap}
use Rattle.std.proofs.lemmas.Result.{err_from_is_err_and}
use Rattle.files.specs.Open.{opened_by, open_logs}
use Rattle.files.proofs.queues.Queues.open.Goals as goal

pub returns-in_err-found-clause-opened : goal.returns-in_err-found-clause-opened
unfolding open_logs
returns-in_err-found-clause-opened c =
    let p = err_from_is_err_and c.from_residual.result c.from_residual.ensures.1 in
    rw (p.1, p.2) (ap opened_by c.in_err-found.ensures.files)
