-- `close_kept` meets its contract. Assumes nothing.
use Rattle.checker.proofs.Rules.{kept_open}
use Rattle.checker.proofs.checker.LogChecker.close_kept.Goals as goal

pub report-requires : goal.report-requires
report-requires c = (kept_open c.args.self c.requires c.in-Open.is).taken
