-- `Queues::flush_one_kept` meets its contract. Assumes nothing.
use native.Mathlib.Omega.{arith}
use Rattle.files.proofs.Rule.{flush_room}
use Rattle.files.proofs.queues.Queues.flush_one_kept.Goals as goal

pub appending_queued-requires : goal.appending_queued-requires
appending_queued-requires c = flush_room c.args.self c.args.min c.requires (omega (arith, c.size.ensures))
