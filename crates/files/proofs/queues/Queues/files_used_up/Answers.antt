-- `Queues::files_used_up` meets its contract. Assumes nothing.
use native.Mathlib.Omega.{arith}
use Rattle.files.proofs.Rule.{kept_facts}
use Rattle.files.proofs.queues.Queues.files_used_up.Goals as goal

pub overflow_sub-result : goal.overflow_sub-result
overflow_sub-result c = omega (arith, c.size.ensures, (kept_facts c.args.self c.requires).size)
