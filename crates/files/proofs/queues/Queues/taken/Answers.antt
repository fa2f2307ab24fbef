-- `Queues::taken` meets its contract. Assumes nothing.
use native.Mathlib.Omega.{arith}
use Rattle.files.proofs.Rule.{kept_facts, number-left, size_low}
use Rattle.files.proofs.queues.Queues.taken.Goals as goal

pub overflow_add-size : goal.overflow_add-size
overflow_add-size c = omega (arith, c.size.ensures, size_low c.args.self c.args.length c.requires.1)

pub overflow_add-q : goal.overflow_add-q
overflow_add-q c = omega (arith, number-left c.args.self c.args.length c.requires.1 c.if-self.false c.if-self-eq0.true)

pub without_first-q-requires : goal.without_first-q-requires
without_first-q-requires c = omega (arith, (kept_facts c.args.self c.requires.0).room.pool)
