-- `one_step` meets its contract. Assumes nothing.
use native.Mathlib.Omega.{arith}
use Rattle.checker.proofs.Calls.{refused-place, took_place}
use Rattle.checker.proofs.walk.one_step.Goals as goal

pub took-requires : goal.took-requires
took-requires c = took_place c.args.base c.args.s c.args.d c.args.log.now c.requires.1 _ c.in-Ok.ensures

pub overflow_add-base : goal.overflow_add-base
overflow_add-base c = omega (arith, refused-place c.args.base c.args.s c.args.d c.args.log.now c.requires.1 _ c.in-Err.ensures)
