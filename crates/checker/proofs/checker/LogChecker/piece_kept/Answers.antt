-- `piece_kept` meets its contract. Assumes nothing.
use native.Mathlib.Omega.{arith}
use Rattle.checker.proofs.Rules.{kept-total}
use Rattle.checker.proofs.checker.LogChecker.piece_kept.Goals as goal

pub overflow_sub-self : goal.overflow_sub-self
overflow_sub-self c = omega (arith, kept-total c.args.self c.requires)
