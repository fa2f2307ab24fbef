-- `Keys::place` meets its contract. The invariant: what is looked for stands from `low` to `left` behind it. Assumes nothing.
use Rattle.std.proofs.Common.{arith}
use Rattle.keys.specs.Keys.{rank_of}
use Rattle.keys.proofs.Lent.{spot-within}
use Rattle.keys.proofs.ordered.Keys.place.Goals as goal

pub loop-left-init : goal.loop-left-init
loop-left-init c = (omega arith, (omega arith, omega (arith, spot-within c.args.self (rank_of c.args.key))))
