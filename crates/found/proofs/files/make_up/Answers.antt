-- `make_up` meets its contract. The invariant: what is left of the bytes and the lengths passed make up all of them. Assumes nothing.
use Rattle.std.proofs.Common.{sym, arith}
use Rattle.found.proofs.Steps.{total-next, made-short}
use Rattle.found.proofs.files.make_up.Goals as goal

pub returns-then-left-n : goal.returns-then-left-n
returns-then-left-n c = sym (made-short c.args.name_lengths.now c.loop-n.n-index c.loop-n.left c.args.bytes c.loop-n.invariant c.loop-n-test.true c.if-left-n.true)

pub loop-n-preserved : goal.loop-n-preserved
loop-n-preserved c = omega (arith, c.loop-n.invariant, total-next c.args.name_lengths.now c.loop-n.n-index c.loop-n-test.true)
