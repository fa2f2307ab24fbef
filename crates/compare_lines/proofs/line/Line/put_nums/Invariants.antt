-- The loop's invariant: how much of the line the numbers put so far take at most.
use Rattle.std.proofs.Common.{◌≤◌, ◌+◌, ◌*◌}
use Rattle.compare_lines.proofs.line.Line.put_nums.Given as goal

abbrev pub invariant-loop-number : goal.invariant-loop-number
invariant-loop-number l = l.self.held ≤ l.fn.self.held + 2 + 4 * l.number-index
