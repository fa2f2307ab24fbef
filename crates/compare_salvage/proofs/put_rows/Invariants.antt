-- The loop's invariant: how much of the line the rows put so far take at most.
use Rattle.std.proofs.Common.{◌≤◌, ◌+◌, ◌*◌}
use Rattle.compare_salvage.proofs.put_rows.Given as goal

abbrev pub invariant-loop-i : goal.invariant-loop-i
invariant-loop-i l = l.line.held ≤ 3 + 25 * l.i
