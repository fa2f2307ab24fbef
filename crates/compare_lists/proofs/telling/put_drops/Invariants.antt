-- The loop's invariant: how much of the line the drops put so far take at most.
use Rattle.std.proofs.Common.{◌≤◌, ◌+◌, ◌*◌}
use Rattle.compare_lists.proofs.telling.put_drops.Given as goal

abbrev pub invariant-loop-table : goal.invariant-loop-table
invariant-loop-table l = l.line.held ≤ l.fn.line.held + 2 + 4 * l.table-index
