-- The loop's invariant: how much of the line the pairs put so far take at most.
use Rattle.std.proofs.Common.{◌≤◌, ◌+◌, ◌*◌}
use Rattle.compare_queues.proofs.state.put_replay.Given as goal

abbrev pub invariant-loop-i : goal.invariant-loop-i
invariant-loop-i l = l.line.held ≤ l.fn.line.held + 2 + 12 * l.i
