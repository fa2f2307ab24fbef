-- The loop's invariant: how much of the line what stands before and the ids put so far take at most.
use Rattle.std.proofs.Common.{◌≤◌, ◌+◌, ◌*◌}
use Rattle.compare_log.proofs.state.state.Given as goal

abbrev pub invariant-loop-id : goal.invariant-loop-id
invariant-loop-id l = l.line.held ≤ 3783 + 8 * l.id-index
