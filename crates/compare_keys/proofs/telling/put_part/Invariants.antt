-- The loop's invariant: how much of the line the keys put so far take at most.
use Rattle.std.proofs.Common.{◌≤◌, ◌+◌, ◌*◌}
use Rattle.compare_keys.proofs.telling.put_part.Given as goal

abbrev pub invariant-loop-place : goal.invariant-loop-place
invariant-loop-place l = l.line.held ≤ l.fn.line.held + 2 + 30 * l.place-index
