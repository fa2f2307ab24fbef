-- What is left of the window fits into it. Assumes nothing.
use Rattle.std.proofs.Common.{◌≤◌}
use Rattle.log_input.proofs.window.replay_file.Given as goal

abbrev pub invariant-loop : goal.invariant-loop
invariant-loop g l = l.left.rest ≤ 2097152
