-- No more is held than the buffer has. Assumes nothing.
use Rattle.std.proofs.Common.{length, ◌-◌, ◌≤◌, ◌≡◌}
use Rattle.log_input.proofs.window.fill.Given as goal

abbrev pub invariant-loop-held : goal.invariant-loop-held
invariant-loop-held g l = (length l.buffer ≡ length l.fn.buffer) × (l.held ≤ length l.buffer)

abbrev pub decreases-loop-held : goal.decreases-loop-held
decreases-loop-held g l = length l.buffer - l.held
