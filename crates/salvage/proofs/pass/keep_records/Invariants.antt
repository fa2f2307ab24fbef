-- The lines cover no more than was gone through. Assumes nothing.
use Rattle.std.proofs.Common.{◌+◌, ◌-◌, ◌≤◌, length}
use Rattle.salvage.specs.Bounds.{Covering}
use Rattle.salvage.proofs.pass.keep_records.Given as goal

abbrev pub invariant-loop-lines : goal.invariant-loop-lines
invariant-loop-lines g l = (Covering l.lines (l.fn.base + l.at)) × (l.at ≤ length l.fn.bytes)

abbrev pub decreases-loop-lines : goal.decreases-loop-lines
decreases-loop-lines g l = length l.fn.bytes - l.at
