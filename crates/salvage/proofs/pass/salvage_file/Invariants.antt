-- Each turn goes on by a window's length at most, and there are fewer than 2^40. Assumes nothing.
use Rattle.std.proofs.Common.{◌+◌, ◌*◌, ◌≤◌}
use Rattle.salvage.specs.Bounds.{Covering}
use Rattle.salvage.proofs.pass.salvage_file.Given as goal

abbrev pub invariant-loop-turn : goal.invariant-loop-turn
invariant-loop-turn g l = (Covering l.lines l.base) × (l.rest ≤ 2097152) × (l.base ≤ l._turn * 2097152)
