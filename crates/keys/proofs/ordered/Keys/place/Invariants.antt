-- What each turn keeps.
use Rattle.std.proofs.Common.{◌+◌, ◌≤◌, length}
use Rattle.numbers.specs.Numbers.{spot}
use Rattle.keys.specs.Keys.{rank_of}
use Rattle.keys.specs.Lent.{keys_in}
use Rattle.keys.proofs.Turns.{Within}
use Rattle.keys.proofs.ordered.Keys.place.Given as goal

abbrev pub invariant-loop-left : goal.invariant-loop-left
invariant-loop-left l = (l.low + l.left ≤ length l.self.order.now) × Within (spot (rank_of l.key) (keys_in l.self)) l.low l.left

abbrev pub decreases-loop-left : goal.decreases-loop-left
decreases-loop-left l = l.left
