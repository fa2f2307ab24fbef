-- What each turn keeps.
use Rattle.std.proofs.Common.{◌≡◌, ◌-◌, length, drop}
use Rattle.numbers.specs.Numbers.{ascends}
use Rattle.keys.specs.Keys.{keys_of}
use Rattle.keys.proofs.ordered.ascending.Given as goal

abbrev pub invariant-loop-j : goal.invariant-loop-j
invariant-loop-j l = ascends (keys_of l.rows l.order (length l.order)) ≡ ascends (drop (l.j - 1) (keys_of l.rows l.order (length l.order)))
