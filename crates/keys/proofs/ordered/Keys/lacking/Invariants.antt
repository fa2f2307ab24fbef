-- What each turn keeps.
use Rattle.std.proofs.Common.{◌≡◌, ◌+◌, ◌-◌, ◌≤◌, length, drop}
use Rattle.keys.specs.Keys.{news}
use Rattle.keys.specs.Lent.{keys_in}
use Rattle.keys.proofs.ordered.Keys.lacking.Given as goal

abbrev pub invariant-loop-j : goal.invariant-loop-j
invariant-loop-j l = record {
  bound : l.lacking ≤ l.j;
  rest : news (keys_in l.self) (keys_in l.listed) ≡ l.lacking + news (drop l.i (keys_in l.self)) (drop l.j (keys_in l.listed));
}

abbrev pub invariant-loop-i : goal.invariant-loop-i
invariant-loop-i l = news (keys_in l.self) (keys_in l.listed) ≡ l.lacking + news (drop l.i (keys_in l.self)) (drop l.j (keys_in l.listed))

abbrev pub decreases-loop-i : goal.decreases-loop-i
decreases-loop-i l = length l.self.order.now - l.i
