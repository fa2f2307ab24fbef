-- What each turn keeps.
use Rattle.std.proofs.Common.{◌≡◌}
use Rattle.keys.specs.Keys.{rename_all}
use Rattle.keys.proofs.Gap.{rename_from}
use Rattle.keys.proofs.shift.rename.Given as goal

abbrev pub invariant-loop-i : goal.invariant-loop-i
invariant-loop-i l = rename_from l.i l.n l.from l.to l.order ≡ rename_all l.n l.from l.to l.initial.order
