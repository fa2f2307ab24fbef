-- What each turn keeps.
use Rattle.std.proofs.Common.{◌≡◌, ◌<◌, drop}
use Rattle.found.specs.Names.{decimal_from}
use Rattle.found.proofs.name.decimal.Given as goal

abbrev pub invariant-loop-b : goal.invariant-loop-b
invariant-loop-b l = (l.n < 4294967296) × (decimal_from l.n (drop l.b-index l.digits) ≡ decimal_from 0 l.digits)
