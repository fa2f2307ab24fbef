-- What each turn keeps.
use Rattle.std.proofs.Common.{◌≡◌, ◌+◌, take}
use Rattle.found.specs.Logs.{total}
use Rattle.found.proofs.files.make_up.Given as goal

abbrev pub invariant-loop-n : goal.invariant-loop-n
invariant-loop-n l = l.left + total (take l.n-index l.name_lengths) ≡ l.bytes
