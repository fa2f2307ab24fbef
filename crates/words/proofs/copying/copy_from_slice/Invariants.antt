-- What each turn keeps.
use mathlib.Core.Path.{◌≡◌}
use lib.ListN.{length}
use lib.Seq.{paste}
use Rattle.words.proofs.copying.copy_from_slice.Given as goal

abbrev pub invariant-loop-i : goal.invariant-loop-i
invariant-loop-i g l = (length l.to ≡ length l.initial.to) × (l.to ≡ paste l.initial.to 0 l.from l.i)
