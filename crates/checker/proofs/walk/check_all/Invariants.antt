-- What each turn keeps: it stands in the bytes, and the check from there is the check from the start.
use mathlib.Core.Path.{◌≡◌}
use lib.ListN.{length}
use Prim.Native.Nat.{◌-◌}
use Rattle.checker.specs.Check.{check_in}
use Rattle.checker.specs.Inner.{Stands}
use Rattle.checker.proofs.walk.check_all.Given as goal

abbrev pub invariant-loop-next : goal.invariant-loop-next
invariant-loop-next l = Stands l.log l.base l.cur × (check_in l.d l.log l.base l.cur ≡ check_in l.d l.log l.base l.initial.cur)

abbrev pub decreases-loop-next : goal.decreases-loop-next
decreases-loop-next l = length l.log - l.cur.reader.position
