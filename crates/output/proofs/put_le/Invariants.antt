-- What each turn keeps.
use Rattle.std.proofs.Common.{◌+◌, ◌-◌, length}
use Rattle.output.specs.Put.{put, Wrote, le}
use Rattle.output.proofs.put_le.Given as goal

abbrev pub invariant-loop-o : goal.invariant-loop-o
invariant-loop-o l = Wrote l.out l.o (le (l.at + l.n - l.o) l.v) (put l.initial.out l.at (le l.n l.x)) (l.at + length (le l.n l.x))
