-- The loop's invariant: as many files are held as were taken.
use Rattle.std.proofs.Common.{◌≡◌}
use Rattle.compare_queues.proofs.opening.take_files.Given as goal

abbrev pub invariant-loop-i : goal.invariant-loop-i
invariant-loop-i l = l.found.count ≡ l._i
