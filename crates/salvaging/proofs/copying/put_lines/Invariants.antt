-- What each turn keeps: the lines from here on are left to write.
use Prim.Native.Nat.{◌+◌, ◌*◌}
use lib.ListN.{length, drop}
use Rattle.output.specs.Put.{put, Wrote}
use Rattle.salvaging.specs.Salvage.{words_of_lines}
use Rattle.salvaging.proofs.copying.put_lines.Given as goal

abbrev pub invariant-loop-i : goal.invariant-loop-i
invariant-loop-i l = Wrote l.list (4 * l.i) (words_of_lines (drop l.i l.lines)) (put l.initial.list 0 (words_of_lines l.lines)) (0 + length (words_of_lines l.lines))
