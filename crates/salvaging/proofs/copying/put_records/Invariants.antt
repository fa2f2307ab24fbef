-- What each turn keeps: the records of the lines from here on are left to write.
use Prim.Native.Nat.{◌+◌}
use lib.ListN.{length, drop}
use Rattle.output.specs.Put.{put, Wrote}
use Rattle.salvaging.specs.Salvage.{kept_bytes}
use Rattle.salvaging.specs.Inner.{AllWithin}
use Rattle.salvaging.proofs.copying.put_records.Given as goal

abbrev pub invariant-loop-line : goal.invariant-loop-line
invariant-loop-line l = record {
  within : AllWithin (length l.log) (drop l.line-index l.lines);
  left : Wrote l.out l.at (kept_bytes l.log (drop l.line-index l.lines)) (put l.initial.out 0 (kept_bytes l.log l.lines)) (0 + length (kept_bytes l.log l.lines));
}
