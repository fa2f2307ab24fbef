-- What each turn keeps.
use mathlib.Core.Path.{◌≡◌}
use Prim.Native.Nat.{◌+◌}
use lib.ListN.{length, take, drop}
use Rattle.output.specs.Put.{put, Wrote, joined}
use Rattle.writer.specs.Bytes.{drop_bytes, drops_bytes}
use Rattle.writer.proofs.drops.put_drops.Given as goal

abbrev pub invariant-loop-table : goal.invariant-loop-table
invariant-loop-table l = record {
  long : length l.out ≡ length l.initial.out;
  left : Wrote l.out l.o (joined (drop_bytes l.fn.tag.0) (drop l.table-index (take l.fn.s.count l.fn.s.tables))) (put l.initial.out l.fn.at (drops_bytes l.fn.tag.0 l.fn.s)) (l.fn.at + length (drops_bytes l.fn.tag.0 l.fn.s));
}
