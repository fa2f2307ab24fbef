-- What each turn keeps.
use mathlib.Core.Path.{◌≡◌}
use Prim.Native.Nat.{◌+◌}
use lib.ListN.{length, drop}
use Rattle.memory.specs.Parts.{of_kind}
use Rattle.change.specs.Change.{places_of}
use Rattle.change.specs.Ruled.{list_of}
use Rattle.output.specs.Put.{put, Wrote, joined}
use Rattle.writer.specs.Bytes.{entry_bytes_at, entries}
use Rattle.writer.proofs.kinds.put_kind.Given as goal

abbrev pub invariant-loop-place : goal.invariant-loop-place
invariant-loop-place l = record {
  long : length l.out ≡ length l.initial.out;
  left : Wrote l.out l.o (joined (entry_bytes_at l.fn.kind (of_kind l.fn.kind (list_of l.fn.lent).parts)) (drop l.place-index (places_of (of_kind l.fn.kind (list_of l.fn.lent).parts))))
      (put l.initial.out l.fn.at (entries l.fn.kind (of_kind l.fn.kind (list_of l.fn.lent).parts))) (l.fn.at + length (entries l.fn.kind (of_kind l.fn.kind (list_of l.fn.lent).parts)));
}
