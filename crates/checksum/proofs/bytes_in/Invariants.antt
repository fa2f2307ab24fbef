-- What each turn keeps: the bytes left bring the register where all of them bring it.
use mathlib.Core.Path.{◌≡◌}
use Prim.Native.Nat.{◌*◌, ◌<◌}
use lib.ListN.{drop}
use Rattle.checksum.specs.Checksum.{updated}
use Rattle.checksum.proofs.bytes_in.Given as goal

abbrev pub invariant-loop-word : goal.invariant-loop-word
invariant-loop-word l = record {
  small : l.r < 4294967296;
  left : updated l.r (drop (l.word-index * 8) l.bytes) ≡ updated l.register l.bytes;
}

abbrev pub invariant-loop-b : goal.invariant-loop-b
invariant-loop-b l = updated l.r (drop l.b-index l.rest) ≡ updated l.register l.bytes
