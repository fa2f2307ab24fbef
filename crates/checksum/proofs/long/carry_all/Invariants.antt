-- What each turn keeps.
use mathlib.Core.Path.{◌≡◌}
use Prim.Native.Nat.{◌*◌}
use lib.ListN.{drop}
use Rattle.checksum.specs.Checksum.{updated}
use Rattle.checksum.specs.Inner.{ahead, carried_number}
use Rattle.checksum.proofs.long.carry_all.Given as goal

-- the bytes left, with what is carried to them, bring the register where all of them bring it
abbrev pub invariant-loop-word : goal.invariant-loop-word
invariant-loop-word l = ahead (carried_number l.s) (drop (l.word-index * 8) l.bytes) ≡ updated l.register l.bytes
