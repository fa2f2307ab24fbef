-- What each turn keeps.
use Prim.Native.Nat.{◌-◌}
use Rattle.checksum.proofs.Looked.{Looking}
use Rattle.checksum.proofs.by_nibbles.Given as goal

-- the digits left and what the others came to make the number
abbrev pub invariant-loop-part : goal.invariant-loop-part
invariant-loop-part l = Looking 4 8 l.base l.number l.r l.x (l.part - l.base)
