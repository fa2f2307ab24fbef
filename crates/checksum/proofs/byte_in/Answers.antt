-- `checksum::byte_in` meets its contract: the byte's effect is looked up by its two digits. Assumes nothing.
use mathlib.Core.Path.{sym, ap, ◌∙◌}
use Prim.Native.Nat.{◌/◌, ◌%◌}
use native.Mathlib.Omega.{arith}
use lib.Bits.{bit_xor}
use borrow.Author.Rules.{rules}
use Rattle.checksum.proofs.Looked.{look_byte}
use Rattle.checksum.proofs.Register.{byte_in}
use Rattle.checksum.proofs.byte_in.Goals as goal

pub returns : goal.returns
returns c =
    let a = c.args in
    rw c.from.ensures (ap (bit_xor (a.r / 256)) (look_byte a.t.now c.requires (bit_xor a.r a.b % 256) (omega arith)) ∙ sym (byte_in a.r a.b (search rules)))
