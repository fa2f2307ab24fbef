-- `checksum::word_in` meets its contract: the two halves apart. Assumes nothing.
use mathlib.Core.Path.{sym, ap₂, ◌∙◌}
use lib.Bits.{bit_xor}
use Rattle.checksum.proofs.Register.{shifts-parts}
use Rattle.checksum.proofs.word_in.Goals as goal

pub returns : goal.returns
returns c = ap₂ bit_xor c.by_nibbles.ensures c.by_nibbles-2.ensures ∙ sym (shifts-parts 32 32 _)
