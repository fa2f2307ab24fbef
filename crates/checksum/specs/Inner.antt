-- What is carried past many bytes. Nothing here has to be believed: `Checksum` says what the public calls answer.
use Rattle.std.specs.Prelude.{List, ℕ, ◌+◌, ◌*◌, ◌^◌, length}
use Rattle.std.specs.Int.Bits.{bit_xor}
use Rattle.words.specs.Words.{little}
use Rattle.checksum.specs.Tables.{shifts}
use Rattle.checksum.specs.declared.long.Carried.{Carried}

-- the register behind some bytes, if a number is added to them first
unfoldable pub ahead : ℕ → List ℕ → ℕ
ahead n bs = shifts (8 * length bs) (bit_xor n (little bs))

-- what is carried to the words behind the next one, as one number
abbrev pub carried_behind : Carried → ℕ
carried_behind s = ((s.4 * 2 ^ 64 + s.3) * 2 ^ 64 + s.2) * 2 ^ 64 + s.1

-- the same with the next one
abbrev pub carried_number : Carried → ℕ
carried_number s = carried_behind s * 2 ^ 64 + s.0

-- a word where it stands instead, counted from the next one on: 145, 183, 211 and 300 places further than before
abbrev pub spread : ℕ → ℕ
spread w = bit_xor (bit_xor (w * 2 ^ 81) (w * 2 ^ 119)) (bit_xor (w * 2 ^ 147) (w * 2 ^ 236))
