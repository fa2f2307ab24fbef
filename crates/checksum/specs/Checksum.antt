-- The checksum of a record: the 32-bit frame check sequence of ITU-T V.42, 8.1.1.6.2, as the register that divides by the polynomial.
-- Document 01: "The checksum covers every byte from tag 1 up to and including tag 4, not itself: polynomial 0x04C11DB7 taken low bit
-- first (0xEDB88320), start all ones, result inverted."
-- It stands for crc32fast::Hasher in log.rs: `new` (lines 232, 247, 381) is `all_ones`, `update` (256, 336, 386) is `updated`,
-- `finalize` (302, 444) is `finished`. Assumes nothing.
use Rattle.std.specs.Prelude.{List, [], ◌∷◌, ℕ, zero, suc, ◌-◌, ◌*◌, ◌/◌, ◌%◌}
use Rattle.std.specs.Int.Bits.{bit_xor}

-- the generator polynomial
-- x^32 + x^26 + x^23 + x^22 + x^16 + x^12 + x^11 + x^10 + x^8 + x^7 + x^5 + x^4 + x^2 + x + 1
-- without its x^32: 0x04C11DB7 with x^0 in the lowest bit, and 0xEDB88320 with x^31 there, as the register has it
abbrev pub poly : ℕ
poly = 3988292384

-- 2^32 - 1: what the register is preset to, 32 ones
abbrev pub all_ones : ℕ
all_ones = 4294967295

-- a step of the division, modulo 2: the remainder moves one place, and where the bit that falls out is 1 the polynomial is added
unfoldable pub shift : ℕ → ℕ
shift r = bit_xor (r / 2) (r % 2 * poly)

-- n bits of b into the register, the low-order bit first, as V.42 sends them: each is added to the bit that is to fall out
unfoldable pub bits_in_of : ℕ → ℕ → ℕ → ℕ
bits_in_of zero r b = r
bits_in_of (suc n) r b = bits_in_of n (shift (bit_xor r (b % 2))) (b / 2)

-- the register after the bytes: what was in it, modified by division of all of their bits
unfoldable pub updated : ℕ → List ℕ → ℕ
updated r [] = r
updated r (b ∷ bs) = updated (bits_in_of 8 r b) bs

-- the ones complement of the remainder that results
unfoldable pub finished : ℕ → ℕ
finished r = all_ones - r

-- the checksum of a string of bytes: preset, divided, inverted
unfoldable pub checksum_of : List ℕ → ℕ
checksum_of bs = finished (updated all_ones bs)
