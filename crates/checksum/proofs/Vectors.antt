-- Two values of the definition, by computing; the program `vectors` compares more of them. Assumes nothing.
use mathlib.Core.Path.{◌≡◌, refl}
use mathlib.Core.List.{[], ◌∷◌}
use Rattle.checksum.specs.Checksum.{shift, bits_in_of, updated, finished, checksum_of}

-- the check value of CRC-32, of "123456789": 0xCBF43926
pub check_value : checksum_of (49 ∷ 50 ∷ 51 ∷ 52 ∷ 53 ∷ 54 ∷ 55 ∷ 56 ∷ 57 ∷ []) ≡ 3421780262
unfolding checksum_of finished updated bits_in_of shift
check_value = refl

-- the one byte 04, which an end tag at an opening is compared with: 0xD56F2B94
pub end-tag : checksum_of (4 ∷ []) ≡ 3580832660
unfolding checksum_of finished updated bits_in_of shift
end-tag = refl
