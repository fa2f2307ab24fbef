-- Decimal numbers below 2^64, from a word's bytes. Assumes nothing.
use Rattle.std.specs.Prelude.{List, [], ◌∷◌, ℕ, ◌+◌, ◌*◌, ◌-◌, ltb, Result, Ok, Err}
use Rattle.std.specs.Prelude.{if◌then◌else◌}
use Rattle.directory_text.specs.declared.number.NotNumber.{NotNumber}
use Rattle.directory_text.specs.declared.number.NotNumber.TheVariants.{NotDecimal, TooLarge}

-- 0 to 9 from '0' to '9', and 10 for a character that is no digit
unfoldable pub decimal_digit : ℕ → ℕ
decimal_digit b = if ltb b 48 then 10 else if ltb 57 b then 10 else b - 48

-- a number with a digit more
unfoldable pub digit_more : ℕ → ℕ → Result ℕ NotNumber
digit_more acc b =
    if ltb 9 (decimal_digit b)
    then Err NotDecimal
    else if ltb 18446744073709551615 (10 * acc + decimal_digit b)
    then Err TooLarge
    else Ok (10 * acc + decimal_digit b)

-- what comes of the number so far, if it is one
abbrev pub on_number : Result ℕ NotNumber → (ℕ → Result ℕ NotNumber) → Result ℕ NotNumber
on_number (Ok n) go = go n
on_number (Err e) go = Err e

-- a number whose first digits gave acc
unfoldable pub number_from : ℕ → List ℕ → Result ℕ NotNumber
number_from acc [] = Ok acc
number_from acc (b ∷ bs) = on_number (digit_more acc b) (λ n. number_from n bs)

-- a number has a digit
unfoldable pub word_number : List ℕ → Result ℕ NotNumber
word_number [] = Err NotDecimal
word_number (b ∷ bs) = number_from 0 (b ∷ bs)
