-- The names that open takes (document 01: "Open takes names "log" plus a decimal number below 2^32 without plus sign or leading zero ("log0"
-- stands). .. Other names are ignored."; log.rs 736-737).
use Rattle.std.specs.Prelude.{ℕ, ◌+◌, ◌-◌, ◌*◌, Bool, true, ◌&&◌, ◌||◌, not, List, [], ◌∷◌, map, get_or, take, drop, length, ltb, eqb, leb, Option, Some, None}
use Rattle.std.specs.Prelude.{if◌then◌else◌}

-- "log", and at least one byte behind it
unfoldable pub begins_log : List ℕ → Bool
begins_log name = ltb 3 (length name) && (eqb (get_or name 0 0) 108 && (eqb (get_or name 1 0) 111 && eqb (get_or name 2 0) 103))

-- a decimal digit
abbrev pub is_digit : ℕ → Bool
is_digit b = leb 48 b && leb b 57

-- digits alone
abbrev pub all_digits : List ℕ → Bool
all_digits [] = true
all_digits (b ∷ l) = is_digit b && all_digits l

-- the decimal number that the digits make, behind those that made n
abbrev pub value_from : ℕ → List ℕ → ℕ
value_from n [] = n
value_from n (b ∷ l) = value_from (10 * n + (b - 48)) l

-- "without .. leading zero ("log0" stands)"
abbrev pub no_leading_zero : List ℕ → Bool
no_leading_zero l = eqb (length l) 1 || not (eqb (get_or l 0 0) 48)

-- "a decimal number below 2^32": digits alone, so no sign and no blank
unfoldable pub decimal_from : ℕ → List ℕ → Option ℕ
decimal_from n l = if all_digits l && ltb (value_from n l) 4294967296 then Some (value_from n l) else None

-- what a name says: the number of a log file, or that it is none
unfoldable pub log_name : List ℕ → Option ℕ
log_name name = if begins_log name && no_leading_zero (drop 3 name) then decimal_from 0 (drop 3 name) else None

-- the names found: the bytes of all of them, cut by their lengths
abbrev pub cut : List ℕ → List ℕ → List (List ℕ)
cut bytes [] = []
cut bytes (n ∷ ns) = take n bytes ∷ cut (drop n bytes) ns

-- what each of them says
unfoldable pub said_by : List ℕ → List ℕ → List (Option ℕ)
said_by bytes lengths = map log_name (cut bytes lengths)

-- a digit's value; no other byte has one
unfoldable pub digit_of : ℕ → Option ℕ
digit_of b = if is_digit b then Some (b - 48) else None
