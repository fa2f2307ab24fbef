-- A line of a directory's text: a word for the kind, then numbers. Assumes nothing.
use Rattle.std.specs.Prelude.{List, [], ◌∷◌, ℕ, ltb, Option, Some, None, Result, Ok, Err}
use Rattle.std.specs.Prelude.{if◌then◌else◌}
use Rattle.directory.specs.Table.{description}
use Rattle.directory.specs.declared.table.TableKind.{TableKind}
use Rattle.directory.specs.declared.table.TableKind.TheVariants.{Index, Value, RefCount}
use Rattle.directory.specs.declared.table.TableDescription.{TableDescription}
use Rattle.directory_text.specs.Scan.{is_blank, is_before, front, behind, word_of, behind_word, is_none, same_bytes}
use Rattle.directory_text.specs.Number.{word_number}
use Rattle.directory_text.specs.declared.number.NotNumber.{NotNumber}
use Rattle.directory_text.specs.declared.number.NotNumber.TheVariants as number
use Rattle.directory_text.specs.declared.fault.Fault.{Fault}
use Rattle.directory_text.specs.declared.fault.Fault.TheVariants as fault

-- a number of at most so much with what stands behind it, or what is wrong with it; `which` is its place in the line
unfoldable pub fitted : ℕ → ℕ → Result ℕ NotNumber → List ℕ → Result (ℕ × List ℕ) Fault
fitted which most (Ok n) rest = if ltb most n then Err (fault.TooLarge which) else Ok (n, rest)
fitted which most (Err number.NotDecimal) rest = Err (fault.NotDecimal which)
fitted which most (Err number.TooLarge) rest = Err (fault.TooLarge which)

-- the next word as a number, and what stands behind it
unfoldable pub number_in : ℕ → ℕ → List ℕ → Result (ℕ × List ℕ) Fault
number_in which most bs =
    if is_none (word_of bs)
    then Err (fault.Missing which)
    else fitted which most (word_number (word_of bs)) (behind_word bs)

-- a value's length; tables of the other kinds have none
unfoldable pub length_in : TableKind → List ℕ → Result (ℕ × List ℕ) Fault
length_in Index bs = Ok (0, bs)
length_in Value bs = number_in 4 65535 bs
length_in RefCount bs = Ok (0, bs)

-- what comes of a number that was read and of what stands behind it
abbrev pub then_on : {A : Type 0} → Result (ℕ × List ℕ) Fault → (ℕ → List ℕ → Result A Fault) → Result A Fault
then_on (Ok (n, rest)) go = go n rest
then_on (Err f) go = Err f

-- what stands behind the kind: the table's number, its column, its count, and a value's length
unfoldable pub table_in : TableKind → List ℕ → Result TableDescription Fault
table_in kind bs =
    then_on (number_in 1 65535 bs) (λ n bs₁.
    then_on (number_in 2 255 bs₁) (λ column bs₂.
    then_on (number_in 3 65535 bs₂) (λ count bs₃.
    then_on (length_in kind bs₃) (λ size bs₄.
    if is_none (behind is_blank bs₄)
    then Ok (description kind n column count size)
    else Err fault.MoreWords))))

-- the kind that a word names: index, value or refcount
unfoldable pub kind_of : List ℕ → Option TableKind
kind_of word =
    if same_bytes word (105 ∷ 110 ∷ 100 ∷ 101 ∷ 120 ∷ [])
    then Some Index
    else if same_bytes word (118 ∷ 97 ∷ 108 ∷ 117 ∷ 101 ∷ [])
    then Some Value
    else if same_bytes word (114 ∷ 101 ∷ 102 ∷ 99 ∷ 111 ∷ 117 ∷ 110 ∷ 116 ∷ [])
    then Some RefCount
    else None

-- a table's line
abbrev pub of_table : Result TableDescription Fault → Result (Option TableDescription) Fault
of_table (Ok t) = Ok (Some t)
of_table (Err f) = Err f

-- a line by its kind, and what stands behind the kind's word
abbrev pub of_kind : Option TableKind → List ℕ → Result (Option TableDescription) Fault
of_kind None bs = Err fault.UnknownKind
of_kind (Some kind) bs = of_table (table_in kind bs)

-- a line without its comment; one of blanks alone has no table
unfoldable pub code_in : List ℕ → Result (Option TableDescription) Fault
code_in bs = if is_none (word_of bs) then Ok None else of_kind (kind_of (word_of bs)) (behind_word bs)

-- the character # starts a comment
unfoldable pub line_in : List ℕ → Result (Option TableDescription) Fault
line_in bs = code_in (front (is_before 35) bs)
