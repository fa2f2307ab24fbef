-- What the heads of all states have in common: a bool as a word, and when a head is stored.
use Rattle.std.specs.Prelude.{◌≡◌, Bool, ◌&&◌, List, ℕ, ltb, eqb, length}
use Rattle.answer.specs.Answer.{number_of}
use Rattle.answer.specs.declared.answer.Answer.{Answer}
use Rattle.answer.specs.declared.answer.Answer.TheVariants.{Done, BadState}
use Rattle.std.specs.Prelude.{if◌then◌else◌}

-- a word as a bool; any but 0 and 1 is out of range
abbrev pub flag_from : ℕ → Bool
flag_from x = eqb x 1

-- a head of n words is stored after a call that answered 0, or 1, with which `read_next` moves a file on; any other refusal leaves the words as
-- they were
unfoldable pub head_stored : ℕ → ℕ → List ℕ → Bool
head_stored n number w = eqb (length w) n && ltb number 2

-- the words of a head of n words after a call that answered a number and left a state
abbrev pub head_after : ℕ → ℕ → List ℕ → List ℕ → List ℕ
head_after n number w new = if head_stored n number w then new else w

-- what a call that answered leaves of a head of n words: its answer's number, and the words from as they were to as they then are
abbrev pub HeadLeft : ℕ → Answer → List ℕ → List ℕ → ℕ → List ℕ → Type 0
HeadLeft n answer new w number after = (number ≡ number_of answer) × (after ≡ head_after n (number_of answer) w new)

-- what the making of a head of n words answers: 13 where there are more or fewer
unfoldable pub head_room : ℕ → List ℕ → Answer
head_room n w = if eqb (length w) n then Done else BadState
