-- What the calls of a change list leave of what they hand back: numbers, the list's words, its keys and bytes in the two memories.
use Rattle.std.specs.Prelude.{◌≡◌, List, ℕ, Result, Ok, Err}
use Rattle.answer.specs.Answer.{number_of, answer_in}
use Rattle.answer.specs.declared.answer.Answer.{Answer}
use Rattle.memory.specs.Parts.{parts_of}
use Rattle.memory.specs.declared.span.Holder.TheVariants as holder
use Rattle.change.specs.Insert.{Made}
use Rattle.change.specs.declared.values.LocalValues.{LocalValues}
use Rattle.host_words.specs.Head.{HeadLeft}
use Rattle.host_words.specs.Change.{list_size, list_words_of, counts_in, head_of}

-- a drop: its answer's number, and the list's words from as they were to as they then are
pub record DropLeft (m : Made) (w : List ℕ) (answer : ℕ) (after : List ℕ) : Type 0 where
  pub list : HeadLeft list_size m.answer (list_words_of (head_of m.change)) w answer after

-- an insert: and the two memories as they then are
pub record InsertLeft (m : Made) (w : List ℕ) (answer : ℕ) (after items chunks : List ℕ) : Type 0 where
  pub list : HeadLeft list_size m.answer (list_words_of (head_of m.change)) w answer after
  pub memories : parts_of holder.List (counts_in m.change.parts) items chunks ≡ m.change.parts

-- a length that is told: 0 where it was refused
abbrev pub size_in : Result ℕ Answer → ℕ
size_in (Ok n) = n
size_in (Err a) = 0

-- a record's length: its answer's number, and the length
pub record SizeLeft (d : Result ℕ Answer) (answer size : ℕ) : Type 0 where
  pub number : answer ≡ number_of (answer_in d)
  pub long : size ≡ size_in d

-- places that are told: 0 and 0 where they were refused
abbrev pub values_in : Result LocalValues Answer → LocalValues
values_in (Ok v) = v
values_in (Err a) = record { from = 0; to = 0 }

-- the places of a table's values: its answer's number, from where to where
pub record ValuesLeft (d : Result LocalValues Answer) (answer from to : ℕ) : Type 0 where
  pub number : answer ≡ number_of (answer_in d)
  pub first : from ≡ (values_in d).from
  pub end : to ≡ (values_in d).to
