-- The reader's calls over words: what a step comes to as numbers (document 01, "The opening of a record": "A step answers with the action, the
-- place of its payload and the cursor after it, or a refusal.").
use Rattle.std.specs.Prelude.{◌≡◌, Bool, List, ℕ, length, Result, Ok, Err}
use Rattle.std.specs.Prelude.{if◌then◌else◌}
use Rattle.answer.specs.Answer.{number_of}
use Rattle.answer.specs.declared.answer.Answer.{Answer}
use Rattle.answer.specs.declared.answer.Answer.TheVariants.{BadState}
use Rattle.answer.specs.declared.answer.Refusal.{Refusal}
use Rattle.record.specs.Next.{refused, answer_of, next_of, step_of}
use Rattle.record.specs.Record.{tag_of}
use Rattle.record.specs.declared.action.LogAction.{LogAction}
use Rattle.record.specs.declared.action.LogAction.TheVariants.{BeginRecord, InsertIndex, InsertValue, InsertRefCount, EndRecord, DropTable, DropRefCountTable}
use Rattle.record.specs.declared.reader.Stepped.{Stepped}
use Rattle.replay.specs.Replay.{Replayed}
use Rattle.replay.specs.declared.many_records.Ran.{Ran}
use Rattle.salvaging.specs.declared.salvaged.Salvaged.{Salvaged}
use Rattle.host_words.specs.Tables.{directory_from}
use Rattle.host_words.specs.Head.{head_after}
use Rattle.host_words.specs.Reader.{reader_size, reader_formed, reader_from, reader_words}
use Rattle.edge_reading.specs.declared.reading.ActionNumbers.{ActionNumbers}

-- 0, or 13 for a state that breaks a rule
abbrev pub kept_number : Bool → ℕ
kept_number kept = if kept then 0 else 13

-- the table that an action names; 0 where it names none
abbrev pub row_words : LogAction → ℕ
row_words BeginRecord = 0
row_words (InsertIndex a) = a.table.0
row_words (InsertValue a) = a.table.0
row_words (InsertRefCount a) = a.table.0
row_words (DropTable t) = t.0
row_words (DropRefCountTable t) = t.0
row_words EndRecord = 0

-- the index
abbrev pub index_in : LogAction → ℕ
index_in BeginRecord = 0
index_in (InsertIndex a) = a.index
index_in (InsertValue a) = a.index
index_in (InsertRefCount a) = a.index
index_in (DropTable t) = 0
index_in (DropRefCountTable t) = 0
index_in EndRecord = 0

-- an action in numbers: its tag, its table and index, where its payload starts and how long it is, all 0 after a refusal; and where the fault
-- is, the position behind the action if there is none
abbrev pub action_numbers : Result Stepped Refusal → ActionNumbers
action_numbers (Ok s) =
    record { tag = tag_of s.action; table = row_words s.action; index = index_in s.action; start = s.start; length = s.length; fault = s.reader.position }
action_numbers (Err x) = record { tag = 0; table = 0; index = 0; start = 0; length = 0; fault = x.position }

-- the reader's words after a step: those of the reader behind the action, or as they were
abbrev pub reader_left : List ℕ → Result Stepped Refusal → List ℕ
reader_left w (Ok s) = head_after reader_size 0 w (reader_words s.reader)
reader_left w (Err x) = w

-- a step over words, at both doors: 13 where the reader's words are no reader, told at 0 since they hold no position
unfoldable pub next_in : List ℕ → List ℕ → List ℕ → Result Stepped Refusal
next_in tables log w = if reader_formed w then next_of (directory_from tables) log (reader_from w) else refused BadState 0

-- the same without the directory's test
unfoldable pub step_in : List ℕ → List ℕ → List ℕ → Result Stepped Refusal
step_in tables log w = if reader_formed w then step_of (directory_from tables) log (reader_from w) else refused BadState 0

-- what a step leaves: its answer's number, the reader's words from as they were to as they then are, the action in numbers
pub record StepLeft (s : Result Stepped Refusal) (w : List ℕ) (answer : ℕ) (after : List ℕ) (numbers : ActionNumbers) : Type 0 where
  pub number : answer ≡ answer_of s
  pub reader : after ≡ reader_left w s
  pub action : numbers ≡ action_numbers s

-- an action's numbers one by one
abbrev pub numbers_of : ℕ → ℕ → ℕ → ℕ → ℕ → ℕ → ActionNumbers
numbers_of tag table index start length fault =
    record { tag = tag; table = table; index = index; start = start; length = length; fault = fault }

-- what `replay` leaves beside the image: its answer's number, the position, where the fault is
pub record ReplayedLeft (d : Replayed) (answer end fault : ℕ) : Type 0 where
  pub number : answer ≡ number_of d.answer
  pub position : end ≡ d.position
  pub fault-at : fault ≡ d.fault_at

-- what `run` leaves: and how many records were replayed
pub record RanLeft (d : Ran) (answer end count fault : ℕ) : Type 0 where
  pub number : answer ≡ number_of d.answer
  pub position : end ≡ d.position
  pub records : count ≡ d.count
  pub fault-at : fault ≡ d.fault_at

-- what `salvage` leaves beside the two memories: how many lines, and how many bytes were written; none where it refuses
abbrev pub SalvagedLeft : Result Salvaged Answer → ℕ → ℕ → ℕ → Type 0
SalvagedLeft (Ok s) answer lines written = (answer ≡ 0) × (lines ≡ s.lines) × (written ≡ s.written)
SalvagedLeft (Err a) answer lines written = (answer ≡ number_of a) × (lines ≡ 0) × (written ≡ 0)
