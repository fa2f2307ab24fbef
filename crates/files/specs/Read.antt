-- `read_next` (document 01, "File numbers"; log.rs 1038-1063).
use Rattle.std.specs.Prelude.{ℕ, Bool, List, eqb, Result, Ok, Err}
use Rattle.std.specs.Prelude.{if◌then◌else◌}
use Rattle.answer.specs.Answer.{number_of}
use Rattle.record.specs.Next.{reader_at, opening_of}
use Rattle.answer.specs.declared.answer.Answer.{Answer}
use Rattle.answer.specs.declared.answer.Answer.TheVariants.{Done, EndOfLog, BadState}
use Rattle.record.specs.declared.reader.LogReader.{LogReader}
use Rattle.files.specs.Queues.{queues_kept}
use Rattle.files.specs.Moves.{reading_cleaned, front_read}
use Rattle.files.specs.declared.queues.Queues.{Queues}
use Rattle.files.specs.declared.read.ReadNext.{ReadNext}
use Rattle.record.specs.declared.reader.Stepped.{Stepped}
use Rattle.answer.specs.declared.answer.Refusal.{Refusal}

-- the file being read, or the read queue's front, is the one being read
unfoldable pub now_reading : Queues → Queues
now_reading q = if q.reading.some then q else front_read q

-- nothing opened
abbrev pub not_read : Answer → LogReader → Queues → ReadNext
not_read answer reader q = record { answer = answer; number = 0; reader = reader; queues = q }

-- "0 makes that the one being read, 1 sends the file to cleanup, other answers move nothing (the Rust moves the front: a listed difference)"
unfoldable pub read_by : Queues → LogReader → Result Stepped Refusal → ReadNext
read_by q reader (Ok s) = record { answer = Done; number = (now_reading q).reading.id; reader = s.reader; queues = now_reading q }
read_by q reader (Err f) = not_read f.answer reader (if eqb (number_of f.answer) 1 then reading_cleaned (now_reading q) else q)

-- "at the host's position in the file being read, or else at 0 of the read queue's front"; "No file gives 1."
-- Where nothing is opened, the reader stands at the host's position
unfoldable pub read_next_kept : Queues → List ℕ → ℕ → Bool → ReadNext
read_next_kept q log position validate =
    if q.reading.some then read_by q (reader_at position validate) (opening_of log (reader_at position validate)) else
    if eqb q.read_queue.count 0 then not_read EndOfLog (reader_at position validate) q else
    read_by q (reader_at position validate) (opening_of log (reader_at 0 validate))

-- behind 13
unfoldable pub read_next : Queues → List ℕ → ℕ → Bool → ReadNext
read_next q log position validate =
    if queues_kept q then read_next_kept q log position validate else not_read BadState (reader_at position validate) q
