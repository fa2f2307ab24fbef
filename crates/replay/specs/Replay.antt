-- A record replayed (document 01, "Replay": "A record is checked to its end before any table byte is written. Then actions apply as they
-- stand in the bytes"). Added: in parity-db the caller of log.rs does this.
use Rattle.std.specs.Prelude.{Bool, true, ◌&&◌, List, [], ◌∷◌, ℕ, zero, suc, eqb, length, take, drop, Result, Ok, Err}
use Rattle.std.specs.Prelude.{if◌then◌else◌}
use Rattle.directory.specs.Directory.{directory_kept, image_length}
use Rattle.directory.specs.declared.directory.Directory.{Directory}
use Rattle.record.specs.Next.{is_end, reader_at, step_of}
use Rattle.answer.specs.Answer.{refusal}
use Rattle.answer.specs.declared.answer.Answer.{Answer}
use Rattle.answer.specs.declared.answer.Answer.TheVariants.{Done, Cut, WrongId, BadState}
use Rattle.answer.specs.declared.answer.Refusal.{Refusal}
use Rattle.record.specs.declared.reader.LogReader.{LogReader}
use Rattle.record.specs.declared.reader.Stepped.{Stepped}
use Rattle.effect.specs.Effect.{Written, apply}
use Rattle.replay.specs.declared.whole.WholeRecord.{WholeRecord}

-- what a walk through a record comes to: the refusal that it met, or what it read and the position behind the record
pub data Walked (A : Type 0) : Type 0 where
  fault : Refusal → Walked A
  walked : A → (end : ℕ) → Walked A

-- an action that was read, with its payload's bytes
abbrev pub written_in : List ℕ → Stepped → Written
written_in log s = record { action = s.action; payload = take s.length (drop s.start log) }

-- one action in front of what is read behind it
abbrev pub add_first : Written → Walked (List Written) → Walked (List Written)
add_first w (fault x) = fault x
add_first w (walked ws end) = walked (w ∷ ws) end

-- after a step: the refusal; at the end tag the place behind it; else the action, and on from behind it
abbrev pub by_step : List ℕ → (LogReader → Walked (List Written)) → Result Stepped Refusal → Walked (List Written)
by_step log rest (Err x) = fault x
by_step log rest (Ok s) = if is_end s.action then walked [] s.reader.position else add_first (written_in log s) (rest s.reader)

-- the actions from inside a record to its end, in written order, and the place behind it; or the first fault. At most n steps
unfoldable pub rest_of : ℕ → Directory → List ℕ → LogReader → Walked (List Written)
rest_of zero d log r = fault (refusal Cut r.position)
rest_of (suc n) d log r = by_step log (rest_of n d log) (step_of d log r)

-- each action takes a byte or more, so no more steps are due than the log has bytes: the bound is never met (`enough`, proofs/Rest)
abbrev pub rest_in : Directory → List ℕ → LogReader → Walked (List Written)
rest_in d log r = rest_of (suc (length log)) d log r

-- "Expected id is tested, in replay only, right after the opening"; "For 5 that is the begin tag", where the record starts
abbrev pub by_opening : ℕ → ℕ → (LogReader → Walked (List Written)) → Result Stepped Refusal → Walked (List Written)
by_opening at expected rest (Err x) = fault x
by_opening at expected rest (Ok s) = if eqb s.reader.record_id expected then rest s.reader else fault (refusal WrongId at)  -- 5

-- a whole record: "then for reading 14, then faults in byte order"; "replay always validates"
unfoldable pub record_at : Directory → List ℕ → ℕ → ℕ → Walked (List Written)
record_at d log at expected = by_opening at expected (rest_in d log) (step_of d log (reader_at at true))

-- 13: the directory's rules, "or image length differs"
unfoldable pub tables_kept : Directory → List ℕ → Bool
tables_kept d image = directory_kept d && eqb (length image) (image_length d)

-- the record that `replay` is asked for, behind 13: "for 13 and 14 the position handed in"
unfoldable pub judged : Directory → List ℕ → ℕ → ℕ → List ℕ → Walked (List Written)
judged d log at expected image = if tables_kept d image then record_at d log at expected else fault (refusal BadState at)

-- what `replay` answers: where the record ends, or the refusal
abbrev pub end_in : Walked (List Written) → Result ℕ Refusal
end_in (fault x) = Err x
end_in (walked ws end) = Ok end

-- such an answer by its parts: the number's case, a position, and where the fault is
pub record Replayed : Type 0 where
  pub answer : Answer
  pub position : ℕ
  pub fault_at : ℕ

-- beside 0 the position behind the record, twice; beside a refusal the one handed in, and the fault's
abbrev pub replayed_by : ℕ → Result ℕ Refusal → Replayed
replayed_by at (Err x) = record { answer = x.answer; position = at; fault_at = x.position }
replayed_by at (Ok end) = record { answer = Done; position = end; fault_at = end }

-- the same of a walk
abbrev pub replayed_as : ℕ → Walked (List Written) → Replayed
replayed_as at g = replayed_by at (end_in g)

-- and the image: the record's effect, or as it was
abbrev pub image_after : Directory → List ℕ → Walked (List Written) → List ℕ
image_after d image (fault x) = image
image_after d image (walked ws end) = apply d ws image

-- what `check_record_in` answers, whatever the record's id: the reader behind its opening, and the place behind its end
abbrev pub whole_by : LogReader → Walked (List Written) → Result WholeRecord Refusal
whole_by r (fault x) = Err x
whole_by r (walked ws end) = Ok (record { opened = r; end = end })

-- the same from the step at its opening on
abbrev pub whole_of : (LogReader → Walked (List Written)) → Result Stepped Refusal → Result WholeRecord Refusal
whole_of rest (Err x) = Err x
whole_of rest (Ok s) = whole_by s.reader (rest s.reader)
