-- A check of a log's bytes: the run's walk without an image (document 02, "One. Check a log off the card": "applies nothing, and at the close
-- reports the answer, position and record count that a run over the joined bytes would report"). Added.
use Rattle.std.specs.Prelude.{ℕ, zero, suc, ◌+◌, Bool, true, ◌&&◌, ◌||◌, List, eqb, leb, ltb, length, Result, Ok, Err, Option, Some, None}
use Rattle.std.specs.Prelude.{if◌then◌else◌}
use Rattle.answer.specs.Answer.{number_of, last_record_id}
use Rattle.answer.specs.declared.answer.Answer.{Answer}
use Rattle.answer.specs.declared.answer.Answer.TheVariants.{WrongId, UsedUp}
use Rattle.directory.specs.declared.directory.Directory.{Directory}
use Rattle.record.specs.Next.{is_end, reader_at, step_of}
use Rattle.record.specs.declared.reader.LogReader.{LogReader}
use Rattle.record.specs.declared.reader.Stepped.{Stepped}
use Rattle.replay.specs.declared.many_records.Ran.{Ran}
use Rattle.checker.specs.declared.standing.Standing.{Standing}
use Rattle.answer.specs.declared.answer.Refusal.{Refusal}

-- 1 and 2, the answers of a step that bytes to come may change (no step is refused with 0)
abbrev pub may_change : Answer → Bool
may_change answer = ltb (number_of answer) 3

-- 3 to 12: among these are all others that stop a run
abbrev pub decides : Answer → Bool
decides answer = leb 3 (number_of answer) && leb (number_of answer) 12

-- before the first byte: that id is due
abbrev pub first_standing : ℕ → Standing
first_standing first = record { expected = first; start = 0; count = 0; reader = reader_at 0 true }

-- the same with the reader further on
abbrev pub reading_at : Standing → LogReader → Standing
reading_at s r = record { expected = s.expected; start = s.start; count = s.count; reader = r }

-- the standing before bytes that aren't read yet, of which the first is byte `before` of all: the reader at their front, validating; the record
-- that isn't whole begins before them, between records right there; and no more records are counted than bytes are before it
unfoldable pub stands_before : ℕ → Standing → Bool
stands_before before s =
    eqb s.reader.position 0 && (s.reader.validate && (leb s.count s.start && (leb s.start before && (s.reader.inside || eqb s.start before))))

-- what a run reports that stops in the record that isn't whole yet
abbrev pub report_of : Standing → Answer → ℕ → Ran
report_of s answer place = record { answer = answer; position = s.start; count = s.count; fault_at = place }

-- what a step comes to: on from there, or more bytes are wanted; or what a run reports is settled
abbrev pub Went : Type 0
Went = Result (Option Standing) Ran

-- what the bytes that are there come to: where it waits for more; or what a run reports is settled
abbrev pub Check : Type 0
Check = Result Standing Ran

-- behind a record's end tag: "After id 2^64-1 it stops with 12", or on with the next id. The first of the bytes is byte `base` of all
abbrev pub after_record : ℕ → Standing → LogReader → Went
after_record base s r =
    if eqb s.expected last_record_id then Err (record { answer = UsedUp; position = base + r.position; count = s.count + 1; fault_at = base + r.position }) else
    Ok (Some (record { expected = s.expected + 1; start = base + r.position; count = s.count + 1; reader = r }))

-- behind an opening: "Expected id is tested .. right after the opening"
abbrev pub after_opening : Standing → LogReader → Went
after_opening s r = if eqb r.record_id s.expected then Ok (Some (reading_at s r)) else Err (report_of s WrongId s.start)

-- behind an action
abbrev pub after_action : ℕ → Standing → Stepped → Went
after_action base s t =
    if s.reader.inside then if is_end t.action then after_record base s t.reader else Ok (Some (reading_at s t.reader)) else
    after_opening s t.reader

-- one step: on behind an action; "Answers 1 and 2 can be given only at the close", so with these it waits for more bytes; any other refusal
-- settles what the run reports
abbrev pub went_by : ℕ → Standing → Result Stepped Refusal → Went
went_by base s (Err x) = if may_change x.answer then Ok None else Err (report_of s x.answer (base + x.position))
went_by base s (Ok t) = after_action base s t

-- and on from there
abbrev pub onward : Standing → (Standing → Check) → Went → Check
onward s on (Ok (Some next)) = on next
onward s on (Ok None) = Ok s
onward s on (Err ran) = Err ran

-- the bytes from the reader's place on; at most n steps
unfoldable pub check_on : ℕ → Directory → List ℕ → ℕ → Standing → Check
check_on zero d log base s = Ok s
check_on (suc n) d log base s = onward s (check_on n d log base) (went_by base s (step_of d log s.reader))

-- a step takes a byte or more, so the bound is never met (`check_enough`, proofs/Ways)
abbrev pub check_in : Directory → List ℕ → ℕ → Standing → Check
check_in d log base s = check_on (suc (length log)) d log base s
