-- The checker (document 02, "One. Check a log off the card": "Our field recorder hands over a log in pieces, sometimes of no bytes. We want a
-- checker that takes the pieces in turn, applies nothing, and at the close reports .."). Added.
use Rattle.std.specs.Prelude.{Bool, true, false, ◌&&◌, ◌≡◌, List, [], ◌∷◌, ◌++◌, ℕ, ◌+◌, ◌-◌, ◌*◌, leb, ltb, length, take, drop, replicate, Result, Ok, Err}
use Rattle.std.specs.Prelude.{if◌then◌else◌}
use Rattle.answer.specs.declared.answer.Answer.{Answer}
use Rattle.answer.specs.declared.answer.Answer.TheVariants.{Done, EndOfLog, Cut, BadState, BadArgument}
use Rattle.directory.specs.Directory.{directory_kept}
use Rattle.directory.specs.declared.directory.Directory.{Directory}
use Rattle.record.specs.Next.{step_of}
use Rattle.replay.specs.declared.many_records.Ran.{Ran}
use Rattle.output.specs.Put.{put}
use Rattle.checker.specs.Check.{may_change, decides, first_standing, reading_at, stands_before, report_of, Check, check_in}
use Rattle.checker.specs.declared.standing.Standing.{Standing}
use Rattle.checker.specs.declared.checker.LogChecker.{LogChecker}
use Rattle.checker.specs.declared.checker.Stage.{Stage}
use Rattle.checker.specs.declared.checker.Stage.TheVariants as stage
use Rattle.checker.specs.declared.checker.Checked.{Checked}
use Rattle.checker.specs.declared.checker.Closed.{Closed}
use Rattle.record.specs.declared.reader.Stepped.{Stepped}
use Rattle.answer.specs.declared.answer.Refusal.{Refusal}

-- the bytes of the action that isn't whole yet. Of an action with 64 entries of 16 bytes there are 1,043, and no action has more
abbrev pub unread : LogChecker → List ℕ
unread c = take c.held c.part

-- as they are kept: with zeros behind them
unfoldable pub padded : List ℕ → List ℕ
padded bytes = put (replicate 1043 0) 0 bytes

-- "Directory and first expected id are fixed at the start"
abbrev pub new_checker : Directory → ℕ → LogChecker
new_checker d first = record { directory = d; standing = first_standing first; held = 0; part = padded []; total = 0; stage = stage.Open }

-- the start's answer: 13 for a directory that breaks a rule, and again at every call
abbrev pub checker_start : Directory → ℕ → Checked
checker_start d first = record { answer = if directory_kept d then Done else BadState; fault_at = 0; checker = new_checker d first }

-- ---- the rules of a checker; another is answered 13

-- bytes that wait for more: reading them is refused with 1 or 2
abbrev pub waits : Result Stepped Refusal → Bool
waits (Err x) = may_change x.answer
waits (Ok t) = false

-- while it is open: the unread bytes are the last ones taken, it stands before them, and they are no whole action
unfoldable pub open_kept_of : LogChecker → Bool
open_kept_of c =
    leb c.held 1043 && (leb c.held c.total && (stands_before (c.total - c.held) c.standing && waits (step_of c.directory (unread c) c.standing.reader)))

-- open; or settled with an answer that stops a run; or closed
abbrev pub stage_kept : LogChecker → Stage → Bool
stage_kept c stage.Open = open_kept_of c
stage_kept c (stage.Settled ran) = decides ran.answer
stage_kept c (stage.Closed ran) = true

-- the directory's rules; fewer than 2^63 bytes taken; and the stage's
unfoldable pub checker_kept : LogChecker → Bool
checker_kept c = directory_kept c.directory && (ltb c.total 9223372036854775808 && stage_kept c c.stage)

-- ---- its size

-- what a description takes: kind, number, column, count, length. A number takes the bytes of its type; a kind, an answer and a truth take one
abbrev pub description_bytes : ℕ
description_bytes = 1 + 2 + 1 + 2 + 2

-- a standing: the id due, the record's start, the count, and the reader's position, id, checksum, two truths
abbrev pub standing_bytes : ℕ
standing_bytes = 8 + 8 + 8 + (8 + 8 + 4 + 1 + 1)

-- "It may keep no more than 2,048 bytes between pieces": 16 descriptions and their count, the standing, the unread bytes and how many they are,
-- the bytes taken, and the stage: which it is, and the report
abbrev pub checker_bytes : ℕ
checker_bytes = (16 * description_bytes + 8) + standing_bytes + (1043 + 8) + 8 + (1 + (1 + 8 + 8 + 8))

-- ---- a piece

-- what a piece, or the start, answers: beside 13 and 14 "the bytes taken so far", beside 0 too
abbrev pub answered : Answer → LogChecker → Checked
answered answer c = record { answer = answer; fault_at = c.total; checker = c }

-- with so many bytes more
abbrev pub counted : LogChecker → ℕ → LogChecker
counted c n = record { directory = c.directory; standing = c.standing; held = c.held; part = c.part; total = c.total + n; stage = c.stage }

-- what is settled is answered by the piece that settles it and by every later one, with the place of the fault
abbrev pub settled : LogChecker → Ran → Checked
settled c ran = record {
  answer = ran.answer;
  fault_at = ran.fault_at;
  checker = record { directory = c.directory; standing = c.standing; held = c.held; part = c.part; total = c.total; stage = stage.Settled ran };
}

-- the bytes not read are kept, and the reader stands before them
abbrev pub keeping : LogChecker → Standing → List ℕ → LogChecker
keeping c s bytes = record {
  directory = c.directory;
  standing = reading_at s (record { position = 0; record_id = s.reader.record_id; crc32 = s.reader.crc32; validate = s.reader.validate; inside = s.reader.inside });
  held = length bytes;
  part = padded bytes;
  total = c.total;
  stage = c.stage;
}

-- after a check of the unread bytes and the piece
abbrev pub piece_by : LogChecker → List ℕ → Check → Checked
piece_by c bytes (Ok s) = answered Done (keeping c s (drop s.reader.position bytes))
piece_by c bytes (Err ran) = settled c ran

-- the unread bytes and the piece, checked from where it stands
unfoldable pub piece_taken : LogChecker → List ℕ → Checked
piece_taken c bytes = piece_by (counted c (length bytes)) (unread c ++ bytes) (check_in c.directory (unread c ++ bytes) (c.total - c.held) c.standing)

-- by the stage
abbrev pub piece_at : LogChecker → List ℕ → Stage → Checked
piece_at c bytes stage.Open = piece_taken c bytes
piece_at c bytes (stage.Settled ran) = settled (counted c (length bytes)) ran
piece_at c bytes (stage.Closed ran) = answered BadArgument c  -- 14

-- "a call after the close, or a piece that brings the total to 2^63 bytes, gives 14 and changes nothing"
unfoldable pub piece_kept : LogChecker → List ℕ → Checked
piece_kept c bytes =
    if leb (9223372036854775808 - c.total) (length bytes) then answered BadArgument c else  -- 14
    piece_at c bytes c.stage

-- `piece`: 13 first
unfoldable pub piece_of : LogChecker → List ℕ → Checked
piece_of c bytes = if checker_kept c then piece_kept c bytes else answered BadState c

-- ---- the close

-- what a run reports whose bytes end here: 2 inside a record, 1 between records, told where the action begins that isn't whole, which is the
-- bytes' end if none is begun
abbrev pub report_in : ℕ → Check → Ran
report_in base (Ok s) = report_of s (if s.reader.inside then Cut else EndOfLog) (base + s.reader.position)
report_in base (Err ran) = ran

-- the checker's own, while it is open: its reader stands before the unread bytes
abbrev pub report_now : LogChecker → Ran
report_now c = report_of c.standing (if c.standing.reader.inside then Cut else EndOfLog) (c.total - c.held)

-- beside 13 and 14: the bytes taken so far, and no record
abbrev pub unclosed : Answer → LogChecker → Closed
unclosed answer c = record { ran = record { answer = answer; position = c.total; count = 0; fault_at = c.total }; checker = c }

-- "at the close reports the answer, position and record count"
abbrev pub closing : LogChecker → Ran → Closed
closing c ran = record {
  ran = ran;
  checker = record { directory = c.directory; standing = c.standing; held = c.held; part = c.part; total = c.total; stage = stage.Closed ran };
}

-- by the stage
abbrev pub close_at : LogChecker → Stage → Closed
close_at c stage.Open = closing c (report_now c)
close_at c (stage.Settled ran) = closing c ran
close_at c (stage.Closed ran) = unclosed BadArgument c

-- "a call after the close .. gives 14"
unfoldable pub close_kept : LogChecker → Closed
close_kept c = close_at c c.stage

-- `close`: 13 first
unfoldable pub close_of : LogChecker → Closed
close_of c = if checker_kept c then close_kept c else unclosed BadState c

-- ---- what it is held against

-- the checker after several pieces
unfoldable pub after_pieces : LogChecker → List (List ℕ) → LogChecker
after_pieces c [] = c
after_pieces c (bytes ∷ more) = after_pieces (piece_of c bytes).checker more

-- "the joined bytes"
unfoldable pub all_bytes : List (List ℕ) → List ℕ
all_bytes [] = []
all_bytes (bytes ∷ more) = bytes ++ all_bytes more

-- "Answers 1 and 2 can be given only at the close": 0 in their place
abbrev pub open_as0 : Answer → Answer
open_as0 answer = if may_change answer then Done else answer

-- what a piece tells of a run's report: its answer, 0 in place of 1 and 2, and beside any other the place of the fault
pub record Told (x : Checked) (ran : Ran) : Type 0 where
  pub answers : x.answer ≡ open_as0 ran.answer
  pub place : may_change ran.answer ≡ false → x.fault_at ≡ ran.fault_at
