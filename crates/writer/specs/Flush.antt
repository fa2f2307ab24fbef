-- `flush_to_file` (document 01: "Ending a record writes it at the output's front, the rest staying"; log.rs lines 380 to 454): answer, length and
-- output.
use Rattle.std.specs.Prelude.{List, ℕ, ltb, length, Result, Ok, Err}
use Rattle.std.specs.Prelude.{if◌then◌else◌}
use Rattle.answer.specs.declared.answer.Answer.{Answer}
use Rattle.answer.specs.declared.answer.Answer.TheVariants.{ShortOutput, BadState}
use Rattle.directory.specs.declared.directory.Directory.{Directory}
use Rattle.change.specs.Change.{Change, change_kept}
use Rattle.change.specs.Size.{record_size}
use Rattle.output.specs.Put.{put}
use Rattle.writer.specs.Bytes.{record_of}

-- what the call comes to: its answer with the record's length (`FlushedLog::bytes`, line 446), and the output afterwards
pub record FlushedLog : Type 0 where
  pub sized : Result ℕ Answer
  pub output : List ℕ

-- as the call hands it back
abbrev pub flushed_of : Result ℕ Answer → List ℕ → FlushedLog
flushed_of r out = record { sized = r; output = out }

-- a refusal leaves the output as it was
abbrev pub unwritten : Answer → List ℕ → FlushedLog
unwritten answer out = flushed_of (Err answer) out

-- at a list that keeps its rules: 10, compared before a byte is written; else the record at the front
unfoldable pub flush_to_file_kept : Change → List ℕ → FlushedLog
flush_to_file_kept l out =
    if ltb (length out) (record_size l) then unwritten ShortOutput out else  -- 10: "output too short"
    flushed_of (Ok (record_size l)) (put out 0 (record_of l))

-- "Order in every call: 13", then as above
unfoldable pub flush_to_file : Directory → Change → List ℕ → FlushedLog
flush_to_file d l out = if change_kept d l then flush_to_file_kept l out else unwritten BadState out  -- 13
