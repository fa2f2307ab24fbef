-- A damaged log salvaged (document 02, "Eight"). log.rs has no such thing: its reader stops at the first fault.
use Rattle.std.specs.Prelude.{true, ◌&&◌, List, [], ◌∷◌, ◌++◌, ℕ, zero, suc, ◌+◌, ◌-◌, eqb, ltb, length, take, drop, Result, Ok, Err}
use Rattle.std.proofs.Math.Option.{Option, none, some}
use Rattle.std.specs.Prelude.{if◌then◌else◌}
use Rattle.answer.specs.declared.answer.Answer.{Answer}
use Rattle.answer.specs.declared.answer.Answer.TheVariants.{Done, NoRoom, ShortOutput, BadState}
use Rattle.directory.specs.Directory.{directory_kept}
use Rattle.directory.specs.declared.directory.Directory.{Directory}
use Rattle.record.specs.Next.{reader_at, step_of}
use Rattle.replay.specs.Replay.{rest_in, whole_of}
use Rattle.output.specs.Put.{put}
use Rattle.salvaging.specs.declared.lines.Line.{Line}
use Rattle.salvaging.specs.declared.lines.Line.TheVariants.{Kept, Lost}
use Rattle.salvaging.specs.declared.salvaged.Salvaged.{Salvaged}
use Rattle.salvaging.specs.declared.search.Found.{Found}
use Rattle.answer.specs.declared.answer.Refusal.{Refusal}
use Rattle.replay.specs.declared.whole.WholeRecord.{WholeRecord}

-- ---- the records

-- what the check of a position found there: the record's id and the place behind it, or none
abbrev pub found_by : ℕ → Result WholeRecord Refusal → Option Found
found_by at (Err x) = none
found_by at (Ok w) = some (record { position = at; id = w.opened.record_id; end = w.end })

-- "a whole record acceptable under the directory begins, with any id": as replay reads it, the test of the id left out. So it is what replay
-- takes under some id (`found-accepted`, `accepted-found`, proofs/Accepted)
unfoldable pub found_at : Directory → List ℕ → ℕ → Option Found
found_at d log at = found_by at (whole_of (rest_in d log) (step_of d log (reader_at at true)))

-- "after one is found it continues behind it", else at the next byte
abbrev pub by_found : (ℕ → List Found) → ℕ → Option Found → List Found
by_found on at none = on (at + 1)
by_found on at (some f) = f ∷ on f.end

-- "finds, from the left, each position where a whole record acceptable under the directory begins"; at most n positions are tried
unfoldable pub found_from : ℕ → Directory → List ℕ → ℕ → List Found
found_from zero d log at = []
found_from (suc n) d log at = by_found (found_from n d log) at (found_at d log at)

-- each try goes on by a byte or more, so no more are due than the log has bytes: the bound is never met (`enough`, proofs/Records)
abbrev pub found_on : Directory → List ℕ → ℕ → List Found
found_on d log at = found_from (suc (length log)) d log at

-- ---- the list

-- a line is the code's own (src/lines): "position, length and id of each, and position and length of each stretch left out"

-- a stretch left out, from a position up to another: "none empty"
abbrev pub left_out : ℕ → ℕ → List Line → List Line
left_out at to ls = if ltb at to then Lost at (to - at) ∷ ls else ls

-- the records from a position on, and what lies before each and behind the last, up to the log's end
unfoldable pub lines_between : ℕ → List Found → ℕ → List Line
lines_between at [] end = left_out at end []
lines_between at (f ∷ fs) end = left_out at f.position (Kept f.position (f.end - f.position) f.id ∷ lines_between f.end fs end)

-- the list of a log
unfoldable pub lines_of : Directory → List ℕ → List Line
lines_of d log = lines_between 0 (found_on d log 0) (length log)

-- a line in four words: 1 for kept, 0 for lost; position, length; the id, 0 where it is lost
abbrev pub words_of : Line → List ℕ
words_of (Kept p n id) = 1 ∷ p ∷ n ∷ id ∷ []
words_of (Lost p n) = 0 ∷ p ∷ n ∷ 0 ∷ []

-- the list in words
unfoldable pub words_of_lines : List Line → List ℕ
words_of_lines [] = []
words_of_lines (l ∷ ls) = words_of l ++ words_of_lines ls

-- ---- the output

-- the bytes of a record that is kept
abbrev pub line_bytes : List ℕ → Line → List ℕ
line_bytes log (Kept p n id) = take n (drop p log)
line_bytes log (Lost p n) = []

-- "It copies those records into an output in order"
unfoldable pub kept_bytes : List ℕ → List Line → List ℕ
kept_bytes log [] = []
kept_bytes log (l ∷ ls) = line_bytes log l ++ kept_bytes log ls

-- ---- the call

-- what a call leaves: its answer, how many lines and bytes it wrote, and the output and the list's memory
pub record Left : Type 0 where
  pub answer : Answer
  pub lines : ℕ
  pub written : ℕ
  pub out : List ℕ
  pub list : List ℕ

-- "then neither output nor list is touched"
abbrev pub untouched : Answer → List ℕ → List ℕ → Left
untouched answer out list = record { answer = answer; lines = 0; written = 0; out = out; list = list }

-- the records at the output's front and the lines at the list's; what stood behind them stays
abbrev pub salvaged : List ℕ → List Line → List ℕ → List ℕ → Left
salvaged log ls out list = record {
  answer = Done;
  lines = length ls;
  written = length (kept_bytes log ls);
  out = put out 0 (kept_bytes log ls);
  list = put list 0 (words_of_lines ls);
}

-- "At most 64 lines; more gives 9, a short output 10, 9 first"
unfoldable pub salvage_by : List ℕ → List Line → List ℕ → List ℕ → Left
salvage_by log ls out list =
    if ltb 64 (length ls) then untouched NoRoom out list else  -- 9
    if ltb (length out) (length (kept_bytes log ls)) then untouched ShortOutput out list else  -- 10
    salvaged log ls out list

-- 13 first: the directory's rules, and memory that isn't for 64 lines
unfoldable pub salvage_of : Directory → List ℕ → List ℕ → List ℕ → Left
salvage_of d log out list =
    if directory_kept d && eqb (length list) 256 then salvage_by log (lines_of d log) out list else untouched BadState out list  -- 13

-- the same from what the call hands back and the two memories as it leaves them
unfoldable pub left_of : Result Salvaged Answer → List ℕ → List ℕ → Left
left_of (Ok r) out list = record { answer = Done; lines = r.lines; written = r.written; out = out; list = list }
left_of (Err answer) out list = record { answer = answer; lines = 0; written = 0; out = out; list = list }
