-- `end_read` (document 01, "Clearing reads ..": order of checks and what is left; log.rs lines 901 to 932).
use Rattle.std.specs.Prelude.{not, ◌&&◌, List, ℕ, ◌+◌, ltb, eqb, Result, Ok, Err}
use Rattle.std.specs.Prelude.{if◌then◌else◌}
use Rattle.words.specs.Words.{little_at}
use Rattle.answer.specs.Answer.{refusal, last_record_id}
use Rattle.answer.specs.declared.answer.Answer.{Answer}
use Rattle.answer.specs.declared.answer.Answer.TheVariants.{Done, UsedUp, BadState}
use Rattle.answer.specs.declared.answer.Refusal.{Refusal}
use Rattle.directory.specs.Directory.{directory_kept}
use Rattle.directory.specs.declared.directory.Directory.{Directory}
use Rattle.effect.specs.Effect.{Written}
use Rattle.replay.specs.Replay.{Walked, fault, walked, record_at}
use Rattle.memory.specs.declared.span.Holder.TheVariants as holder
use Rattle.memory.specs.declared.overlays.LogOverlays.{LogOverlays}
use Rattle.memory.specs.Parts.{parts_kept}
use Rattle.memory.specs.Overlays.{Overlays, overlays_of}
use Rattle.clearing.specs.Clear.{cleared_by}
use Rattle.clearing.specs.declared.end_of_reading.EndRead.{EndRead}

-- an accepted record read again: its id and its actions
pub record Again : Type 0 where
  pub id : ℕ
  pub actions : List Written

-- the record's actions with its id beside them
abbrev pub with_id : ℕ → Walked (List Written) → Walked Again
with_id id (fault x) = fault x
with_id id (walked ws end) = walked (record { id = id; actions = ws }) end

-- the id that stands behind a begin tag
abbrev pub id_there : List ℕ → ℕ → ℕ
id_there log at = little_at 8 log (at + 1)

-- as replay reads it, "the id test aside": the id that stands there is the expected one
unfoldable pub record_again : Directory → List ℕ → ℕ → Walked Again
record_again d log at = with_id (id_there log at) (record_at d log at (id_there log at))

-- "id 2^64-1 gives 12 and changes nothing", behind all faults of reading; "for 12 the place behind the last record read" (document 02, "Five")
abbrev pub clearable : Walked Again → Walked Again
clearable (fault x) = fault x
clearable (walked g end) = if eqb g.id last_record_id then fault (refusal UsedUp end) else walked g end

-- 13 first: directory, overlays, and a next id of 0 ("The first id is 1"); "for 13 and 14 the position handed in"
unfoldable pub to_clear : Directory → List ℕ → ℕ → Overlays → ℕ → Walked Again
to_clear d log at s next =
    if directory_kept d && (parts_kept holder.Shared s.parts && not (eqb next 0)) then clearable (record_again d log at) else
    fault (refusal BadState at)

-- "If the id is not below the next id, next becomes id plus 1"
abbrev pub next_after : ℕ → ℕ → ℕ
next_after next id = if ltb id next then next else id + 1

-- what `end_read` leaves: its answer, where the fault is, the place behind the record, the record's id, the next id, and the overlays
pub record Ending : Type 0 where
  pub answer : Answer
  pub fault_at : ℕ
  pub position : ℕ
  pub record_id : ℕ
  pub next_record_id : ℕ
  pub overlays : Overlays

-- a refusal "clears nothing"; a record takes its entries along, and the last ids stay. Without a fault its place is the one behind the record
abbrev pub end_read_by : ℕ → Overlays → ℕ → Walked Again → Ending
end_read_by at s next (fault x) = record { answer = x.answer; fault_at = x.position; position = at; record_id = 0; next_record_id = next; overlays = s }
end_read_by at s next (walked g end) = record {
  answer = Done;
  fault_at = end;
  position = end;
  record_id = g.id;
  next_record_id = next_after next g.id;
  overlays = record { parts = cleared_by g.id g.actions s.parts; last_ids = s.last_ids };
}

-- `end_read`
abbrev pub end_read_of : Directory → List ℕ → ℕ → Overlays → ℕ → Ending
end_read_of d log at s next = end_read_by at s next (to_clear d log at s next)

-- the same from what was handed in, what the call hands back and the two memories as it leaves them
abbrev pub end_read_of_of : ℕ → LogOverlays → ℕ → Result EndRead Refusal → List ℕ → List ℕ → Ending
end_read_of_of at o next (Err x) words bytes =
    record { answer = x.answer; fault_at = x.position; position = at; record_id = 0; next_record_id = next; overlays = overlays_of o words bytes }
end_read_of_of at o next (Ok r) words bytes = record {
  answer = Done;
  fault_at = r.position;
  position = r.position;
  record_id = r.record_id;
  next_record_id = r.next_record_id;
  overlays = overlays_of r.overlays words bytes;
}
