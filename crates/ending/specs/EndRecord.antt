-- `end_record` (document 01, "Change lists and overlays" and "Ending a record: 11, 9 for overlays, 9 for files, 12, 10." behind 13; log.rs lines
-- 844 to 899, where 11 is an assertion and 9, 12, 13 can't be: the room, the last number and the rules are added).
use Rattle.std.specs.Prelude.{Bool, not, ◌&&◌, List, ℕ, ◌+◌, ltb, eqb, length, Result, Ok, Err}
use Rattle.std.specs.Prelude.{if◌then◌else◌}
use Rattle.directory.specs.declared.directory.Directory.{Directory}
use Rattle.answer.specs.Answer.{number_of}
use Rattle.answer.specs.declared.answer.Answer.{Answer}
use Rattle.answer.specs.declared.answer.Answer.TheVariants.{Done, NoRoom, ShortOutput, NotNext, UsedUp, BadState}
use Rattle.memory.specs.Parts.{parts_kept}
use Rattle.memory.specs.Overlays.{Overlays, overlays_of}
use Rattle.memory.specs.declared.overlays.LogOverlays.{LogOverlays}
use Rattle.memory.specs.declared.span.Holder.TheVariants as holder
use Rattle.putting.specs.Listed.{crowded, overlays_put}
use Rattle.change.specs.Change.{Change, change_of, change_kept}
use Rattle.change.specs.Size.{record_size}
use Rattle.change.specs.declared.change.LogChange.{LogChange}
use Rattle.output.specs.Put.{put}
use Rattle.writer.specs.Bytes.{record_of}
use Rattle.files.specs.Queues.{appending_size, queues_kept}
use Rattle.files.specs.Calls.{file_set_full, files_used_up, taken_by}
use Rattle.files.specs.declared.queues.Queues.{Queues}
use Rattle.files.specs.declared.writing.FileSource.{FileSource}
use Rattle.files.specs.declared.writing.FileSource.TheVariants.{Appending}
use Rattle.files.specs.declared.writing.Taken.{Taken}
use Rattle.ending.specs.declared.record_end.Ended.{Ended}

-- what the call is handed beside the directory
pub record Handed : Type 0 where
  pub list : Change
  pub overlays : Overlays
  pub queues : Queues
  pub next : ℕ
  pub output : List ℕ

-- a list and the overlays by value, each with its two memories; the queues; the next id; the output
unfoldable pub handed_of : LogChange → List ℕ → List ℕ → LogOverlays → List ℕ → List ℕ → Queues → ℕ → List ℕ → Handed
handed_of l list_words_of listBytes o words bytes q next out =
    record { list = change_of l list_words_of listBytes; overlays = overlays_of o words bytes; queues = q; next = next; output = out }

-- all that it leaves
pub record EndState : Type 0 where
  pub answer : Answer
  pub length : ℕ
  pub source : FileSource
  pub number : ℕ
  pub overlays : Overlays
  pub queues : Queues
  pub output : List ℕ

-- the overlays and the queues that were handed in, which a refusal leaves; what it answers, the overlays' two memories and the output
unfoldable pub end_state_of : LogOverlays → Queues → Result Ended Answer → List ℕ → List ℕ → List ℕ → EndState
end_state_of o q (Ok r) words bytes out = record {
  answer = Done;
  length = r.length;
  source = r.source;
  number = r.number;
  overlays = overlays_of r.overlays words bytes;
  queues = r.queues;
  output = out;
}
end_state_of o q (Err a) words bytes out = record {
  answer = a;
  length = 0;
  source = Appending;
  number = 0;
  overlays = overlays_of o words bytes;
  queues = q;
  output = out;
}

-- no rule of what is handed in is broken; a next id of 0 breaks "The first id is 1"
unfoldable pub handed_kept : Directory → Handed → Bool
handed_kept d h =
    change_kept d h.list && (parts_kept holder.Shared h.overlays.parts && (queues_kept h.queues && not (eqb h.next 0)))

-- its answer
unfoldable pub end_answer : Directory → Handed → Answer
end_answer d h =
    if not (handed_kept d h) then BadState else  -- 13
    if not (eqb (h.list.id + 1) h.next) then NotNext else  -- 11: "list's id plus 1 isn't the next id"
    if crowded h.list.parts h.overlays.parts then NoRoom else  -- 9 for overlays
    if file_set_full h.queues then NoRoom else  -- 9 for files
    if files_used_up h.queues (record_size h.list) then UsedUp else  -- 12
    if ltb (length h.output) (record_size h.list) then ShortOutput else  -- 10
    Done

-- the answer 0
abbrev pub is_done : Answer → Bool
is_done a = eqb (number_of a) 0

-- a refusal leaves everything as it was
abbrev pub not_ended : Answer → Handed → EndState
not_ended answer h = record {
  answer = answer;
  length = 0;
  source = Appending;
  number = 0;
  overlays = h.overlays;
  queues = h.queues;
  output = h.output;
}

-- "Ending a record writes it at the output's front, the rest staying, and puts each entry .. over the shared one"; "The record's length adds to
-- the file's size": t is the file for it
abbrev pub ended : Directory → Handed → Taken → EndState
ended d h t = record {
  answer = Done;
  length = record_size h.list;
  source = t.source;
  number = t.number;
  overlays = overlays_put d h.list.id h.list.parts h.overlays;
  queues = t.queues;
  output = put h.output 0 (record_of h.list);
}

-- `end_record`
unfoldable pub end_record : Directory → Handed → EndState
end_record d h =
    if is_done (end_answer d h) then ended d h (taken_by h.queues (appending_size h.queues + record_size h.list)) else not_ended (end_answer d h) h
