-- The calls that touch several states, over words.
use Rattle.std.specs.Prelude.{◌≡◌, List, ℕ, eqb, Result, Ok, Err}
use Rattle.std.specs.Prelude.{if◌then◌else◌}
use Rattle.answer.specs.declared.answer.Answer.{Answer}
use Rattle.answer.specs.declared.answer.Answer.TheVariants.{Done, BadState}
use Rattle.answer.specs.Answer.{number_of}
use Rattle.answer.specs.declared.answer.Refusal.{Refusal}
use Rattle.clearing.specs.declared.end_of_reading.EndRead.{EndRead}
use Rattle.files.specs.declared.queues.Queues.{Queues}
use Rattle.files.specs.declared.writing.FileSource.{FileSource}
use Rattle.files.specs.declared.writing.FileSource.TheVariants.{Appending, Pool, New}
use Rattle.memory.specs.Parts.{parts_of}
use Rattle.memory.specs.declared.overlays.LogOverlays.{LogOverlays}
use Rattle.memory.specs.declared.span.Holder.TheVariants as holder
use Rattle.ending.specs.EndRecord.{EndState}
use Rattle.ending.specs.declared.record_end.Ended.{Ended}
use Rattle.log_calls.specs.Begin.{begin_record}
use Rattle.log_calls.specs.declared.begin.Begun.{Begun}
use Rattle.log_calls.specs.declared.clear_replay.LogsCleared.{LogsCleared}
use Rattle.host_words.specs.Head.{HeadLeft, head_after}
use Rattle.host_words.specs.Change.{list_size, list_words_of, counts_in}
use Rattle.host_words.specs.Overlays.{overlays_size, overlays_words, overlays_left}
use Rattle.host_queues.specs.Queues.{queues_size, queues_words}

-- where a record's file comes from: 0 the file that records are appended to, 1 the pool, 2 a new one
abbrev pub source_number : FileSource → ℕ
source_number Appending = 0
source_number Pool = 1
source_number New = 2

-- `begin_record`, with a number of words for the list: 13 where they are too many or too few
unfoldable pub begin_in : ℕ → ℕ → Result Begun Answer
begin_in next words = if eqb words 38 then begin_record next else Err BadState

-- the list's words then: as they were where the call refuses
abbrev pub begun_list : List ℕ → Result Begun Answer → List ℕ
begun_list w (Ok b) = head_after list_size 0 w (list_words_of b.list)
begun_list w (Err a) = w

-- the words of both heads
pub record Heads : Type 0 where
  pub overlays : List ℕ
  pub queues : List ℕ

-- one by one
abbrev pub heads_of : List ℕ → List ℕ → Heads
heads_of overlays queues = record { overlays = overlays; queues = queues }

-- what a call leaves of both: its answer's number, and the words from as they were to as they then are
abbrev pub HeadsLeft : Answer → LogOverlays → Queues → Heads → ℕ → Heads → Type 0
HeadsLeft answer o q was number are =
    HeadLeft overlays_size answer (overlays_words o) was.overlays number are.overlays
    × HeadLeft queues_size answer (queues_words q) was.queues number are.queues

-- what `clear_replay_logs` leaves: a refusal the words as they were
abbrev pub ClearLeft : Result LogsCleared Answer → Heads → ℕ → Heads → Type 0
ClearLeft (Ok d) was answer are = HeadsLeft Done d.overlays d.queues was answer are
ClearLeft (Err a) was answer are = (answer ≡ number_of a) × (are.overlays ≡ was.overlays) × (are.queues ≡ was.queues)

-- what `end_record` hands back by value leaves: the heads, the record's length, where its file comes from, the file's number; where it refuses,
-- the heads of what it was handed, and 0
abbrev pub EndedLeft : LogOverlays → Queues → Result Ended Answer → Heads → ℕ → Heads → ℕ → ℕ → ℕ → Type 0
EndedLeft o q (Ok d) was answer are size source file =
    HeadsLeft Done d.overlays d.queues was answer are × (size ≡ d.length) × (source ≡ source_number d.source) × (file ≡ d.number)
EndedLeft o q (Err a) was answer are size source file = HeadsLeft a o q was answer are × (size ≡ 0) × (source ≡ 0) × (file ≡ 0)

-- what `end_read` hands back by value leaves, likewise: the overlays' head, the next id, the position, the record's id, where the fault is
abbrev pub ReadLeft : ℕ → LogOverlays → ℕ → Result EndRead Refusal → List ℕ → ℕ → List ℕ → ℕ → ℕ → ℕ → ℕ → Type 0
ReadLeft at o next (Ok r) was answer are after end id fault =
    HeadLeft overlays_size Done (overlays_words r.overlays) was answer are
    × (after ≡ r.next_record_id) × (end ≡ r.position) × (id ≡ r.record_id) × (fault ≡ r.position)
ReadLeft at o next (Err x) was answer are after end id fault =
    HeadLeft overlays_size x.answer (overlays_words o) was answer are × (after ≡ next) × (end ≡ at) × (id ≡ 0) × (fault ≡ x.position)

-- what `end_record` leaves: and the shared memories and the output as they then are
pub record EndLeft (s : EndState) (was : Heads) (answer : ℕ) (are : Heads) (words bytes out : List ℕ) (size source file : ℕ) : Type 0 where
  pub heads : HeadsLeft s.answer (overlays_left s.overlays) s.queues was answer are
  pub memories : parts_of holder.Shared (counts_in s.overlays.parts) words bytes ≡ s.overlays.parts
  pub output : out ≡ s.output
  pub long : size ≡ s.length
  pub from : source ≡ source_number s.source
  pub number : file ≡ s.number
