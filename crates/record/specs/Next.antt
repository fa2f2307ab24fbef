-- `LogReader::next`: one step of the reader (document 01, "The opening of a record": "A step answers with the action, the place of its
-- payload and the cursor after it, or a refusal."; log.rs 251-330).
use Rattle.std.specs.Prelude.{Bool, true, false, List, ℕ, ◌-◌, ltb, length, take, drop, Result, Ok, Err}
use Rattle.std.specs.Prelude.{if◌then◌else◌}
use Rattle.checksum.specs.Checksum.{all_ones, updated}
use Rattle.directory.specs.Directory.{directory_kept}
use Rattle.directory.specs.declared.directory.Directory.{Directory}
use Rattle.record.specs.Format.{Got, stopped, got, read_at}
use Rattle.record.specs.Record.{Item, inside, opening}
use Rattle.answer.specs.Answer.{number_of, refusal}
use Rattle.answer.specs.declared.answer.Answer.{Answer}
use Rattle.answer.specs.declared.answer.Answer.TheVariants.{Done, BadState, BadArgument}
use Rattle.record.specs.declared.action.LogAction.{LogAction}
use Rattle.record.specs.declared.action.LogAction.TheVariants.{BeginRecord, InsertIndex, InsertValue, InsertRefCount, EndRecord, DropTable, DropRefCountTable}
use Rattle.record.specs.declared.reader.LogReader.{LogReader}
use Rattle.record.specs.declared.reader.Stepped.{Stepped}
use Rattle.answer.specs.declared.answer.Refusal.{Refusal}

-- a step that refuses, and where
abbrev pub refused : Answer → ℕ → Result Stepped Refusal
refused answer position = Err (refusal answer position)

-- the number that a step answers: 0, or that of the refusal
abbrev pub answer_of : Result Stepped Refusal → ℕ
answer_of (Ok s) = number_of Done
answer_of (Err x) = number_of x.answer

-- whether an action ends its record
abbrev pub is_end : LogAction → Bool
is_end EndRecord = true
is_end BeginRecord = false
is_end (InsertIndex a) = false
is_end (InsertValue a) = false
is_end (InsertRefCount a) = false
is_end (DropTable t) = false
is_end (DropRefCountTable t) = false

-- a new reader, between records (log.rs 226-235)
abbrev pub reader_at : ℕ → Bool → LogReader
reader_at position validate = record { position = position; record_id = 0; crc32 = all_ones; validate = validate; inside = false }

-- a reader that leaves the checksum to whoever takes it over the whole record
abbrev pub plain : LogReader → LogReader
plain r = record { position = r.position; record_id = r.record_id; crc32 = all_ones; validate = false; inside = r.inside }

-- the reader at a later place of its record; if it validates, its checksum has taken the bytes between (log.rs 252-259, 332-339)
unfoldable pub forward_to : List ℕ → LogReader → ℕ → LogReader
forward_to log r end = record {
  position = end;
  record_id = r.record_id;
  crc32 = if r.validate then updated r.crc32 (take (end - r.position) (drop r.position log)) else r.crc32;
  validate = r.validate;
  inside = r.inside;
}

-- behind the end tag the reader stands between records, and the next one's checksum starts anew (log.rs 302: `mem::take`)
abbrev pub closed : LogReader → ℕ → LogReader
closed r end = record { position = end; record_id = r.record_id; crc32 = all_ones; validate = r.validate; inside = false }

-- the reader behind an action that ends at `end`
unfoldable pub reader_after : List ℕ → LogReader → LogAction → ℕ → LogReader
reader_after log r action end = if is_end action then closed r end else forward_to log r end

-- a step inside a record: the payload is the last bytes it took. A step begins with its action, so "the first byte of the action at fault" is
-- where the reader stands; "for 2 with no further action begun, the log's end" is that place too (document 02, "Five")
abbrev pub stepped : List ℕ → LogReader → Got Item → Result Stepped Refusal
stepped log r (stopped answer) = refused answer r.position
stepped log r (got item end) = Ok (record {
  action = item.action;
  start = end - item.payload;
  length = item.payload;
  reader = reader_after log r item.action end;
})

-- an opening: the id is the record's, and the checksum starts with the begin tag (log.rs 226-235, 264-269)
abbrev pub beginning : LogReader → ℕ → LogReader
beginning r id = record { position = r.position; record_id = id; crc32 = all_ones; validate = r.validate; inside = true }

-- what the step answers at an opening: the refusal, told at "the record's start", or the begin tag, behind which the reader stands
abbrev pub opened : List ℕ → LogReader → Got ℕ → Result Stepped Refusal
opened log r (stopped answer) = refused answer r.position
opened log r (got id end) = Ok (record { action = BeginRecord; start = end; length = 0; reader = forward_to log (beginning r id) end })

-- a record's opening, tried at the reader's position: "then for reading 14, then faults in byte order"; "for 13 and 14 the position handed
-- in". No directory has a say in it
-- (log.rs 1038-1063, `read_next`)
unfoldable pub opening_of : List ℕ → LogReader → Result Stepped Refusal
opening_of log r =
    if ltb (length log) r.position then refused BadArgument r.position else
    opened log r (read_at (opening r.validate) r.position log)

-- a step: inside a record what stands there, between records an opening
unfoldable pub step_of : Directory → List ℕ → LogReader → Result Stepped Refusal
step_of d log r =
    if ltb (length log) r.position then refused BadArgument r.position else
    if r.inside then stepped log r (read_at (inside d r.validate r.crc32) r.position log) else
    opened log r (read_at (opening r.validate) r.position log)

-- "Order in every call: 13, then .."
unfoldable pub next_of : Directory → List ℕ → LogReader → Result Stepped Refusal
next_of d log r = if directory_kept d then step_of d log r else refused BadState r.position
