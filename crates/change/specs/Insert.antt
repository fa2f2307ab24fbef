-- What an insert does (document 01, "Change lists and overlays", "Inserting: 6, 7, 14, 9."). log.rs lines 480 to 515.
use Rattle.std.specs.Prelude.{Bool, List, ℕ, ◌^◌, ltb, leb, eqb, length, Option, Some, None, Result, Ok, Err}
use Rattle.std.proofs.Math.Option as maybe
use Rattle.std.specs.Int.Bits.{bit_or}
use Rattle.std.specs.Prelude.{if◌then◌else◌}
use Rattle.answer.specs.declared.answer.Answer.{Answer}
use Rattle.answer.specs.declared.answer.Answer.TheVariants.{Done, NoTable, NoIndex, NoRoom, BadState, BadArgument}
use Rattle.directory.specs.Table.{unit_of}
use Rattle.directory.specs.Directory.{find_table}
use Rattle.directory.specs.declared.table.TableKind.{TableKind}
use Rattle.directory.specs.declared.table.TableKind.TheVariants.{Index, Value, RefCount}
use Rattle.directory.specs.declared.table.TableDescription.{TableDescription}
use Rattle.directory.specs.declared.directory.Directory.{Directory}
use Rattle.keys.specs.Keys.{rank, mark_at}
use Rattle.overlay.specs.Rules.{Overlay}
use Rattle.overlay.specs.Overlay.{stands_in, place_in}
use Rattle.overlay.specs.Entries.{Entry, entries_of, find_entry}
use Rattle.memory.specs.Parts.{span_of, of_kind, put_into}
use Rattle.memory.specs.declared.span.Holder.TheVariants as holder
use Rattle.change.specs.Change.{Change, change_of, with_parts, change_kept}
use Rattle.change.specs.declared.change.Changed.{Changed}

-- what a call on a list comes to: its answer, and the list afterwards
pub record Made : Type 0 where
  pub answer : Answer
  pub change : Change

-- as a call hands it back: answer and list by value, and the two memories
abbrev pub made_of : Changed → List ℕ → List ℕ → Made
made_of r words bytes = record { answer = r.answer; change = change_of r.list words bytes }

-- a refusal leaves the list as it was
abbrev pub not_made : Answer → Change → Made
not_made answer l = record { answer = answer; change = l }

-- a key's mark is its mask, "add the slot's bit to the mask"; a value's is its length (log.rs 483 and 509: `entry.get().1 | (1 << sub)`)
abbrev pub mark_of : TableKind → ℕ → ℕ → List ℕ → ℕ
mark_of Index old sub bytes = bit_or old (2 ^ sub)
mark_of Value old sub bytes = length bytes
mark_of RefCount old sub bytes = bit_or old (2 ^ sub)

-- 14: a "chunk or value of the wrong length"
unfoldable pub bytes_fit_of : TableKind → TableDescription → List ℕ → Bool
bytes_fit_of kind t bytes = eqb (length bytes) (unit_of kind t.length)

-- the mark that a key has now, 0 if there is none. A key that is listed is replaced, so a full list takes it; any other goes into the next place, where there is room
unfoldable pub room_for : ℕ → Overlay → ℕ → Result ℕ Answer
room_for room o key =
    if stands_in o key then Ok (mark_at o.rows (place_in o key)) else
    if leb room o.count then Err NoRoom else  -- 9
    Ok 0

-- at a list that keeps its rules: 6, 7, 14, 9
unfoldable pub plan_in : TableKind → Overlay → Option (ℕ × TableDescription) → ℕ → ℕ → ℕ → List ℕ → Result ℕ Answer
plan_in kind o None number index sub bytes = Err NoTable  -- 6
plan_in kind o (Some (row, t)) number index sub bytes =
    if leb t.count index then Err NoIndex else  -- 7
    if ltb 63 sub then Err BadArgument else  -- 14: "slot above 63"
    if bytes_fit_of kind t bytes then room_for (span_of holder.List kind).room o (rank number index) else
    Err BadArgument  -- 14

-- "take the whole new chunk and add the slot's bit to the mask. `insert_value` replaces."
abbrev pub made_by : Result ℕ Answer → TableKind → Change → ℕ → ℕ → ℕ → List ℕ → Made
made_by (Err answer) kind l number index sub bytes = not_made answer l
made_by (Ok old) kind l number index sub bytes =
    record { answer = Done; change = with_parts l (put_into kind l.parts number index l.id (mark_of kind old sub bytes) bytes) }

-- an insert of bytes under a table's number and an index, at a slot
unfoldable pub inserted_kept : TableKind → Directory → Change → ℕ → ℕ → ℕ → List ℕ → Made
inserted_kept kind d l number index sub bytes =
    made_by (plan_in kind (of_kind kind l.parts) (find_table d kind number) number index sub bytes) kind l number index sub bytes

-- "Order in every call: 13", then as above
unfoldable pub inserted : TableKind → Directory → Change → ℕ → ℕ → ℕ → List ℕ → Made
inserted kind d l number index sub bytes =
    if change_kept d l then inserted_kept kind d l number index sub bytes else not_made BadState l  -- 13

-- the mark of an entry that is there; 0 where there is none
abbrev pub mark_in : maybe.Option Entry → ℕ
mark_in maybe.none = 0
mark_in (maybe.some e) = e.mark

-- what is inserted: under its key, "add the slot's bit to the mask", the chunk whole, the id the list's
abbrev pub new_entry : TableKind → Change → ℕ → ℕ → ℕ → List ℕ → Entry
new_entry kind l number index sub bytes = record {
  key = rank number index;
  id = l.id;
  mark = mark_of kind (mark_in (find_entry (rank number index) (entries_of kind (of_kind kind l.parts)))) sub bytes;
  bytes = bytes;
}
