-- Where in the image a change list's keys and drops lie (document 01, "The directory and the tables": "The tables lie in one lent image in
-- directory order without gaps"), and which bytes they reach.
use Rattle.std.specs.Prelude.{◌≡◌, true, List, [], ◌++◌, ℕ, ◌+◌, ◌*◌, ◌≤◌, ◌<◌, take, get_or, Option, Some, None}
use Rattle.directory.specs.Table.{slot_length, size_of}
use Rattle.directory.specs.Directory.{find_table, start_of}
use Rattle.directory.specs.declared.table.TableKind.{TableKind}
use Rattle.directory.specs.declared.table.TableKind.TheVariants.{Index, Value, RefCount}
use Rattle.directory.specs.declared.table.TableDescription.{TableDescription}
use Rattle.directory.specs.declared.directory.Directory.{Directory}
use Rattle.effect.specs.Meaning.{bit}
use Rattle.replay.specs.Replay.{judged, image_after}
use Rattle.numbers.specs.Numbers.{has}
use Rattle.keys.specs.Keys.{mark_at}
use Rattle.memory.specs.Parts.{of_kind}
use Rattle.change.specs.Change.{Change}
use Rattle.writer.specs.Bytes.{record_of}

-- the listed places of a kind, and the dropped tables of a kind: no value table is dropped
abbrev pub places_of : TableKind → Change → List ℕ
places_of kind l = take (of_kind kind l.parts).count (of_kind kind l.parts).order

-- the dropped tables of a kind: no value table is dropped
abbrev pub dropped_of : TableKind → Change → List ℕ
dropped_of Index l = take l.drops.count l.drops.tables
dropped_of Value l = []
dropped_of RefCount l = take l.count_drops.count l.count_drops.tables

-- table, index and mark (a mask, or a value's length) of the key in place q
abbrev pub table_at : TableKind → Change → ℕ → ℕ
table_at kind l q = get_or (of_kind kind l.parts).rows (4 * q) 0

-- the index of the key in place q
abbrev pub index_at : TableKind → Change → ℕ → ℕ
index_at kind l q = get_or (of_kind kind l.parts).rows (4 * q + 1) 0

-- its mark: a mask, or a value's length
abbrev pub place_mark : TableKind → Change → ℕ → ℕ
place_mark kind l q = mark_at (of_kind kind l.parts).rows q

-- where a table begins, its length, and that of one chunk or slot; 0 if there is none
abbrev pub start_in : Directory → Option (ℕ × TableDescription) → ℕ
start_in d (Some (row, t)) = start_of d row
start_in d None = 0

-- how long a table is that was found; 0 if there is none
abbrev pub size_in : Option (ℕ × TableDescription) → ℕ
size_in (Some (row, t)) = size_of t
size_in None = 0

-- how long a slot of a table is that was found; 0 if there is none
abbrev pub slot_in : Option (ℕ × TableDescription) → ℕ
slot_in (Some (row, t)) = slot_length t
slot_in None = 0

-- where the table of a kind and a number begins
abbrev pub table_start : Directory → TableKind → ℕ → ℕ
table_start d kind number = start_in d (find_table d kind number)

-- how long it is
abbrev pub table_size : Directory → TableKind → ℕ → ℕ
table_size d kind number = size_in (find_table d kind number)

-- where what lies under an index of a table begins: each index has a chunk of 512 or 1,024 bytes, or a value
abbrev pub start_under : Directory → TableKind → ℕ → ℕ → ℕ
start_under d kind number index = table_start d kind number + index * slot_in (find_table d kind number)

-- and what lies under the key in place q
abbrev pub key_start : Directory → TableKind → Change → ℕ → ℕ
key_start d kind l q = start_under d kind (table_at kind l q) (index_at kind l q)

-- the image that replay leaves of the bytes that the list is written as, with whatever stands behind them
abbrev pub image_left : Directory → Change → List ℕ → List ℕ → List ℕ
image_left d l more image = image_after d image (judged d (record_of l ++ more) 0 l.id image)

-- "index 8 bytes, reference count 16"
pub data Width : TableKind → ℕ → Type 0 where
  eight : Width Index 8
  sixteen : Width RefCount 16

-- the bytes that a list reaches: a slot that a mask names, a value, a table that is dropped
pub data Reached (d : Directory) (l : Change) (p : ℕ) : Type 0 where
  in_slot : {kind : TableKind} {w : ℕ} → Width kind w → (q s j : ℕ) → has q (places_of kind l) ≡ true → s < 64 → bit (place_mark kind l q) s ≡ true → j < w
      → p ≡ key_start d kind l q + s * w + j → Reached d l p
  in_value : (q j : ℕ) → has q (places_of Value l) ≡ true → j < place_mark Value l q → p ≡ key_start d Value l q + j → Reached d l p
  in_drop : (kind : TableKind) (t : ℕ) → has t (dropped_of kind l) ≡ true → table_start d kind t ≤ p → p < table_start d kind t + table_size d kind t → Reached d l p
