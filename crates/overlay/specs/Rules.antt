-- The rules of the keys and bytes of one kind, whatever the room: those of a shared overlay, and those of a list (document 01: "There is one
-- shared overlay for each kind, keyed by table and index", "Rules of a state: room kept, no key twice, no mask 0"). In log.rs the maps of lines
-- 682 to 698, which have no bounds: the room is added.
use Rattle.std.specs.Prelude.{Bool, ◌&&◌, List, ℕ, ◌*◌, ltb, leb, eqb, get_or, take, drop, length}
use Rattle.directory.specs.Table.{unit_of}
use Rattle.directory.specs.declared.table.TableKind.{TableKind}
use Rattle.directory.specs.declared.table.TableKind.TheVariants.{Index, Value, RefCount}
use Rattle.keys.specs.Keys.{mark_at, every, ruled}

-- the keys and bytes of one kind: rows of four words (table, index, id, mark), the order of the places in use, and a slot of bytes for each
-- place; how many places are in use
pub record Overlay : Type 0 where
  pub rows : List ℕ
  pub order : List ℕ
  pub bytes : List ℕ
  pub count : ℕ

-- a slot's bytes: "an index chunk is 512 bytes and a reference count chunk 1,024"; a value has at most 512
abbrev pub slot_size : TableKind → ℕ
slot_size Index = 512
slot_size Value = 512
slot_size RefCount = 1024

-- the stored bytes of an entry: a chunk whole, or a value, whose mark is its length
abbrev pub stored_length : TableKind → ℕ → ℕ
stored_length kind mark = unit_of kind mark

-- "no mask 0"; "for value tables a length 1 to 512"
abbrev pub mark_ruled : TableKind → ℕ → Bool
mark_ruled Index mask = ltb 0 mask
mark_ruled Value len = leb 1 len && leb len 512
mark_ruled RefCount mask = ltb 0 mask

-- "a 16-bit number", and the mark
unfoldable pub row_ruled : TableKind → List ℕ → ℕ → Bool
row_ruled kind rows p = ltb (get_or rows (4 * p) 0) 65536 && mark_ruled kind (mark_at rows p)

-- the rules of keys that need no directory, whatever the room: those of an overlay, and of the part of a list that a lookup is handed
unfoldable pub keys_ruled : TableKind → ℕ → List ℕ → List ℕ → ℕ → Bool
keys_ruled kind room rows order n = leb n room && (ruled rows order n && every (row_ruled kind rows) (take n order))

-- the rules for a room: memory as long as the room, and its keys'. Any other is 13
unfoldable pub overlay_kept : TableKind → ℕ → Overlay → Bool
overlay_kept kind room o =
    eqb (length o.rows) (4 * room) && (eqb (length o.order) room && (eqb (length o.bytes) (slot_size kind * room)
    && keys_ruled kind room o.rows o.order o.count))

-- the words of a kind: 4 · room of rows, then the order
abbrev pub rows_of : ℕ → List ℕ → List ℕ
rows_of room words = take (4 * room) words

-- and behind them the order
abbrev pub order_of : ℕ → List ℕ → List ℕ
order_of room words = drop (4 * room) words

-- the same from two parts of memory, as a call is handed them
abbrev pub overlay_of : ℕ → List ℕ → List ℕ → ℕ → Overlay
overlay_of room words bytes n = record { rows = rows_of room words; order = order_of room words; bytes = bytes; count = n }

-- the same from its three lists
abbrev pub lists_of : List ℕ → List ℕ → List ℕ → ℕ → Overlay
lists_of rows order bytes n = record { rows = rows; order = order; bytes = bytes; count = n }
