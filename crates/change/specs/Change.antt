-- A change list whole, and its rules (document 01, "Change lists and overlays", "Rules of a state" and answer 13). In log.rs `LogChange`,
-- lines 355 to 374: three maps of entries, two lists of drops and the record's id. The maps have no bounds there: the room is added.
use Rattle.std.specs.Prelude.{Bool, true, false, ◌&&◌, List, ℕ, ◌+◌, ◌*◌, ltb, leb, eqb, get_or, take, replicate, Option, Some, None}
use Rattle.directory.specs.Directory.{tables_of, find_table, stands, directory_kept}
use Rattle.directory.specs.declared.table.TableKind.{TableKind}
use Rattle.directory.specs.declared.table.TableKind.TheVariants.{Index, Value, RefCount}
use Rattle.directory.specs.declared.table.TableDescription.{TableDescription}
use Rattle.directory.specs.declared.directory.Directory.{Directory}
use Rattle.keys.specs.Keys.{mark_at, every}
use Rattle.overlay.specs.Rules.{Overlay}
use Rattle.memory.specs.Parts.{Parts, parts_of, parts_kept, no_counts}
use Rattle.memory.specs.declared.span.Holder.TheVariants as holder
use Rattle.change.specs.declared.drops.Drops.{Drops}
use Rattle.change.specs.declared.change.LogChange.{LogChange}

-- "16 drops of each of the two kinds"
abbrev pub drop_room : ℕ
drop_room = 16

-- the record's id, the entries of the three kinds ("32 index keys, 32 value keys, 16 reference count keys": `span_of List`), and the drops
pub record Change : Type 0 where
  pub id : ℕ
  pub parts : Parts
  pub drops : Drops
  pub count_drops : Drops

-- as a call is handed it: what goes by value, and the two memories in which its keys and bytes lie
abbrev pub change_of : LogChange → List ℕ → List ℕ → Change
change_of l words bytes = record {
  id = l.record_id;
  parts = parts_of holder.List l.counts words bytes;
  drops = l.dropped_tables;
  count_drops = l.dropped_ref_count_tables;
}

-- an empty list, whatever the memories hold (log.rs 365-374)
abbrev pub no_drops : Drops
no_drops = record { tables = replicate 16 0; count = 0 }

-- an empty list, whatever the memories hold (`new`, log.rs 365-374)
abbrev pub new_list : ℕ → LogChange
new_list id = record { record_id = id; counts = no_counts; dropped_tables = no_drops; dropped_ref_count_tables = no_drops }

-- the list with other entries, or other drops
abbrev pub with_parts : Change → Parts → Change
with_parts l p = record { id = l.id; parts = p; drops = l.drops; count_drops = l.count_drops }

-- with other drops of index tables
abbrev pub with_drops : Change → Drops → Change
with_drops l s = record { id = l.id; parts = l.parts; drops = s; count_drops = l.count_drops }

-- with other drops of reference count tables
abbrev pub with_count_drops : Change → Drops → Change
with_count_drops l s = record { id = l.id; parts = l.parts; drops = l.drops; count_drops = s }

-- the rules that need no directory: "room kept, no key twice, no mask 0". A lookup that is handed a list tests these
unfoldable pub change_ruled : Change → Bool
change_ruled l = parts_kept holder.List l.parts && (leb l.drops.count drop_room && leb l.count_drops.count drop_room)

-- "Every value of a table has exactly that table's length."; of a mask the directory says nothing
abbrev pub mark_fits : TableKind → TableDescription → ℕ → Bool
mark_fits Index t mark = true
mark_fits Value t mark = eqb mark t.length
mark_fits RefCount t mark = true

-- a listed key fits the directory: its table is there, its index is below the table's count, its mark is right for the table
abbrev pub key_fits : TableKind → Option (ℕ × TableDescription) → ℕ → ℕ → Bool
key_fits kind (Some (row, t)) index mark = ltb index t.count && mark_fits kind t mark
key_fits kind None index mark = false

-- the key in place p fits
unfoldable pub entry_fits : Directory → TableKind → Overlay → ℕ → Bool
entry_fits d kind o p =
    key_fits kind (find_table d kind (get_or o.rows (4 * p) 0)) (get_or o.rows (4 * p + 1) 0) (mark_at o.rows p)

-- the places in use, as the order of their keys has them
abbrev pub places_of : Overlay → List ℕ
places_of o = take o.count o.order

-- all keys of a kind do
unfoldable pub entries_fit : Directory → TableKind → Overlay → Bool
entries_fit d kind o = every (entry_fits d kind o) (places_of o)

-- the keys of all three kinds
abbrev pub keys_fit : Directory → Change → Bool
keys_fit d l =
    entries_fit d Index l.parts.index && (entries_fit d Value l.parts.value && entries_fit d RefCount l.parts.ref_count)

-- a listed drop is of a table of the directory
unfoldable pub drops_fit : Directory → TableKind → Drops → Bool
drops_fit d kind s = every (stands (tables_of d) kind) (take s.count s.tables)

-- no "listed key doesn't fit the directory", drops among them
unfoldable pub change_fits : Directory → Change → Bool
change_fits d l = keys_fit d l && (drops_fit d Index l.drops && drops_fit d RefCount l.count_drops)

-- what a call is handed, directory and list. Any other is 13
unfoldable pub change_kept : Directory → Change → Bool
change_kept d l = directory_kept d && (change_ruled l && change_fits d l)
