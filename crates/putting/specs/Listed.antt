-- What a list's entries do to the shared overlays and to the last ids at the end of a record (document 01, "Change lists and overlays"; log.rs
-- lines 870 to 886).
use Rattle.std.specs.Prelude.{Bool, ◌||◌, List, [], ◌∷◌, map, ℕ, ◌+◌, ◌*◌, ltb, get_or, take, drop, set, Option, Some, None}
use Rattle.directory.specs.Directory.{find_table}
use Rattle.directory.specs.declared.table.TableKind.{TableKind}
use Rattle.directory.specs.declared.table.TableKind.TheVariants.{Index, Value, RefCount}
use Rattle.directory.specs.declared.directory.Directory.{Directory}
use Rattle.directory.specs.declared.table.TableDescription.{TableDescription}
use Rattle.keys.specs.Keys.{key_at, mark_at, keys_of, news}
use Rattle.overlay.specs.Rules.{Overlay, slot_size, stored_length}
use Rattle.overlay.specs.Overlay.{put_over}
use Rattle.overlay.specs.Entries.{Entry}
use Rattle.memory.specs.Parts.{Parts, of_kind, with_kind}
use Rattle.memory.specs.Overlays.{Overlays}

-- the keys in use
abbrev pub keys_held : Overlay → List ℕ
keys_held o = keys_of o.rows o.order o.count

-- "no room is answered exactly if shared and listed keys together pass 256, a key in both counted once"
unfoldable pub passes : Overlay → Overlay → Bool
passes list shared = ltb 256 (shared.count + news (keys_held shared) (keys_held list))

-- the same of any of the three kinds
unfoldable pub crowded : Parts → Parts → Bool
crowded list shared =
    passes list.index shared.index || (passes list.value shared.value || passes list.ref_count shared.ref_count)

-- the stored bytes of the list's entry in place p
abbrev pub stored_at : TableKind → Overlay → ℕ → List ℕ
stored_at kind list p = take (stored_length kind (mark_at list.rows p)) (drop (slot_size kind * p) list.bytes)

-- "puts each entry, id, mask and chunk, over the shared one; masks aren't joined there": the one in place p, under the record's id
unfoldable pub put_place : TableKind → ℕ → Overlay → ℕ → Overlay → Overlay
put_place kind id list p shared =
    put_over kind shared (get_or list.rows (4 * p) 0) (get_or list.rows (4 * p + 1) 0) id (mark_at list.rows p) (stored_at kind list p)

-- those in the places listed, one after the other
unfoldable pub put_places : TableKind → ℕ → Overlay → List ℕ → Overlay → Overlay
put_places kind id list [] shared = shared
put_places kind id list (p ∷ ps) shared = put_places kind id list ps (put_place kind id list p shared)

-- all of a kind, in their order
abbrev pub put_listed : TableKind → ℕ → Overlay → Overlay → Overlay
put_listed kind id list shared = put_places kind id list (take list.count list.order) shared

-- all entries of a kind, in their order, over the shared ones of that kind
unfoldable pub put_kind : TableKind → ℕ → Parts → Parts → Parts
put_kind kind id list shared = with_kind kind shared (put_listed kind id (of_kind kind list) (of_kind kind shared))

-- all of a list: no kind touches another's
abbrev pub put_all : ℕ → Parts → Parts → Parts
put_all id list shared = put_kind RefCount id list (put_kind Value id list (put_kind Index id list shared))

-- what the list has of the key in place p, under the record's id
abbrev pub listed_entry : TableKind → ℕ → Overlay → ℕ → Entry
listed_entry kind id list p = record { key = key_at list.rows p; id = id; mark = mark_at list.rows p; bytes = stored_at kind list p }

-- and of each of its keys, in their order
abbrev pub listed_entries : TableKind → ℕ → Overlay → List Entry
listed_entries kind id list = map (listed_entry kind id list) (take list.count list.order)

-- the column of a value table
abbrev pub column_of : Option (ℕ × TableDescription) → ℕ
column_of (Some (row, t)) = t.column
column_of None = 8

-- "Only values set the column's last id." (line 879). Of a list that fits the directory each table is found; there is no column 8
unfoldable pub last_ids_by : Directory → ℕ → List ℕ → List ℕ → List ℕ → List ℕ
last_ids_by d id rows [] ids = ids
last_ids_by d id rows (p ∷ ps) ids = last_ids_by d id rows ps (set ids (column_of (find_table d Value (get_or rows (4 * p) 0))) id)

-- each value of the list, in its order
abbrev pub last_ids_put : Directory → ℕ → Overlay → List ℕ → List ℕ
last_ids_put d id values ids = last_ids_by d id values.rows (take values.count values.order) ids

-- the overlays once a list's entries are put over them, under the record's id
unfoldable pub overlays_put : Directory → ℕ → Parts → Overlays → Overlays
overlays_put d id list o = record { parts = put_all id list o.parts; last_ids = last_ids_put d id list.value o.last_ids }
