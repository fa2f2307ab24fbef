-- What an action does to the image, and a record: its actions in written order (document 01, "Record bytes" and "Replay"; added: log.rs
-- hands its actions out and knows no tables).
use Rattle.std.specs.Prelude.{List, [], ◌∷◌, ℕ, zero, suc, ◌+◌, ◌*◌, ◌/◌, ◌%◌, eqb, ltb, take, drop, replicate, Some, None}
use Rattle.std.specs.Prelude as std
use Rattle.std.proofs.Math.Option.{Option, none, some}
use Rattle.std.proofs.lemmas.List.Edits.{sets}
use Rattle.std.specs.Prelude.{if◌then◌else◌}
use Rattle.words.specs.Words.{little}
use Rattle.directory.specs.Table.{slot_length, size_of}
use Rattle.directory.specs.Directory.{find_table, start_of}
use Rattle.directory.specs.declared.table.TableKind.{TableKind}
use Rattle.directory.specs.declared.table.TableKind.TheVariants.{Index, Value, RefCount}
use Rattle.directory.specs.declared.table.TableDescription.{TableDescription}
use Rattle.directory.specs.declared.directory.Directory.{Directory}
use Rattle.record.specs.declared.action.LogAction.{LogAction}
use Rattle.record.specs.declared.action.LogAction.TheVariants.{BeginRecord, InsertIndex, InsertValue, InsertRefCount, EndRecord, DropTable, DropRefCountTable}

-- an action as it is written: with its payload's bytes, all that stands behind the index
pub record Written : Type 0 where
  pub action : LogAction
  pub payload : List ℕ

-- an action with its payload
abbrev pub written : LogAction → List ℕ → Written
written action payload = record { action = action; payload = payload }

-- "mask 8, then 8 bytes per set bit"
abbrev pub mask_in : List ℕ → ℕ
mask_in payload = little (take 8 payload)

-- the entries behind the mask
abbrev pub entries_in : List ℕ → List ℕ
entries_in payload = drop 8 payload

-- a table and where it begins in the image
pub record Place : Type 0 where
  pub at : ℕ
  pub table : TableDescription

-- the place of a table that was found
abbrev pub placed : Directory → std.Option (ℕ × TableDescription) → Option Place
placed d None = none
placed d (Some (row, t)) = some (record { at = start_of d row; table = t })

-- the place of the table of a kind and a number
unfoldable pub place_of : Directory → TableKind → ℕ → Option Place
place_of d kind number = placed d (find_table d kind number)

-- bytes that are stored one behind the other from a position on
pub data Stroke : Type 0 where
  stroke : (at : ℕ) → (bytes : List ℕ) → Stroke

-- The mask's low n bits, "lowest bit first", each for w bytes from `at` on: a set bit takes the next w bytes of the entries.
-- (The two cases are bound by `let`, which waits: as arguments both would be computed, 2 to the n calls in all.)
unfoldable pub slot_strokes : ℕ → ℕ → ℕ → ℕ → List ℕ → List Stroke
slot_strokes zero w at mask entries = []
slot_strokes (suc n) w at mask entries =
    let taken : List Stroke = stroke at (take w entries) ∷ slot_strokes n w (at + w) (mask / 2) (drop w entries) in
    let passed : List Stroke = slot_strokes n w (at + w) (mask / 2) entries in
    if eqb (mask % 2) 1 then taken else passed

-- the strokes under index i of a table, if there is such an index
unfoldable pub under_index : Option Place → ℕ → (ℕ → ℕ → List Stroke) → List Stroke
under_index none i f = []
under_index (some p) i f = if ltb i p.table.count then f (p.at + i * slot_length p.table) (slot_length p.table) else []

-- "a drop zeroes the table's bytes"
unfoldable pub zeroed : Option Place → List Stroke
zeroed none = []
zeroed (some p) = stroke p.at (replicate (size_of p.table) 0) ∷ []

-- what each action stores
unfoldable pub strokes : Directory → LogAction → List ℕ → List Stroke
strokes d (InsertIndex a) payload = under_index (place_of d Index a.table.0) a.index (λ at u. slot_strokes 64 8 at (mask_in payload) (entries_in payload))
strokes d (InsertValue a) payload = under_index (place_of d Value a.table.0) a.index (λ at u. stroke at (take u payload) ∷ [])
strokes d (InsertRefCount a) payload = under_index (place_of d RefCount a.table.0) a.index (λ at u. slot_strokes 64 16 at (mask_in payload) (entries_in payload))
strokes d (DropTable t) payload = zeroed (place_of d Index t.0)
strokes d (DropRefCountTable t) payload = zeroed (place_of d RefCount t.0)
strokes d BeginRecord payload = []
strokes d EndRecord payload = []

-- the strokes in turn
unfoldable pub puts : List Stroke → List ℕ → List ℕ
puts [] image = image
puts (stroke at bytes ∷ ss) image = puts ss (sets image at bytes)

-- the image after one action
unfoldable pub done : Directory → Written → List ℕ → List ℕ
done d w image = puts (strokes d w.action w.payload) image

-- "Then actions apply as they stand in the bytes": the image after a record's actions
unfoldable pub apply : Directory → List Written → List ℕ → List ℕ
apply d [] image = image
apply d (w ∷ ws) image = apply d ws (done d w image)

-- the actions stopped after the first n of them; taken again from the first, and stopped after the next number of the list; and so on
unfoldable pub stopped_at : Directory → List Written → List ℕ → List ℕ → List ℕ
stopped_at d s [] image = image
stopped_at d s (n ∷ stops) image = stopped_at d s stops (apply d (take n s) image)
