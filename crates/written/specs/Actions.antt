-- The actions that a change list is written as, in the writer's order (document 01, "The writer's order"; log.rs `flush_to_file`, lines 380
-- to 454), and the bytes of an action.
use Rattle.std.specs.Prelude.{List, [], ◌∷◌, ◌++◌, map, ℕ, ◌+◌, ◌*◌, take, drop, get_or}
use Rattle.directory.specs.declared.table.TableKind.{TableKind}
use Rattle.directory.specs.declared.table.TableKind.TheVariants.{Index, Value, RefCount}
use Rattle.record.specs.Record.{insert_of, drop_index, drop_ref_count, tag_of}
use Rattle.record.specs.declared.action.LogAction.{LogAction}
use Rattle.record.specs.declared.action.LogAction.TheVariants.{BeginRecord, InsertIndex, InsertValue, InsertRefCount, EndRecord, DropTable, DropRefCountTable}
use Rattle.effect.specs.Effect.{Written, written}
use Rattle.keys.specs.Keys.{rank, mark_at}
use Rattle.overlay.specs.Rules.{Overlay, slot_size}
use Rattle.change.specs.Change.{Change}
use Rattle.change.specs.declared.drops.Drops.{Drops}
use Rattle.output.specs.Put.{le}
use Rattle.writer.specs.Bytes.{payload_of}

-- the key in place p, with the chunk or value in slot p of the kind's bytes
unfoldable pub insert_at : TableKind → Overlay → ℕ → Written
insert_at kind o p =
    written (insert_of kind (get_or o.rows (4 * p) 0) (get_or o.rows (4 * p + 1) 0)) (payload_of kind (mark_at o.rows p) (drop (slot_size kind * p) o.bytes))

-- "by table number, then index, ascending": as the keys' order has them
unfoldable pub inserts : TableKind → Overlay → List Written
inserts kind o = map (insert_at kind o) (take o.count o.order)

-- a drop as an action; it has no payload
abbrev pub drop_at : (ℕ → LogAction) → ℕ → Written
drop_at action table = written (action table) []

-- "drops in call order, repeats kept"
unfoldable pub drops_of : (ℕ → LogAction) → Drops → List Written
drops_of action s = map (drop_at action) (take s.count s.tables)

-- "index, values, reference counts"
unfoldable pub all_inserts : Change → List Written
all_inserts l = inserts Index l.parts.index ++ inserts Value l.parts.value ++ inserts RefCount l.parts.ref_count

-- "index drops, reference count drops"
unfoldable pub all_drops : Change → List Written
all_drops l = drops_of drop_index l.drops ++ drops_of drop_ref_count l.count_drops

-- all of them: "index, values, reference counts, index drops, reference count drops"
unfoldable pub list_actions : Change → List Written
list_actions l = all_inserts l ++ all_drops l

-- what stands behind an action's tag and before its payload: "table 2, index 8", or "table 2"
abbrev pub named_bytes : LogAction → List ℕ
named_bytes (InsertIndex a) = le 2 a.table.0 ++ le 8 a.index
named_bytes (InsertValue a) = le 2 a.table.0 ++ le 8 a.index
named_bytes (InsertRefCount a) = le 2 a.table.0 ++ le 8 a.index
named_bytes (DropTable t) = le 2 t.0
named_bytes (DropRefCountTable t) = le 2 t.0
named_bytes BeginRecord = []
named_bytes EndRecord = []

-- the bytes of an action: its tag, what it names, its payload
abbrev pub action_bytes : Written → List ℕ
action_bytes w = le 1 (tag_of w.action) ++ named_bytes w.action ++ w.payload

-- one behind the other
unfoldable pub actions_bytes : List Written → List ℕ
actions_bytes [] = []
actions_bytes (w ∷ ws) = action_bytes w ++ actions_bytes ws

-- the key that an insertion names, "by table number, then index"
abbrev pub rank_of : LogAction → ℕ
rank_of (InsertIndex a) = rank a.table.0 a.index
rank_of (InsertValue a) = rank a.table.0 a.index
rank_of (InsertRefCount a) = rank a.table.0 a.index
rank_of (DropTable t) = 0
rank_of (DropRefCountTable t) = 0
rank_of BeginRecord = 0
rank_of EndRecord = 0
