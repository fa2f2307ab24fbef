-- What a record takes out of the overlays (document 01: "Clearing reads an accepted record again in place of `Cleared`."; log.rs: `Cleared`,
-- lines 204 to 209, filled at lines 276, 285 and 294, and `end_read`, lines 905 to 932).
use Rattle.std.specs.Prelude.{Bool, false, ◌&&◌, ◌||◌, List, [], ◌∷◌, ℕ, eqb, Option, Some, None}
use Rattle.directory.specs.Table.{same_kind_of}
use Rattle.directory.specs.declared.table.TableKind.{TableKind}
use Rattle.directory.specs.declared.table.TableKind.TheVariants.{Index, Value, RefCount}
use Rattle.record.specs.declared.action.LogAction.{LogAction}
use Rattle.record.specs.declared.action.LogAction.TheVariants.{BeginRecord, InsertIndex, InsertValue, InsertRefCount, EndRecord, DropTable, DropRefCountTable}
use Rattle.effect.specs.Effect.{Written}
use Rattle.keys.specs.Keys.{rank}
use Rattle.memory.specs.Parts.{Parts, remove_from}

-- a key in a table of a kind, table and index, or none
abbrev pub NamedKey : Type 0
NamedKey = Option (TableKind × ℕ × ℕ)

-- the key that an action names: its kind, table and index. A mask of 0 names its key as any other, a drop names none
abbrev pub named_by : LogAction → NamedKey
named_by (InsertIndex a) = Some (Index, a.table.0, a.index)
named_by (InsertValue a) = Some (Value, a.table.0, a.index)
named_by (InsertRefCount a) = Some (RefCount, a.table.0, a.index)
named_by (DropTable t) = None
named_by (DropRefCountTable t) = None
named_by BeginRecord = None
named_by EndRecord = None

-- "An entry goes only if its stored id equals the record's; a newer one stays."
abbrev pub cleared_key : ℕ → NamedKey → Parts → Parts
cleared_key id None p = p
cleared_key id (Some (kind, table, index)) p = remove_from kind p (rank table index) id

-- the overlays behind a record of that id, action by action
unfoldable pub cleared_by : ℕ → List Written → Parts → Parts
cleared_by id [] p = p
cleared_by id (w ∷ ws) p = cleared_by id ws (cleared_key id (named_by w.action) p)

-- whether an action, or a record's actions, name a key of a kind
abbrev pub hits : TableKind → ℕ → NamedKey → Bool
hits kind key None = false
hits kind key (Some (own, table, index)) = same_kind_of own kind && eqb (rank table index) key

-- whether a record's actions name a key of a kind
abbrev pub names : TableKind → ℕ → List Written → Bool
names kind key [] = false
names kind key (w ∷ ws) = hits kind key (named_by w.action) || names kind key ws
