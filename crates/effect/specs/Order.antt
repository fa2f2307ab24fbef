-- Demand 3's premises: "no kind, table and index is written twice, and in neither record a table is written after its own drop".
use Rattle.std.specs.Prelude.{◌≡◌, List, [], ◌∷◌, ℕ, eqb}
use Rattle.std.proofs.Math.Option.{Option, none, some}
use Rattle.std.specs.Prelude.{if◌then◌else◌}
use Rattle.directory.specs.declared.table.TableKind.{TableKind}
use Rattle.directory.specs.declared.table.TableKind.TheVariants.{Index, Value, RefCount}
use Rattle.record.specs.declared.action.LogAction.{LogAction}
use Rattle.record.specs.declared.action.LogAction.TheVariants.{BeginRecord, InsertIndex, InsertValue, InsertRefCount, EndRecord, DropTable, DropRefCountTable}
use Rattle.effect.specs.Effect.{Written, mask_in}

-- a table as an action names it, and an index of it
pub record NamedTable : Type 0 where
  pub kind : TableKind
  pub number : ℕ

-- a kind, table and index: what an action writes to
pub record Target : Type 0 where
  pub table : NamedTable
  pub index : ℕ

-- one from its numbers
abbrev pub target : TableKind → ℕ → ℕ → Target
target kind number index = record { table = record { kind = kind; number = number }; index = index }

-- "A mask of 0 is accepted and sets nothing."
abbrev pub if_masked : List ℕ → Target → Option Target
if_masked payload t = if eqb (mask_in payload) 0 then none else some t

-- where an action writes, if it writes
abbrev pub written_by : LogAction → List ℕ → Option Target
written_by (InsertIndex a) payload = if_masked payload (target Index a.table.0 a.index)
written_by (InsertValue a) payload = some (target Value a.table.0 a.index)
written_by (InsertRefCount a) payload = if_masked payload (target RefCount a.table.0 a.index)
written_by (DropTable t) payload = none
written_by (DropRefCountTable t) payload = none
written_by BeginRecord payload = none
written_by EndRecord payload = none

-- the table that an action drops, if it drops one
abbrev pub dropped_by : LogAction → Option NamedTable
dropped_by (InsertIndex a) = none
dropped_by (InsertValue a) = none
dropped_by (InsertRefCount a) = none
dropped_by (DropTable t) = some (record { kind = Index; number = t.0 })
dropped_by (DropRefCountTable t) = some (record { kind = RefCount; number = t.0 })
dropped_by BeginRecord = none
dropped_by EndRecord = none

-- the same of an action with its payload
abbrev pub writes_to : Written → Option Target
writes_to w = written_by w.action w.payload

-- the table that it drops
abbrev pub drops_table : Written → Option NamedTable
drops_table w = dropped_by w.action

-- P of each action
abbrev pub Each : (Written → Type 0) → List Written → Type 0
Each P [] = Unit {0}
Each P (w ∷ ws) = P w × Each P ws

-- R of each two, the earlier one first
abbrev pub Pairs : (Written → Written → Type 0) → List Written → Type 0
Pairs R [] = Unit {0}
Pairs R (w ∷ ws) = Each (R w) ws × Pairs R ws

-- "no kind, table and index is written twice"
abbrev pub Other : Written → Written → Type 0
Other v w = (t : Target) → writes_to v ≡ some t → writes_to w ≡ some t → ⊥

-- "a table is written after its own drop": not
abbrev pub Spared : Written → Written → Type 0
Spared v w = (t : Target) → drops_table v ≡ some t.table → writes_to w ≡ some t → ⊥
