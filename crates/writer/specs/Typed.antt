-- What the types say of a list that code is handed: a premise of the theorems, and no rule that is tested.
use Rattle.std.specs.Prelude.{◌≡◌, ℕ, ◌<◌, length, get_or}
use Rattle.directory.specs.declared.table.TableKind.{TableKind}
use Rattle.memory.specs.Parts.{of_kind}
use Rattle.change.specs.Change.{Change, drop_room}

-- the id and each word of a row are `u64`, the tables that are dropped `[u16; 16]`
pub record Typed (l : Change) : Type 0 where
  pub id : l.id < 18446744073709551616
  pub rows : (kind : TableKind) (k : ℕ) → get_or (of_kind kind l.parts).rows k 0 < 18446744073709551616
  pub drops : (k : ℕ) → get_or l.drops.tables k 0 < 65536
  pub count_drops : (k : ℕ) → get_or l.count_drops.tables k 0 < 65536
  pub drops_long : length l.drops.tables ≡ drop_room
  pub count_drops_long : length l.count_drops.tables ≡ drop_room
