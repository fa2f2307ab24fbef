-- What the inner functions ask and give: nothing here is to be believed.
use Rattle.std.specs.Prelude.{List, ◌++◌, ℕ, ◌+◌, ◌*◌, ◌≤◌, ◌<◌, length, get_or}
use Rattle.directory.specs.declared.table.TableKind.{TableKind}
use Rattle.directory.specs.declared.table.TableKind.TheVariants.{Index, Value, RefCount}
use Rattle.keys.specs.Keys.{mark_at}
use Rattle.overlay.specs.Rules.{slot_size, stored_length}
use Rattle.change.specs.Change.{Change}
use Rattle.output.specs.Put.{le}
use Rattle.writer.specs.Bytes.{entries, drops_bytes}

-- the key in place p can be written: its row is there, its table has a 16-bit number, its chunk or value lies in the bytes
pub record Writable (kind : TableKind) (rows bytes : List ℕ) (p : ℕ) : Type 0 where
  pub place : p < 256
  pub row : 4 * p + 4 ≤ length rows
  pub table : get_or rows (4 * p) 0 < 65536
  pub lies : slot_size kind * p + stored_length kind (mark_at rows p) ≤ length bytes

-- from the begin tag to the last entry, and to the last drop
abbrev pub inserts_of : Change → List ℕ
inserts_of l = le 1 1 ++ le 8 l.id ++ entries Index l.parts.index ++ entries Value l.parts.value ++ entries RefCount l.parts.ref_count

abbrev pub changes_of : Change → List ℕ
changes_of l = inserts_of l ++ drops_bytes 5 l.drops ++ drops_bytes 7 l.count_drops
