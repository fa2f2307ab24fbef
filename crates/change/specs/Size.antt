-- The length of a list's record, known before a byte of it is written (document 01, "Record bytes": what stands behind each tag; "the largest
-- record is 50,526 bytes"). log.rs counts as it writes (lines 384 to 389 and 446).
use Rattle.std.specs.Prelude.{List, [], ◌∷◌, ℕ, ◌+◌, ◌*◌, take, Result, Ok, Err}
use Rattle.std.specs.Int.Count.{ones}
use Rattle.std.specs.Prelude.{if◌then◌else◌}
use Rattle.answer.specs.declared.answer.Answer.{Answer}
use Rattle.answer.specs.declared.answer.Answer.TheVariants.{BadState}
use Rattle.directory.specs.declared.table.TableKind.{TableKind}
use Rattle.directory.specs.declared.table.TableKind.TheVariants.{Index, Value, RefCount}
use Rattle.directory.specs.declared.directory.Directory.{Directory}
use Rattle.keys.specs.Keys.{mark_at}
use Rattle.overlay.specs.Rules.{Overlay}
use Rattle.change.specs.Change.{Change, change_kept}

-- of one entry: tag, table and index, then mask and set slots, or the value
abbrev pub entry_size : TableKind → ℕ → ℕ
entry_size Index mask = 19 + 8 * ones mask
entry_size Value len = 11 + len
entry_size RefCount mask = 19 + 16 * ones mask

-- of the entries in the places listed
unfoldable pub places_size : TableKind → List ℕ → List ℕ → ℕ
places_size kind rows [] = 0
places_size kind rows (p ∷ ps) = entry_size kind (mark_at rows p) + places_size kind rows ps

-- of all entries of a kind
unfoldable pub entries_size : TableKind → Overlay → ℕ
entries_size kind o = places_size kind o.rows (take o.count o.order)

-- of the record: 9 bytes to begin, 5 to end, 3 a drop
unfoldable pub record_size : Change → ℕ
record_size l =
    14 + entries_size Index l.parts.index + entries_size Value l.parts.value + entries_size RefCount l.parts.ref_count
    + 3 * l.drops.count + 3 * l.count_drops.count

-- `record_size`: 13 for a list that breaks a rule
unfoldable pub sized : Directory → Change → Result ℕ Answer
sized d l = if change_kept d l then Ok (record_size l) else Err BadState
