-- A record's bytes and how they are read (document 01, "Record bytes", "Numbered answers", "The opening of a record").
-- The order of the lines is the order of the checks, and each line that may refuse has its number. Beside it: `LogReader::next`, log.rs 251-330.
use Rattle.std.specs.Prelude.{Bool, not, ◌||◌, [], ◌∷◌, ℕ, ◌+◌, ◌*◌, eqb, ltb, take, drop, Option, Some, None}
use Rattle.std.specs.Int.Count.{ones}
use Rattle.std.specs.Prelude.{if◌then◌else◌}
use Rattle.words.specs.Words.{little}
use Rattle.checksum.specs.Checksum.{updated, finished, checksum_of}
use Rattle.directory.specs.Directory.{find_table}
use Rattle.directory.specs.declared.table.TableKind.{TableKind}
use Rattle.directory.specs.declared.table.TableKind.TheVariants.{Index, Value, RefCount}
use Rattle.directory.specs.declared.table.TableDescription.{TableDescription}
use Rattle.directory.specs.declared.directory.Directory.{Directory}
use Rattle.record.specs.Format.{Format, refuse, give, ◌>>=◌, ◌>>◌, bytes, byte, test}
use Rattle.answer.specs.declared.answer.Answer.TheVariants.{EndOfLog, Cut, UnknownTag, OutOfPlace, NoTable, NoIndex, WrongSum}
use Rattle.record.specs.declared.action.LogAction.{LogAction}
use Rattle.record.specs.declared.action.LogAction.TheVariants.{BeginRecord, InsertIndex, InsertValue, InsertRefCount, EndRecord, DropTable, DropRefCountTable}
use Rattle.record.specs.declared.item.Key.{Key}

-- what a step inside a record reads: the action, and how many of its bytes are payload. They are the last ones, all that
-- stands behind the index
pub record Item : Type 0 where
  pub action : LogAction
  pub payload : ℕ

-- the actions of the three kinds of insertion (log.rs 41-68: an action carries table and index)
abbrev pub insert_of : TableKind → ℕ → ℕ → LogAction
insert_of Index table index = InsertIndex (record { table = record { 0 = table }; index = index })
insert_of Value table index = InsertValue (record { table = record { 0 = table }; index = index })
insert_of RefCount table index = InsertRefCount (record { table = record { 0 = table }; index = index })

-- and of the two kinds of drop
abbrev pub drop_index : ℕ → LogAction
drop_index table = DropTable (record { 0 = table })

-- a drop of a reference count table
abbrev pub drop_ref_count : ℕ → LogAction
drop_ref_count table = DropRefCountTable (record { 0 = table })

-- the tag that each action begins with (log.rs 24-30)
abbrev pub tag_of : LogAction → ℕ
tag_of BeginRecord = 1
tag_of (InsertIndex a) = 2
tag_of (InsertValue a) = 3
tag_of EndRecord = 4
tag_of (DropTable t) = 5
tag_of (InsertRefCount a) = 6
tag_of (DropRefCountTable t) = 7

-- "table not in the directory under that kind"
abbrev pub known : Option (ℕ × TableDescription) → Format TableDescription
known None = refuse NoTable
known (Some (row, t)) = give t

-- "table right after its 10 bytes .., then index, then the payload"
unfoldable pub key : Directory → TableKind → Format Key
key d kind = do
  header ← bytes 10 Cut  -- 2
  t ← known (find_table d kind (little (take 2 header)))  -- 6
  test (ltb (little (drop 2 header)) t.count) NoIndex  -- 7
  give (record { table = little (take 2 header); index = little (drop 2 header); description = t })

-- "mask 8, then 8 bytes per set bit, lowest bit first"; "as 2, with 16 bytes per set bit". "A mask of 0 is accepted"
unfoldable pub chunk : TableKind → ℕ → Key → Format Item
chunk kind width k = do
  mask ← bytes 8 Cut  -- 2
  bytes (ones (little mask) * width) Cut  -- 2
  give (record { action = insert_of kind k.table k.index; payload = 8 + ones (little mask) * width })

-- tags 2 and 6 (log.rs 270-278, 288-296)
unfoldable pub masked_item : Directory → TableKind → ℕ → Format Item
masked_item d kind width = do
  k ← key d kind
  chunk kind width k

-- how many bytes a record has for a value: "Every value of a table has exactly that table's length."
abbrev pub value_length : TableDescription → ℕ
value_length t = t.length

-- behind the key, the value
unfoldable pub value : Key → Format Item
value k = do
  bytes (value_length k.description) Cut  -- 2
  give (record { action = insert_of Value k.table k.index; payload = value_length k.description })

-- tag 3 (log.rs 279-287)
unfoldable pub valued_item : Directory → Format Item
valued_item d = do
  k ← key d Value
  value k

-- "table right after its .. 2 for a drop"
unfoldable pub table : Directory → TableKind → Format ℕ
table d kind = do
  number ← bytes 2 Cut  -- 2
  known (find_table d kind (little number))  -- 6
  give (little number)

-- tags 5 and 7 (log.rs 316-327)
unfoldable pub dropped_item : Directory → TableKind → (ℕ → LogAction) → Format Item
dropped_item d kind action = do
  number ← table d kind
  give (record { action = action number; payload = 0 })

-- the checksum of all before the end tag being `register`, "up to and including tag 4, not itself"; tested "if validating"
unfoldable pub sum_holds : Bool → ℕ → ℕ → Bool
sum_holds validate register sum = not validate || eqb sum (finished (updated register (4 ∷ [])))

-- tag 4 (log.rs 297-315)
unfoldable pub ended_item : Bool → ℕ → Format Item
ended_item validate register = do
  sum ← bytes 4 Cut  -- 2
  test (sum_holds validate register (little sum)) WrongSum  -- 8
  give (record { action = EndRecord; payload = 0 })

-- "Otherwise a decision on the tag byte", behind the opening: "an early end gives 2, and tag 1 gives 4 at once"
unfoldable pub inside_by : Directory → Bool → ℕ → ℕ → Format Item
inside_by d validate register tag =
    if eqb tag 1 then refuse OutOfPlace else  -- 4
    if eqb tag 2 then masked_item d Index 8 else
    if eqb tag 3 then valued_item d else
    if eqb tag 4 then ended_item validate register else
    if eqb tag 5 then dropped_item d Index drop_index else
    if eqb tag 6 then masked_item d RefCount 16 else
    if eqb tag 7 then dropped_item d RefCount drop_ref_count else
    refuse UnknownTag  -- 3

-- one step inside a record. `register` is the checksum's register over the record's bytes so far
unfoldable pub inside : Directory → Bool → ℕ → Format Item
inside d validate register = do
  tag ← byte Cut  -- 2
  inside_by d validate register tag

-- an action other than begin: "with under 10 more .. 1 ..; with enough bytes they give 4"
unfoldable pub early : ℕ → Format ℕ
early k = do
  bytes k EndOfLog  -- 1
  refuse OutOfPlace  -- 4

-- "Tag 1 with under 8 more bytes gives 1."; the id (log.rs 264-269)
unfoldable pub begun_id : Format ℕ
begun_id = do
  id ← bytes 8 EndOfLog  -- 1
  give (little id)

-- "Tag 4 with 4 bytes gives 8 instead if validating and they aren't the checksum of that one byte."
unfoldable pub early_end : Bool → Format ℕ
early_end validate = do
  sum ← bytes 4 EndOfLog  -- 1
  test (not validate || eqb (little sum) (checksum_of (4 ∷ []))) WrongSum  -- 8
  refuse OutOfPlace  -- 4

-- "Tag 1 ..", "Tags 2, 3, 6 with under 10 more, tags 5, 7 with under 2, tag 4 with under 4 give 1 as well", "Other tags give 3."
unfoldable pub opening_by : Bool → ℕ → Format ℕ
opening_by validate tag =
    if eqb tag 1 then begun_id else
    if eqb tag 2 then early 10 else
    if eqb tag 3 then early 10 else
    if eqb tag 4 then early_end validate else
    if eqb tag 5 then early 2 else
    if eqb tag 6 then early 10 else
    if eqb tag 7 then early 2 else
    refuse UnknownTag  -- 3

-- "At the position: no byte left gives 1. Otherwise a decision on the tag byte." (log.rs 1038-1063, `read_next`)
unfoldable pub opening : Bool → Format ℕ
opening validate = do
  tag ← byte EndOfLog  -- 1
  opening_by validate tag
