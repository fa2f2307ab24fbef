-- The bytes that a change list is written as (document 01, "Record bytes" and "The writer's order"; log.rs `flush_to_file`, lines 380 to 454).
use Rattle.std.specs.Prelude.{List, [], ◌++◌, ℕ, zero, suc, ◌+◌, ◌*◌, ◌/◌, ◌%◌, eqb, take, drop, get_or}
use Rattle.std.specs.Prelude.{if◌then◌else◌}
use Rattle.checksum.specs.Checksum.{checksum_of}
use Rattle.directory.specs.declared.table.TableKind.{TableKind}
use Rattle.directory.specs.declared.table.TableKind.TheVariants.{Index, Value, RefCount}
use Rattle.keys.specs.Keys.{mark_at}
use Rattle.overlay.specs.Rules.{Overlay, slot_size}
use Rattle.change.specs.Change.{Change}
use Rattle.change.specs.declared.drops.Drops.{Drops}
use Rattle.output.specs.Put.{le, joined}

-- of n slots of w bytes those that the mask names, "lowest bit first" (lines 400 to 405 and 422 to 430)
unfoldable pub set_slots : ℕ → ℕ → ℕ → List ℕ → List ℕ
set_slots zero w mask chunk = []
set_slots (suc n) w mask chunk = (if eqb (mask % 2) 1 then take w chunk else []) ++ set_slots n w (mask / 2) (drop w chunk)

-- "mask 8, then 8 bytes per set bit" (16 for a reference count)
unfoldable pub masked_bytes : ℕ → ℕ → List ℕ → List ℕ
masked_bytes w mask chunk = le 8 mask ++ set_slots 64 w mask chunk

-- what stands behind the index. A key's mark is its mask or its value's length; its chunk or value begins where `bytes` does
abbrev pub payload_of : TableKind → ℕ → List ℕ → List ℕ
payload_of Index mask bytes = masked_bytes 8 mask bytes
payload_of Value len bytes = take len bytes
payload_of RefCount mask bytes = masked_bytes 16 mask bytes

-- "2 index", "3 value", "6 reference count"
abbrev pub insert_tag : TableKind → ℕ
insert_tag Index = 2
insert_tag Value = 3
insert_tag RefCount = 6

-- the tag, "table 2, index 8", then the payload (lines 394 to 432)
unfoldable pub entry_bytes : TableKind → ℕ → ℕ → ℕ → List ℕ → List ℕ
entry_bytes kind table index mark bytes = le 1 (insert_tag kind) ++ le 2 table ++ le 8 index ++ payload_of kind mark bytes

-- that of the key in place p, whose chunk or value is slot p of the kind's bytes
unfoldable pub entry_bytes_at : TableKind → Overlay → ℕ → List ℕ
entry_bytes_at kind o p =
    entry_bytes kind (get_or o.rows (4 * p) 0) (get_or o.rows (4 * p + 1) 0) (mark_at o.rows p) (drop (slot_size kind * p) o.bytes)

-- "by table number, then index, ascending": as the keys' order has them
unfoldable pub entries : TableKind → Overlay → List ℕ
entries kind o = joined (entry_bytes_at kind o) (take o.count o.order)

-- the tag, "table 2" (lines 433 to 442)
unfoldable pub drop_bytes : ℕ → ℕ → List ℕ
drop_bytes tag table = le 1 tag ++ le 2 table

-- "drops in call order, repeats kept"
unfoldable pub drops_bytes : ℕ → Drops → List ℕ
drops_bytes tag s = joined (drop_bytes tag) (take s.count s.tables)

-- "index, values, reference counts, index drops, reference count drops", from "1 begin" with its id to "4 end"; "5 drop index table", "7 drop
-- reference count table"
unfoldable pub body : Change → List ℕ
body l =
    le 1 1 ++ le 8 l.id
    ++ entries Index l.parts.index
    ++ entries Value l.parts.value
    ++ entries RefCount l.parts.ref_count
    ++ drops_bytes 5 l.drops
    ++ drops_bytes 7 l.count_drops
    ++ le 1 4

-- "The checksum covers every byte from tag 1 up to and including tag 4, not itself" (lines 443 to 446)
unfoldable pub record_of : Change → List ℕ
record_of l = body l ++ le 4 (checksum_of (body l))
