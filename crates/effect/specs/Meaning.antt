-- Demand 2, with no order and no stores in it: "an accepted record sets exactly the entries its masks name and the values it lists, zeroes
-- the tables it drops, and touches nothing else". What an action says of each byte of the image.
use Rattle.std.specs.Prelude.{◌≡◌, Bool, ◌&&◌, List, [], ◌∷◌, ℕ, zero, suc, ◌+◌, ◌-◌, ◌*◌, ◌/◌, ◌%◌, eqb, leb, ltb, length, get_or}
use Rattle.std.proofs.Math.Option.{Option, none, some, or_else}
use Rattle.std.specs.Int.Count.{ones_in, ones}
use Rattle.std.specs.Prelude.{if◌then◌else◌}
use Rattle.directory.specs.Table.{slot_length, size_of}
use Rattle.directory.specs.declared.table.TableKind.TheVariants.{Index, Value, RefCount}
use Rattle.directory.specs.declared.directory.Directory.{Directory}
use Rattle.record.specs.Record.{value_length}
use Rattle.record.specs.declared.action.LogAction.{LogAction}
use Rattle.record.specs.declared.action.LogAction.TheVariants.{BeginRecord, InsertIndex, InsertValue, InsertRefCount, EndRecord, DropTable, DropRefCountTable}
use Rattle.effect.specs.Effect.{Written, mask_in, entries_in, Place, place_of}

-- bit s of a mask
unfoldable pub bit : ℕ → ℕ → Bool
bit m zero = eqb (m % 2) 1
bit m (suc s) = bit (m / 2) s

-- p is one of the n positions from `at` on
unfoldable pub lies_in : ℕ → ℕ → ℕ → Bool
lies_in at n p = leb at p && ltb p (at + n)

-- "exactly the entries its masks name": of a chunk of 64 slots of w bytes at `at`, byte j of slot s is byte j of the payload's r-th entry if
-- bit s is set, r being how many set bits are below it
unfoldable pub by_mask : ℕ → ℕ → ℕ → List ℕ → ℕ → Option ℕ
by_mask w at mask entries p =
    let s : ℕ = (p - at) / w in
    let j : ℕ = (p - at) % w in
    if lies_in at (64 * w) p && bit mask s then some (get_or entries (ones_in s mask * w + j) 0) else none

-- "and the values it lists"
unfoldable pub by_value : ℕ → ℕ → List ℕ → ℕ → Option ℕ
by_value at n bytes p = if lies_in at n p then some (get_or bytes (p - at) 0) else none

-- what is said under index i of a table, if there is such an index
unfoldable pub of_index : Option Place → ℕ → (ℕ → ℕ → Option ℕ) → Option ℕ
of_index none i f = none
of_index (some P) i f = if ltb i P.table.count then f (P.at + i * slot_length P.table) (slot_length P.table) else none

-- "zeroes the tables it drops"
unfoldable pub of_drop : Option Place → ℕ → Option ℕ
of_drop none p = none
of_drop (some P) p = if lies_in P.at (size_of P.table) p then some 0 else none

-- the byte that an action says is to stand at p, if it says any
unfoldable pub says_of : Directory → LogAction → List ℕ → ℕ → Option ℕ
says_of d (InsertIndex a) payload p = of_index (place_of d Index a.table.0) a.index (λ at u. by_mask 8 at (mask_in payload) (entries_in payload) p)
says_of d (InsertValue a) payload p = of_index (place_of d Value a.table.0) a.index (λ at u. by_value at u payload p)
says_of d (InsertRefCount a) payload p = of_index (place_of d RefCount a.table.0) a.index (λ at u. by_mask 16 at (mask_in payload) (entries_in payload) p)
says_of d (DropTable t) payload p = of_drop (place_of d Index t.0) p
says_of d (DropRefCountTable t) payload p = of_drop (place_of d RefCount t.0) p
says_of d BeginRecord payload p = none
says_of d EndRecord payload p = none

-- the same of an action with its payload
abbrev pub says : Directory → Written → ℕ → Option ℕ
says d w p = says_of d w.action w.payload p

-- what a record says of p: the last of its actions that says anything of it (`or_else`: the first of two that is one)
unfoldable pub last_said : Directory → List Written → ℕ → Option ℕ
last_said d [] p = none
last_said d (w ∷ ws) p = or_else (last_said d ws p) (says d w p)

-- "mask 8, then 8 bytes per set bit" (16 for a reference count)
abbrev pub Entries : ℕ → List ℕ → Type 0
Entries width payload = length payload ≡ 8 + ones (mask_in payload) * width

-- "Every value of a table has exactly that table's length."
abbrev pub OneValue : Option Place → List ℕ → Type 0
OneValue place payload = (P : Place) → place ≡ some P → length payload ≡ value_length P.table

-- the payload has the length that the record's bytes give it: the reader takes no other
unfoldable pub SizedBy : Directory → LogAction → List ℕ → Type 0
SizedBy d (InsertIndex a) payload = Entries 8 payload
SizedBy d (InsertValue a) payload = OneValue (place_of d Value a.table.0) payload
SizedBy d (InsertRefCount a) payload = Entries 16 payload
SizedBy d (DropTable t) payload = Unit {0}
SizedBy d (DropRefCountTable t) payload = Unit {0}
SizedBy d BeginRecord payload = Unit {0}
SizedBy d EndRecord payload = Unit {0}

-- a payload as long as its action says: what reading gives
abbrev pub Sized : Directory → Written → Type 0
Sized d w = SizedBy d w.action w.payload
