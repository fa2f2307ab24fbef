-- Lookups over words. A part of a lent memory can't be handed across: which memory it lies in, its place and its length are (document 01: "answers
-- with the stored bytes themselves, from the local memory or the shared one"). That they are those bytes: `place-bytes`, crates/query/proofs/Places.
use Rattle.std.specs.Prelude.{◌≡◌, Bool, false, ◌&&◌, List, ℕ, ◌+◌, eqb, length, Option, Some, None, Result, Ok, Err}
use Rattle.std.specs.Option.{option_or}
use Rattle.std.proofs.Math.Option.{none}
use Rattle.std.specs.Prelude.{if◌then◌else◌}
use Rattle.answer.specs.Answer.{number_of, answer_in}
use Rattle.answer.specs.declared.answer.Answer.{Answer}
use Rattle.answer.specs.declared.answer.Answer.TheVariants.{Done, BadState}
use Rattle.directory.specs.declared.table.TableKind.{TableKind}
use Rattle.directory.specs.declared.table.TableKind.TheVariants.{Value}
use Rattle.numbers.specs.Numbers.{one_if}
use Rattle.overlay.specs.Rules.{overlay_kept}
use Rattle.memory.specs.Parts.{span_of, part_of}
use Rattle.memory.specs.declared.counts.Counts.{Counts}
use Rattle.memory.specs.declared.overlays.LogOverlays.{LogOverlays}
use Rattle.memory.specs.declared.span.Holder.{Holder}
use Rattle.memory.specs.declared.span.Holder.TheVariants as holder
use Rattle.change.specs.Change.{change_of, change_ruled}
use Rattle.change.specs.declared.change.LogChange.{LogChange}
use Rattle.query.specs.Query.{Looked, looked_if, no_look, shared_look, listed_look, bytes_of, is_there, copied_over}
use Rattle.query.specs.Places.{stored_place}
use Rattle.edge_lookups.specs.declared.lookups.Spot.{Spot}

-- a memory's number: 1 the list's, 2 the shared one
abbrev pub memory_number : Holder → ℕ
memory_number holder.Shared = 2
memory_number holder.List = 1

-- a place in one kind's part, as a place in its memory
abbrev pub spot_by : Holder → TableKind → Option (ℕ × ℕ) → Option Spot
spot_by h kind None = None
spot_by h kind (Some (at, long)) = Some (record { memory = h; place = (span_of h kind).bytes_at + at; length = long })

-- where a key's bytes lie, among one holder's entries of a kind
unfoldable pub spotted_in : Holder → TableKind → Counts → List ℕ → List ℕ → ℕ → Option Spot
spotted_in h kind c words bytes key = spot_by h kind (stored_place kind (part_of h kind c words bytes) key)

-- "Lookup goes to the local list first, then the shared overlays."
abbrev pub spotted_first : TableKind → LogChange → List ℕ → List ℕ → Counts → List ℕ → List ℕ → ℕ → Option Spot
spotted_first kind l items chunks c words bytes key =
    option_or (spotted_in holder.List kind l.counts items chunks key) (spotted_in holder.Shared kind c words bytes key)

-- the shared memories are as long as they should be, and the kind keeps its rules
unfoldable pub shared_kept_of : TableKind → Counts → List ℕ → List ℕ → Bool
shared_kept_of kind c words bytes =
    eqb (length words) 3840 && (eqb (length bytes) 524288 && overlay_kept kind 256 (part_of holder.Shared kind c words bytes))

-- in the shared overlays alone
unfoldable pub shared_spot : TableKind → Counts → List ℕ → List ℕ → ℕ → Result (Option Spot) Answer
shared_spot kind c words bytes key = if shared_kept_of kind c words bytes then Ok (spotted_in holder.Shared kind c words bytes key) else Err BadState

-- in the list first, then in them
unfoldable pub listed_spot : TableKind → LogChange → List ℕ → List ℕ → Counts → List ℕ → List ℕ → ℕ → Result (Option Spot) Answer
listed_spot kind l items chunks c words bytes key =
    if change_ruled (change_of l items chunks) && shared_kept_of kind c words bytes
    then Ok (spotted_first kind l items chunks c words bytes key)
    else Err BadState

-- `value`: the value that is copied, or 13 where the memories are not as long as they should be
unfoldable pub value_look : LogOverlays → List ℕ → List ℕ → ℕ → Looked
value_look o words bytes key =
    if eqb (length words) 3840 && eqb (length bytes) 524288 then shared_look Value (part_of holder.Shared Value o.counts words bytes) key else
    looked_if false none

-- the value of a key, the list's first
unfoldable pub value_listed_look : LogChange → List ℕ → List ℕ → LogOverlays → List ℕ → List ℕ → ℕ → Looked
value_listed_look l items chunks o words bytes key =
    if eqb (length words) 3840 && eqb (length bytes) 524288
    then listed_look Value (change_of l items chunks) (part_of holder.Shared Value o.counts words bytes) key
    else looked_if false none

-- a spot in numbers: the memory's, the place in it, and how many bytes lie there
abbrev pub spot_numbers : Spot → ℕ × ℕ × ℕ
spot_numbers s = (memory_number s.memory, s.place, s.length)

-- what a lookup found, in numbers: 0 where it found nothing, or refused
abbrev pub found_numbers : Result (Option Spot) Answer → ℕ × ℕ × ℕ
found_numbers (Ok (Some s)) = spot_numbers s
found_numbers (Ok None) = (0, 0, 0)
found_numbers (Err a) = (0, 0, 0)

-- what a lookup leaves: its answer's number; the memory, the place in it, and how many bytes lie there
pub record SpotLeft (s : Result (Option Spot) Answer) (answer memory place long : ℕ) : Type 0 where
  pub number : answer ≡ number_of (answer_in s)
  pub holder : memory ≡ (found_numbers s).0
  pub first : place ≡ (found_numbers s).1
  pub count : long ≡ (found_numbers s).2

-- what `value` leaves: its answer's number, the destination from as it was to as it then is, whether there was a value
pub record CopyLeft (l : Looked) (dest : List ℕ) (answer : ℕ) (after : List ℕ) (found : ℕ) : Type 0 where
  pub number : answer ≡ number_of l.answer
  pub copy : after ≡ copied_over (bytes_of l.entry) dest
  pub some : found ≡ one_if (is_there l.entry)

-- what a copy comes to: whether there was a value, or 13 and nothing looked up
abbrev pub Copied : Looked → Result Bool Answer → Type 0
Copied l (Ok found) = (l.answer ≡ Done) × (found ≡ is_there l.entry)
Copied l (Err a) = (a ≡ BadState) × (l ≡ no_look)

-- that as words: its answer's number, and whether there was a value
abbrev pub FoundLeft : Result Bool Answer → ℕ → ℕ → Type 0
FoundLeft (Ok there) answer found = (answer ≡ 0) × (found ≡ one_if there)
FoundLeft (Err a) answer found = (answer ≡ number_of a) × (found ≡ 0)
