-- Where the stored bytes lie, and lookups of many keys at once in the shared overlay of a kind. log.rs has no such call: its maps have no rules to
-- test. That the bytes there are what the lookup of one key hands out: proofs/Places, `each-place`.
use Rattle.std.specs.Prelude.{Bool, ◌&&◌, List, [], ◌∷◌, ℕ, ◌*◌, ◌/◌, eqb, length, Option, Some, None, Result, Ok, Err, ⊤}
use Rattle.std.specs.Prelude.{if◌then◌else◌}
use Rattle.std.specs.Option.{unwrap_or}
use Rattle.answer.specs.declared.answer.Answer.{Answer}
use Rattle.answer.specs.declared.answer.Answer.TheVariants.{BadState, BadArgument}
use Rattle.directory.specs.declared.table.TableKind.{TableKind}
use Rattle.keys.specs.Keys.{rank, mark_at}
use Rattle.overlay.specs.Rules.{Overlay, slot_size, stored_length, overlay_kept}
use Rattle.overlay.specs.Inner.{seat_in}
use Rattle.overlay.specs.declared.seat.Seat.{Seat}
use Rattle.overlay.specs.declared.seat.Seat.TheVariants.{Over, Next}

-- where an entry's bytes lie in its kind's part and how many there are, by its seat
abbrev pub place_by : TableKind → Overlay → Seat → Option (ℕ × ℕ)
place_by kind o (Over p) = Some (slot_size kind * p, stored_length kind (mark_at o.rows p))
place_by kind o (Next j) = None

-- the same of a key
unfoldable pub stored_place : TableKind → Overlay → ℕ → Option (ℕ × ℕ)
stored_place kind o key = place_by kind o (seat_in o key)

-- 0 and 0 where nothing is found
abbrev pub spot_of : TableKind → Overlay → ℕ → ℕ × ℕ
spot_of kind o key = unwrap_or (stored_place kind o key) (0, 0)

-- for each key, a pair of table and index, two words: where its bytes lie, and how many there are; 0 and 0 where nothing is found
abbrev pub places_of : TableKind → Overlay → List ℕ → List ℕ
places_of kind o [] = []
places_of kind o (t ∷ []) = []
places_of kind o (t ∷ x ∷ keys) = (spot_of kind o (rank t x)).0 ∷ (spot_of kind o (rank t x)).1 ∷ places_of kind o keys

-- words in pairs, and as many for the answers
abbrev pub paired : ℕ → ℕ → Bool
paired keys places = eqb (keys / 2 * 2) keys && eqb places keys

-- an answer, and the words for the places as they then are
pub record ToldPlaces : Type 0 where
  pub answer : Result ⊤ Answer
  pub places : List ℕ

-- the same as the code has them
abbrev pub told_places : Result ⊤ Answer → List ℕ → ToldPlaces
told_places answer places = record { answer = answer; places = places }

-- 13 where the overlay breaks a rule, 14 where keys or places aren't lent in pairs; refused, no word is written. A table above 65,535 is an
-- unknown one: "A lookup that finds nothing, unknown tables included, gives 0"
unfoldable pub several_look : TableKind → Overlay → List ℕ → List ℕ → ToldPlaces
several_look kind o keys places =
    if overlay_kept kind 256 o
    then (if paired (length keys) (length places) then told_places (Ok tt) (places_of kind o keys) else told_places (Err BadArgument) places)
    else told_places (Err BadState) places
