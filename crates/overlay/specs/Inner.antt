-- What the search hands to the stores, and the rules as one pass reads them: said only between the functions of this crate and the ones right
-- above it.
use Rattle.std.specs.Prelude.{ℕ, ◌*◌, Bool, true, ◌&&◌, List, [], ◌∷◌, ltb, leb, get_or, Option, Some, None}
use Rattle.directory.specs.declared.table.TableKind.{TableKind}
use Rattle.directory.specs.declared.table.TableKind.TheVariants.{Index, Value, RefCount}
use Rattle.keys.specs.Keys.{key_at, mark_at}
use Rattle.std.specs.Prelude.{if◌then◌else◌}
use Rattle.overlay.specs.Rules.{Overlay}
use Rattle.overlay.specs.Overlay.{spot_in_of, stands_in, place_in, goes_from}
use Rattle.overlay.specs.declared.seat.Seat.{Seat}
use Rattle.overlay.specs.declared.seat.Seat.TheVariants.{Over, Next}

-- where an entry goes: over the one in place p, or into the next place, and that place into the order at j
unfoldable pub seat_in : Overlay → ℕ → Seat
seat_in o k = if stands_in o k then Over (get_or o.order (spot_in_of o k) 0) else Next (spot_in_of o k)

-- what leaves: what stands at j of the order, in place p; or nothing
unfoldable pub leaving_in : Overlay → ℕ → ℕ → Option (ℕ × ℕ)
leaving_in o k id = if goes_from o k id then Some (spot_in_of o k, place_in o k) else None

-- the greatest mark of a kind: any word, or a value's length
abbrev pub most_mark : TableKind → ℕ
most_mark Index = 18446744073709551615
most_mark Value = 512
most_mark RefCount = 18446744073709551615

-- a table's number has 16 bits, and a mark is one of 1 to the greatest
abbrev pub is_within : ℕ → ℕ → ℕ → Bool
is_within most table mark = ltb table 65536 && (leb 1 mark && leb mark most)

-- places that follow a key: each in use, its row within bounds, its key above the one before
abbrev pub followed : ℕ → List ℕ → ℕ → ℕ → List ℕ → Bool
followed most rows n k [] = true
followed most rows n k (p ∷ l) =
    ltb p n && (is_within most (get_or rows (4 * p) 0) (mark_at rows p) && (ltb k (key_at rows p) && followed most rows n (key_at rows p) l))
