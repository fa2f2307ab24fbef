-- What the inner functions answer. Nothing here has to be believed: `Salvage` says what the public calls answer.
use Rattle.std.specs.Prelude.{◌≡◌, Bool, true, ◌&&◌, List, [], ◌∷◌, ℕ, zero, suc, ◌+◌, ◌-◌, ◌≤◌, ◌<◌, eqb, ltb, leb, length, take, replicate, get_or, Option, Some, None, Result, Ok, Err}
use Rattle.std.proofs.Math.ListN.{set}
use Rattle.std.specs.Prelude.{if◌then◌else◌}
use Rattle.answer.specs.Answer.{number_of}
use Rattle.answer.specs.declared.answer.Refusal.{Refusal}
use Rattle.directory.specs.declared.directory.Directory.{Directory}
use Rattle.record.specs.Next.{reader_at, step_of}
use Rattle.replay.specs.Replay.{rest_in, whole_of}
use Rattle.salvaging.specs.Salvage.{kept_bytes}
use Rattle.salvaging.specs.declared.lines.Line.{Line}
use Rattle.salvaging.specs.declared.lines.Line.TheVariants.{Kept, Lost}
use Rattle.salvaging.specs.declared.lines.Lines.{Lines}
use Rattle.salvaging.specs.declared.search.Found.{Found}
use Rattle.salvaging.specs.declared.search.Search.{Search}
use Rattle.salvaging.specs.declared.search.Search.TheVariants.{Record, Open, Nothing}
use Rattle.replay.specs.declared.whole.WholeRecord.{WholeRecord}

-- ---- the search

-- the next place from a position on where a begin tag's byte stands
pub record Begins (log : List ℕ) (from at : ℕ) : Type 0 where
  pub behind : from ≤ at
  pub there : at < length log
  pub tag : get_or log at 0 ≡ 1
  pub none : (k : ℕ) → from ≤ k → k < at → get_or log k 0 ≡ 1 → ⊥

-- or there is none
abbrev pub NextBegin : List ℕ → ℕ → Option ℕ → Type 0
NextBegin log from (Some at) = Begins log from at
NextBegin log from None = (k : ℕ) → from ≤ k → k < length log → get_or log k 0 ≡ 1 → ⊥

-- a refusal that more bytes could lift: 1 and 2
abbrev pub undecided : Bool → Refusal → Bool
undecided more x = more && leb (number_of x.answer) 2

-- at a begin tag's byte: the record; where more bytes may follow and could decide, that it is open; else what comes behind
abbrev pub seen : Bool → ℕ → Search → Result WholeRecord Refusal → Search
seen more at rest (Ok w) = Record (record { position = at; id = w.opened.record_id; end = w.end })
seen more at rest (Err x) = if undecided more x then Open at else rest

-- the first record from a position on; at most n positions are tried
unfoldable pub search_from : ℕ → Bool → Directory → List ℕ → ℕ → Search
search_from zero more d log at = Nothing
search_from (suc n) more d log at =
    if eqb (get_or log at 0) 1 then seen more at (search_from n more d log (at + 1)) (whole_of (rest_in d log) (step_of d log (reader_at at true))) else
    search_from n more d log (at + 1)

-- more tries than the log has bytes change nothing
abbrev pub search_in : Bool → Directory → List ℕ → ℕ → Search
search_in more d log at = search_from (suc (length log)) more d log at

-- the first of a list
abbrev pub first_found_of : List Found → Search
first_found_of [] = Nothing
first_found_of (f ∷ fs) = Record f

-- what is seen lies behind the position where the search began, and in the log
abbrev pub Inside : Search → ℕ → ℕ → Type 0
Inside (Record f) from room = (from ≤ f.position) × (f.position < f.end) × (f.end ≤ room)
Inside (Open p) from room = (from ≤ p) × (p < room)
Inside Nothing from room = Unit {0}

-- ---- the lines by value

-- no lines, from the front of a log on
abbrev pub no_lines : Lines
no_lines = record { lines = replicate 64 (Lost 0 0); count = 0; end = 0; bytes = 0 }

-- where a line begins
abbrev pub place_of : Line → ℕ
place_of (Kept p n id) = p
place_of (Lost p n) = p

-- with one line more; or where that line begins, if there is no room for it
abbrev pub with_line : Lines → Line → Result Lines ℕ
with_line l x = if leb 64 l.count then Err (place_of x) else Ok (record { lines = set l.lines l.count x; count = l.count + 1; end = l.end; bytes = l.bytes })

-- the same from what a call in place answers and leaves
abbrev pub pushed : Result (Unit {0}) ℕ → Lines → Result Lines ℕ
pushed (Ok u) l = Ok l
pushed (Err place) l = Err place

-- the lines that found room, or those that there were
abbrev pub with_room : Lines → Result Lines ℕ → Lines
with_room l (Ok m) = m
with_room l (Err place) = l

-- a stretch left out up to a position, if it isn't empty and there is room
abbrev pub leaving_out : Lines → ℕ → Result Lines ℕ
leaving_out l to = if ltb l.end to then with_line l (Lost l.end (to - l.end)) else Ok l

-- and on from there, if there was room
abbrev pub if_room : (Lines → Result Lines ℕ) → Result Lines ℕ → Result Lines ℕ
if_room on (Ok l) = on l
if_room on (Err place) = Err place

-- so many bytes more are kept, up to a position
abbrev pub covering : Lines → ℕ → ℕ → Lines
covering l end n = record { lines = l.lines; count = l.count; end = end; bytes = l.bytes + n }

-- the same behind what found room
abbrev pub covering_on : ℕ → ℕ → Lines → Result Lines ℕ
covering_on end n l = Ok (covering l end n)

-- a record, with what was left out before it, if there is room
abbrev pub keeping : Lines → ℕ → ℕ → ℕ → Result Lines ℕ
keeping l from end id = if_room (λ m. if_room (covering_on end (end - from)) (with_line m (Kept from (end - from) id))) (leaving_out l from)

-- ---- the same with an answer always

-- one line more; 65 of them where there is no room for it
abbrev pub counting : Lines → Line → Lines
counting l x =
    if ltb l.count 64 then record { lines = set l.lines l.count x; count = l.count + 1; end = l.end; bytes = l.bytes } else
    record { lines = l.lines; count = 65; end = l.end; bytes = l.bytes }

-- a stretch left out up to a position, if it isn't empty
abbrev pub up_to : Lines → ℕ → Lines
up_to l to = if ltb l.end to then counting l (Lost l.end (to - l.end)) else l

-- a record, with what was left out before it
abbrev pub with_record : Lines → ℕ → ℕ → ℕ → Lines
with_record l from end id = covering (counting (up_to l from) (Kept from (end - from) id)) end (end - from)

-- what may be added to: no more bytes are kept than were passed
abbrev pub Ruled : Lines → Type 0
Ruled l = l.bytes ≤ l.end

-- ---- what becomes of the lines

-- each record that is kept lies within so many bytes
abbrev pub AllWithin : ℕ → List Line → Type 0
AllWithin room [] = Unit {0}
AllWithin room (Kept p n id ∷ ls) = (p + n ≤ room) × AllWithin room ls
AllWithin room (Lost p n ∷ ls) = AllWithin room ls

-- lines by value are a list, and know how many bytes it keeps
pub record Holds (log : List ℕ) (l : Lines) (ls : List Line) : Type 0 where
  pub room : l.count ≤ 64
  pub lines : take l.count l.lines ≡ ls
  pub count : l.count ≡ length ls
  pub bytes : l.bytes ≡ length (kept_bytes log ls)

-- or the list is longer than 64
abbrev pub Lists : List ℕ → Result Lines ℕ → List Line → Type 0
Lists log (Ok l) ls = Holds log l ls
Lists log (Err place) ls = 64 < length ls
