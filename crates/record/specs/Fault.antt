-- What stands at the place that a refusal names (document 02, "Five. Where is it broken?": "Every reading refusal must carry the byte position of
-- the first byte of the action at fault"). For the theorems that say so of each answer; `Next` says what is answered.
use Rattle.std.specs.Prelude.{Bool, false, ◌&&◌, ◌||◌, ◌≡◌, List, ◌++◌, ℕ, ◌<◌, eqb, leb, length}
use Rattle.answer.specs.declared.answer.Answer.{Answer}
use Rattle.answer.specs.declared.answer.Answer.TheVariants.{Done, EndOfLog, Cut, UnknownTag, OutOfPlace, WrongId, NoTable, NoIndex, WrongSum, NoRoom, ShortOutput, NotNext, UsedUp, BadState, BadArgument}
use Rattle.directory.specs.declared.directory.Directory.{Directory}
use Rattle.record.specs.Format.{got, read_at}
use Rattle.record.specs.Record.{Item, inside}

-- 3: "tag 0 or 8 to 255"
abbrev pub unknown_tag : ℕ → Bool
unknown_tag tag = eqb tag 0 || leb 8 tag

-- any action's tag but begin's
abbrev pub later_tag : ℕ → Bool
later_tag tag = leb 2 tag && leb tag 7

-- the tag of an insertion: a table and an index follow
abbrev pub insertion_tag : ℕ → Bool
insertion_tag tag = eqb tag 2 || (eqb tag 3 || eqb tag 6)

-- the tag of a drop: a table follows
abbrev pub drop_tag : ℕ → Bool
drop_tag tag = eqb tag 5 || eqb tag 7

-- inside a record, what the tag at fault is by the answer
abbrev pub inside_fault : Answer → ℕ → Bool
inside_fault Cut tag = later_tag tag  -- 2: an action that is begun
inside_fault UnknownTag tag = unknown_tag tag  -- 3
inside_fault OutOfPlace tag = eqb tag 1  -- 4: "begin comes inside a record"
inside_fault NoTable tag = insertion_tag tag || drop_tag tag  -- 6
inside_fault NoIndex tag = insertion_tag tag  -- 7
inside_fault WrongSum tag = eqb tag 4  -- 8: "for 8 the end tag"
inside_fault Done tag = false
inside_fault EndOfLog tag = false
inside_fault WrongId tag = false
inside_fault NoRoom tag = false
inside_fault ShortOutput tag = false
inside_fault NotNext tag = false
inside_fault UsedUp tag = false
inside_fault BadState tag = false
inside_fault BadArgument tag = false

-- the same where a record opens
abbrev pub opening_fault : Answer → ℕ → Bool
opening_fault EndOfLog tag = leb 1 tag && leb tag 7  -- 1: an action of which too little is there
opening_fault UnknownTag tag = unknown_tag tag  -- 3
opening_fault OutOfPlace tag = later_tag tag  -- 4: "first action isn't begin"
opening_fault WrongSum tag = eqb tag 4  -- 8
opening_fault Done tag = false
opening_fault Cut tag = false
opening_fault WrongId tag = false
opening_fault NoTable tag = false
opening_fault NoIndex tag = false
opening_fault NoRoom tag = false
opening_fault ShortOutput tag = false
opening_fault NotNext tag = false
opening_fault UsedUp tag = false
opening_fault BadState tag = false
opening_fault BadArgument tag = false

-- no action at p is whole: whatever bytes came behind the log, one that is read there would end beyond the log's end
abbrev pub NotWhole : Directory → List ℕ → ℕ → Type 0
NotWhole d log p = (validate : Bool) (register : ℕ) (more : List ℕ) (i : Item) (end : ℕ) → read_at (inside d validate register) p (log ++ more) ≡ got i end → length log < end
