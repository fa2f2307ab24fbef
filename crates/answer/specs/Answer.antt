-- "Numbered answers" (document 01): the number of each answer. A refusal of reading, and the last id of a record.
use Rattle.std.specs.Prelude.{ℕ, Result, Ok, Err}
use Rattle.answer.specs.declared.answer.Answer.{Answer}
use Rattle.answer.specs.declared.answer.Answer.TheVariants.{Done, EndOfLog, Cut, UnknownTag, OutOfPlace, WrongId, NoTable, NoIndex, WrongSum, NoRoom, ShortOutput, NotNext, UsedUp, BadState, BadArgument}
use Rattle.answer.specs.declared.answer.Refusal.{Refusal}

-- "No." of the table, "Given exactly when" beside it
abbrev pub number_of : Answer → ℕ
number_of Done = 0  -- "done"
number_of EndOfLog = 1  -- "end of log at this position"
number_of Cut = 2  -- "the bytes end inside a begun record"
number_of UnknownTag = 3  -- "tag 0 or 8 to 255"
number_of OutOfPlace = 4  -- "first action isn't begin, or begin comes inside a record"
number_of WrongId = 5  -- "id isn't the expected one"
number_of NoTable = 6  -- "table not in the directory under that kind"
number_of NoIndex = 7  -- "index not below the table's count"
number_of WrongSum = 8  -- "checksum differs"
number_of NoRoom = 9  -- "no room in a list, overlay or the file set"
number_of ShortOutput = 10  -- "output too short"
number_of NotNext = 11  -- "list's id plus 1 isn't the next id"
number_of UsedUp = 12  -- "record ids, file numbers or a file's size used up"
number_of BadState = 13  -- "a directory, list, overlay, queue or other state handed in breaks a rule of this paper, .."
number_of BadArgument = 14  -- "slot above 63, chunk or value of the wrong length, position beyond the log's end"

-- the answer of a call that hands something back with `Done` alone
abbrev pub answer_in : {A : Type 0} → Result A Answer → Answer
answer_in (Ok x) = Done
answer_in (Err a) = a

-- a refusal of reading, with its answer in it and "the byte position of the first byte of the action at fault" (document 02, "Five. Where is
-- it broken?")
abbrev pub refusal : Answer → ℕ → Refusal
refusal answer position = record { answer = answer; position = position }

-- 2^64-1, the largest id of 8 bytes
abbrev pub last_record_id : ℕ
last_record_id = 18446744073709551615
