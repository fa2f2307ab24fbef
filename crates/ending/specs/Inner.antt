-- What the inner functions are told and answer: nothing here is to be believed.
use Rattle.std.specs.Prelude.{ℕ, List, Result, Err}
use Rattle.std.specs.Prelude.{if◌then◌else◌}
use Rattle.directory.specs.declared.directory.Directory.{Directory}
use Rattle.answer.specs.declared.answer.Answer.{Answer}
use Rattle.change.specs.Size.{record_size}
use Rattle.files.specs.Calls.{take_file_kept}
use Rattle.files.specs.declared.writing.Taken.{Taken}
use Rattle.ending.specs.EndRecord.{Handed, handed_of, end_answer, is_done}
use Rattle.ending.specs.declared.handed.Handed as code

-- what the call is handed, with an output
abbrev pub handed_by : code.Handed → List ℕ → Handed
handed_by h out = handed_of h.list h.list_words.now h.list_bytes.now h.overlays h.words.now h.bytes.now h.queues h.next out

-- the file for the record, or why there is none
unfoldable pub file_for : Directory → Handed → Result Taken Answer
file_for d h = if is_done (end_answer d h) then take_file_kept h.queues (record_size h.list) else Err (end_answer d h)
