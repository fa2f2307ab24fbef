-- What a lookup finds and answers (document 01: "Lookup goes to the local list first, then the shared overlays."). log.rs: `LogQuery`, lines 70
-- to 90, for the overlays lines 159 to 202, for the writer's list lines 545 to 611.
use Rattle.std.specs.Prelude.{Bool, true, false, ◌&&◌, List, [], ◌++◌, ℕ, eqb, take, drop, length, if◌then◌else◌, Result, Ok, Err}
use Rattle.std.proofs.Math.Option.{Option, none, some}
use Rattle.directory.specs.declared.table.TableKind.{TableKind}
use Rattle.answer.specs.Answer.{number_of}
use Rattle.answer.specs.declared.answer.Answer.{Answer}
use Rattle.answer.specs.declared.answer.Answer.TheVariants.{Done, BadState}
use Rattle.overlay.specs.Rules.{Overlay, overlay_of, overlay_kept}
use Rattle.overlay.specs.Entries.{Entry, entries_of, find_entry, or_else}
use Rattle.memory.specs.Parts.{count_of, of_kind}
use Rattle.memory.specs.declared.overlays.LogOverlays.{LogOverlays}
use Rattle.change.specs.Change.{Change, change_ruled}

-- a lookup's answer, and the entry where there is one
pub record Looked : Type 0 where
  pub answer : Answer
  pub entry : Option Entry

-- "A lookup that finds nothing, unknown tables included, gives 0"; 13 where a state that it is handed breaks a rule
abbrev pub looked_if : Bool → Option Entry → Looked
looked_if true found = record { answer = Done; entry = found }
looked_if false found = record { answer = BadState; entry = none }

-- 13, and no entry
abbrev pub no_look : Looked
no_look = looked_if false none

-- the shared overlay of a kind, as a lookup is handed it: the kind's part of the words, its part of the bytes, and how many keys are in use
abbrev pub shared_part : TableKind → LogOverlays → List ℕ → List ℕ → Overlay
shared_part kind s words bytes = overlay_of 256 words bytes (count_of kind s.counts)

-- in the shared overlay alone
unfoldable pub shared_look : TableKind → Overlay → ℕ → Looked
shared_look kind o key = looked_if (overlay_kept kind 256 o) (find_entry key (entries_of kind o))

-- "Lookup goes to the local list first, then the shared overlays."
unfoldable pub listed_look : TableKind → Change → Overlay → ℕ → Looked
listed_look kind l o key =
    looked_if (change_ruled l && overlay_kept kind 256 o) (or_else (find_entry key (entries_of kind (of_kind kind l.parts))) (find_entry key (entries_of kind o)))

-- "answers with the stored bytes themselves .. and with none if nothing is found or it refuses"
abbrev pub bytes_of : Option Entry → List ℕ
bytes_of none = []
bytes_of (some e) = e.bytes

-- what a call gives that answers 0, or its answer
abbrev pub told_by : {A : Type 0} → Answer → A → Result A Answer
told_by answer x = if eqb (number_of answer) 0 then Ok x else Err answer

-- the stored bytes, or the answer
abbrev pub handed : Looked → Result (List ℕ) Answer
handed l = told_by l.answer (bytes_of l.entry)

-- the same as the code has them: a part of a lent memory, which holds those bytes
abbrev pub handed_out : {A : Type 0} → (A → List ℕ) → Result A Answer → Result (List ℕ) Answer
handed_out items (Ok part) = Ok (items part)
handed_out items (Err answer) = Err answer

-- whether there is one
abbrev pub is_there : Option Entry → Bool
is_there none = false
is_there (some e) = true

-- "copies the shorter of destination and stored length; the rest of the destination keeps its bytes"
abbrev pub copied_over : List ℕ → List ℕ → List ℕ
copied_over bytes dest = take (length dest) bytes ++ drop (length bytes) dest

-- what `value` hands back beside the copy: "says so"
abbrev pub copied_by : Looked → Result Bool Answer
copied_by l = told_by l.answer (is_there l.entry)
