-- A step looks at nothing before its position: with n bytes less in front it comes to the same, n places earlier. Assumes nothing.
use mathlib.Core.Path.{◌≡◌, refl, sym, ap, ◌∙◌}
use mathlib.Core.Bool.{Bool, true, false}
use mathlib.Core.List.{List}
use Prim.Native.Nat.{ℕ, ◌+◌, ◌-◌, ◌≤◌}
use native.Mathlib.Omega.{arith}
use lib.Dec.{ltb}
use lib.ListN.{length, drop, length-drop}
use lib.Seq.{drop-drop}
use borrow.Author.Tests.{le-ltb}
use Rattle.words.proofs.Choices.{if_true, if_false}
use Rattle.answer.specs.Answer.{refusal}
use Rattle.answer.specs.declared.answer.Refusal.{Refusal}
use Rattle.directory.specs.declared.directory.Directory.{Directory}
use Rattle.record.specs.Format.{Got, stopped, got, read_at}
use Rattle.record.specs.Record.{Item, inside, opening}
use Rattle.record.specs.Next.{is_end, forward_to, reader_after, stepped, beginning, opened, step_of}
use Rattle.record.specs.declared.action.LogAction.{LogAction}
use Rattle.record.specs.declared.reader.LogReader.{LogReader}
use Rattle.record.proofs.Formats.{moved, from}
use Rattle.std.specs.Prelude.{Result, Ok, Err}
use Rattle.record.specs.declared.reader.Stepped.{Stepped}

-- the same reader n bytes further on
abbrev pub moved_reader : ℕ → LogReader → LogReader
moved_reader n r = record { position = n + r.position; record_id = r.record_id; crc32 = r.crc32; validate = r.validate; inside = r.inside }

-- what a walk goes by: the refusal, or whether the action ends its record, and the reader behind it
pub data Seen : Type 0 where
  halts : Refusal → Seen
  goes : Bool → LogReader → Seen

abbrev pub seen : Result Stepped Refusal → Seen
seen (Err x) = halts x
seen (Ok s) = goes (is_end s.action) s.reader

abbrev pub moved_seen : ℕ → Seen → Seen
moved_seen n (halts x) = halts (refusal x.answer (n + x.position))
moved_seen n (goes e r) = goes e (moved_reader n r)

module _ (n : ℕ) (log : List ℕ) where
  forward-moved : (r : LogReader) (end : ℕ) → forward_to log (moved_reader n r) (n + end) ≡ moved_reader n (forward_to (drop n log) r end)
  unfolding forward_to
  forward-moved r end =
      let e : n + end - (n + r.position) ≡ end - r.position = omega arith in
      rw (e, drop-drop r.position n log)

  after-moved : (r : LogReader) (action : LogAction) (end : ℕ) → reader_after log (moved_reader n r) action (n + end) ≡ moved_reader n (reader_after (drop n log) r action end)
  unfolding reader_after
  after-moved r action end = by (is_end action) refl
    where
      by : (b : Bool) → is_end action ≡ b → reader_after log (moved_reader n r) action (n + end) ≡ moved_reader n (reader_after (drop n log) r action end)
      by true e = rw e
      by false e = rw e (forward-moved r end)

  module _ (r : LogReader) where
    inside-moved : (g : Got Item) → seen (stepped log (moved_reader n r) (moved n g)) ≡ moved_seen n (seen (stepped (drop n log) r g))
    inside-moved (stopped a) = refl
    inside-moved (got i end) = ap (goes (is_end i.action)) (after-moved r i.action end)

    opening-moved : (g : Got ℕ) → seen (opened log (moved_reader n r) (moved n g)) ≡ moved_seen n (seen (opened (drop n log) r g))
    opening-moved (stopped a) = refl
    opening-moved (got id end) = ap (goes false) (forward-moved (beginning r id) end)

  pub seen-moved : (d : Directory) (r : LogReader) → n + r.position ≤ length log → seen (step_of d log (moved_reader n r)) ≡ moved_seen n (seen (step_of d (drop n log) r))
  unfolding step_of
  seen-moved d r h = by r.inside refl
    where
      Both : Type 0
      Both = seen (step_of d log (moved_reader n r)) ≡ moved_seen n (seen (step_of d (drop n log) r))

      here : ltb (length log) (n + r.position) ≡ false
      here = le-ltb (length log) (n + r.position) h

      there : ltb (length (drop n log)) r.position ≡ false
      there = le-ltb (length (drop n log)) r.position (rw length-drop (omega arith))

      by : (b : Bool) → r.inside ≡ b → Both
      by true b =
          ap seen (if_false (ltb (length log) (n + r.position)) _ _ here ∙ if_true r.inside _ _ b)
          ∙ ap (λ (g : Got Item). seen (stepped log (moved_reader n r) g)) (from (inside d r.validate r.crc32) n r.position log)
          ∙ inside-moved r (read_at (inside d r.validate r.crc32) r.position (drop n log))
          ∙ sym (ap (λ (st : Result Stepped Refusal). moved_seen n (seen st)) (if_false (ltb (length (drop n log)) r.position) _ _ there ∙ if_true r.inside _ _ b))
      by false b =
          ap seen (if_false (ltb (length log) (n + r.position)) _ _ here ∙ if_false r.inside _ _ b)
          ∙ ap (λ (g : Got ℕ). seen (opened log (moved_reader n r) g)) (from (opening r.validate) n r.position log)
          ∙ opening-moved r (read_at (opening r.validate) r.position (drop n log))
          ∙ sym (ap (λ (st : Result Stepped Refusal). moved_seen n (seen st)) (if_false (ltb (length (drop n log)) r.position) _ _ there ∙ if_false r.inside _ _ b))
