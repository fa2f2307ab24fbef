-- A walk that keeps its place alone: what is read there is the step of a reader at that place. Assumes nothing.
use mathlib.Core.Path.{◌≡◌, refl, sym, ap, ◌∙◌}
use mathlib.Core.Bool.{Bool, true, false}
use mathlib.Core.List.{List}
use Prim.Native.Nat.{ℕ, ◌+◌, ◌-◌, ◌≤◌, ◌<◌}
use native.Mathlib.Omega.{arith}
use lib.ListN.{length, take, drop}
use Rattle.words.proofs.Choices.{if_false}
use Rattle.directory.specs.declared.directory.Directory.{Directory}
use Rattle.answer.specs.Answer.{refusal}
use Rattle.answer.specs.declared.answer.Answer.{Answer}
use Rattle.record.specs.Format.{Got, stopped, read_at}
use Rattle.record.specs.Inner.{got_item}
use Rattle.record.specs.Next.{is_end, forward_to, reader_after, stepped, step_of}
use Rattle.record.specs.Record.{Item, inside}
use Rattle.record.specs.declared.action.LogAction.{LogAction}
use Rattle.record.specs.declared.item.ReadItem.{ReadItem}
use Rattle.record.specs.declared.reader.LogReader.{LogReader}
use Rattle.record.specs.declared.reader.Stepped.{Stepped}
use Rattle.record.proofs.Parts.{item_step}
use Rattle.record.proofs.Steps.{step-on}
use Rattle.replay.specs.Inner.{Walker, moved_to}
use Rattle.replay.proofs.Sum.{inside-step}
use Rattle.std.specs.Prelude.{Ok, Err}

-- where a reader stands behind an action
after-position : (log : List ℕ) (r : LogReader) (action : LogAction) (end : ℕ) → (reader_after log r action end).position ≡ end
unfolding reader_after forward_to
after-position log r action end = go (is_end action) refl
  where
    go : (b : Bool) → is_end action ≡ b → (reader_after log r action end).position ≡ end
    go true e = rw e
    go false e = rw e

-- the bytes from a place up to n behind it
pub payload-part : (s n : ℕ) (l : List ℕ) → take (s + n - s) (drop s l) ≡ take n (drop s l)
payload-part s n l = let e : s + n - s ≡ n = omega arith in rw e

module _ (d : Directory) (log : List ℕ) (r : LogReader) (w : Walker log r) (at : ℕ) (h : at ≤ length log) where
  pub item_refused : (a : Answer) → stopped a ≡ read_at (inside d r.validate r.crc32) at log → step_of d log (moved_to r at) ≡ Err (refusal a at)
  item_refused a e = inside-step d log (moved_to r at) w.inside h ∙ sym (ap (λ (g : Got Item). stepped log (moved_to r at) g) e)

  module _ (i : ReadItem) (e : got_item (Ok i) ≡ read_at (inside d r.validate r.crc32) at log) where
    abbrev pub took_item : Stepped
    took_item = record {
      action = i.action;
      start = i.start;
      length = i.length;
      reader = reader_after log (moved_to r at) i.action (i.start + i.length);
    }

    pub item_taken : step_of d log (moved_to r at) ≡ Ok took_item
    item_taken = inside-step d log (moved_to r at) w.inside h ∙ sym (item_step log (moved_to r at) i (read_at (inside d r.validate r.crc32) at log) took_item.reader e refl)

    -- it lies within the log, and takes a byte or more
    pub item_place : (at < i.start + i.length) × (i.start + i.length ≤ length log)
    item_place =
        let o = step-on d log (moved_to r at) took_item item_taken in
        let p : took_item.reader.position ≡ i.start + i.length = after-position log (moved_to r at) i.action (i.start + i.length) in
        (rw p at o.forward, rw p at o.inside)

    pub item_ends : took_item.reader.position ≡ i.start + i.length
    item_ends = after-position log (moved_to r at) i.action (i.start + i.length)

    -- the reader behind it is the same at the next place
    pub item_next : is_end i.action ≡ false → took_item.reader ≡ moved_to r (i.start + i.length)
    unfolding reader_after forward_to
    item_next q = if_false (is_end i.action) _ _ q ∙ rw w.plainly
