-- What the end of a record leaves and answers: after a refusal, and after it was written and put. Assumes nothing.
use mathlib.Core.Path.{◌≡◌, refl, sym, ap, ◌∙◌}
use mathlib.Core.Bool.{false}
use mathlib.Core.List.{List}
use Prim.Native.Nat.{ℕ}
use lib.ListN.{length}
use denote.Ref.{Bor}
use borrow.Author.Tests.{le-ltb}
use Rattle.std.specs.Prelude.{Result, Ok, Err}
use Rattle.std.specs.Result.{result_unwrap_or}
use Rattle.directory.specs.declared.directory.Directory.{Directory}
use Rattle.answer.specs.declared.answer.Answer.{Answer}
use Rattle.answer.specs.declared.answer.Answer.TheVariants.{Done, BadState}
use Rattle.memory.specs.Overlays.{Overlays}
use Rattle.memory.specs.declared.overlays.LogOverlays.{LogOverlays}
use Rattle.memory.specs.declared.span.Holder.TheVariants as holder
use Rattle.putting.specs.Listed.{crowded, overlays_put}
use Rattle.putting.specs.Inner.{parts_at, overlays_at}
use Rattle.change.specs.Change.{change_of}
use Rattle.change.specs.Size.{record_size}
use Rattle.change.specs.declared.change.LogChange.{LogChange}
use Rattle.output.specs.Put.{put}
use Rattle.writer.specs.Bytes.{record_of}
use Rattle.writer.specs.Flush.{FlushedLog, flushed_of, flush_to_file_kept}
use Rattle.files.specs.declared.queues.Queues.{Queues}
use Rattle.files.specs.declared.writing.Taken.{Taken}
use Rattle.ending.specs.EndRecord.{handed_of, handed_kept, EndState, end_state_of, end_answer, is_done, ended, end_record}
use Rattle.ending.specs.Inner.{handed_by, file_for}
use Rattle.ending.specs.declared.handed.Handed as code
use Rattle.ending.proofs.Decided.{Accepted, accepted, refused-13, is_refused, is_taken}

-- the overlays' memories as they are lent
abbrev pub given : LogChange → Bor (List ℕ) → Bor (List ℕ) → LogOverlays → List ℕ → List ℕ → Queues → ℕ → code.Handed
given l lw lb o w b q next = record {
  list = l;
  list_words = lw;
  list_bytes = lb;
  overlays = o;
  words = record { ref_ptr = lw.ref_ptr; now = w };
  bytes = record { ref_ptr = lb.ref_ptr; now = b };
  queues = q;
  next = next;
}

module _ (d : Directory) (h : code.Handed) (out : List ℕ) where
  left_as : (a : Answer) → end_answer d (handed_by h out) ≡ a → is_done a ≡ false → end_state_of h.overlays h.queues (Err a) h.words.now h.bytes.now out ≡ end_record d (handed_by h out)
  unfolding end_record end_state_of handed_of
  left_as a e f = rw (e, f)

  -- 13
  pub left-13 : handed_kept d (handed_by h out) ≡ false → end_state_of h.overlays h.queues (Err BadState) h.words.now h.bytes.now out ≡ end_record d (handed_by h out)
  left-13 e = left_as BadState (refused-13 d (handed_by h out) e) refl

  pub left-refused : (a : Answer) → Err a ≡ file_for d (handed_by h out) → end_state_of h.overlays h.queues (Err a) h.words.now h.bytes.now out ≡ end_record d (handed_by h out)
  left-refused a e = let f = is_refused d (handed_by h out) a e in left_as a f.0 (ap is_done (sym f.0) ∙ f.1)

  module _ (t : Taken) (file : Ok t ≡ file_for d (handed_by h out)) where
    pub was_accepted : Accepted d (handed_by h out)
    was_accepted = accepted d (handed_by h out) (is_taken d (handed_by h out) t file).0

    pub is_free : crowded (parts_at holder.List h.list.counts h.list_words.now h.list_bytes.now) (parts_at holder.Shared h.overlays.counts h.words.now h.bytes.now) ≡ false
    unfolding handed_of parts_at
    is_free = was_accepted.free

    -- written by `flush_to_file`, which refuses nothing there
    module _ (x : Result ℕ Answer) (new : List ℕ) (f : flushed_of x new ≡ flush_to_file_kept (change_of h.list h.list_words.now h.list_bytes.now) out) where
      wrote : flushed_of x new ≡ flushed_of (Ok (record_size (change_of h.list h.list_words.now h.list_bytes.now))) (put out 0 (record_of (change_of h.list h.list_words.now h.list_bytes.now)))
      unfolding flush_to_file_kept handed_of
      wrote = f ∙ rw (le-ltb (length out) (record_size (change_of h.list h.list_words.now h.list_bytes.now)) was_accepted.fits)

      pub is_written : x ≡ Ok (record_size (change_of h.list h.list_words.now h.list_bytes.now))
      is_written = ap (λ (s : FlushedLog). s.sized) wrote

      -- nor does its length go to the default
      pub as_given : (n : ℕ) → n ≡ result_unwrap_or x 0 → flushed_of (Ok n) new ≡ flush_to_file_kept (change_of h.list h.list_words.now h.list_bytes.now) out
      as_given n e =
          ap (λ (m : ℕ). flushed_of (Ok m) new) (e ∙ ap (λ (r : Result ℕ Answer). result_unwrap_or r 0) is_written)
          ∙ sym (ap (λ (r : Result ℕ Answer). flushed_of r new) is_written) ∙ f

    same : (p p' : Overlays) → p ≡ p' → (m m' : ℕ) → m ≡ m' → (u u' : List ℕ) → u ≡ u'
        → ◌≡◌ {A = EndState} (record { answer = Done; length = m; source = t.source; number = t.number; overlays = p; queues = t.queues; output = u })
        (record { answer = Done; length = m'; source = t.source; number = t.number; overlays = p'; queues = t.queues; output = u' })
    same p p' e m m' g u u' i = rw (e, g, i)

    pub left-done : (n : ℕ) (new : List ℕ) → flushed_of (Ok n) new ≡ flush_to_file_kept (change_of h.list h.list_words.now h.list_bytes.now) out
        → (r : LogOverlays) (w b : List ℕ) → overlays_at r w b ≡ overlays_put d h.list.record_id (parts_at holder.List h.list.counts h.list_words.now h.list_bytes.now) (overlays_at h.overlays h.words.now h.bytes.now)
        → end_state_of h.overlays h.queues (Ok (record { length = n; source = t.source; number = t.number; overlays = r; queues = t.queues })) w b new ≡ end_record d (handed_by h out)
    unfolding end_record end_state_of handed_of overlays_at parts_at
    left-done n new f r w b p =
        let l = change_of h.list h.list_words.now h.list_bytes.now in
        let k : n ≡ record_size l = let e = is_written (Ok n) new f in cc in
        let g = is_taken d (handed_by h out) t file in
        same (overlays_at r w b) (overlays_put d h.list.record_id (parts_at holder.List h.list.counts h.list_words.now h.list_bytes.now) (overlays_at h.overlays h.words.now h.bytes.now)) p n (record_size l) k
        new (put out 0 (record_of l)) (ap (λ (s : FlushedLog). s.output) (wrote (Ok n) new f))
        ∙ ap (ended d (handed_by h out)) g.1 ∙ sym (rw g.0)
