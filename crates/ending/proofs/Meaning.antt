-- What the end of a record means: the rules are kept, a lookup finds the list's entry first, and what is written is what `flush_to_file` writes.
-- Assumes nothing; `QueuesTyped` says that the arrays of the queues have the lengths that their types give them.
use mathlib.Core.Path.{◌≡◌, refl, ap, ◌∙◌}
use mathlib.Core.Bool.{Bool, true, false}
use mathlib.Core.List.{map}
use mathlib.Core.Option.{some}
use Prim.Native.Nat.{ℕ, ◌*◌, ◌<◌}
use lib.ListN.{length, get_or, take}
use borrow.Author.Tests.{le-ltb}
use Rattle.std.specs.Prelude.{if◌then◌else◌}
use Rattle.directory.specs.Directory.{find_table}
use Rattle.directory.specs.declared.table.TableKind.{TableKind}
use Rattle.directory.specs.declared.table.TableKind.TheVariants.{Value}
use Rattle.directory.specs.declared.directory.Directory.{Directory}
use Rattle.numbers.specs.Numbers.{has}
use Rattle.keys.specs.Keys.{key_at}
use Rattle.overlay.specs.Rules.{Overlay}
use Rattle.overlay.specs.Entries.{entries_of, find_entry, or_else}
use Rattle.memory.specs.Parts.{span_of, of_kind, parts_kept, entry_under}
use Rattle.memory.specs.declared.span.Holder.TheVariants as holder
use Rattle.putting.specs.Listed.{column_of, put_listed, listed_entry, listed_entries, overlays_put}
use Rattle.putting.proofs.Crowds.{each_free}
use Rattle.putting.proofs.Kept.{all-kept, put_of}
use Rattle.putting.proofs.LastIds as ids
use Rattle.putting.proofs.Meaning as puts
use Rattle.memory.proofs.OneKind.{kind-kept}
use Rattle.change.specs.Size.{record_size}
use Rattle.change.proofs.Rules.{kept-parts}
use Rattle.writer.specs.Flush.{flush_to_file_kept, flush_to_file}
use Rattle.files.specs.Queues.{queues_kept, QueuesTyped}
use Rattle.files.proofs.KeepsRules.{take_file-kept}
use Rattle.ending.specs.EndRecord.{Handed, end_answer, is_done, end_record}
use Rattle.ending.proofs.Decided.{Accepted, accepted, list-kept, shared_kept, taken}

module _ (d : Directory) (h : Handed) where
  -- ---- after a record that was ended

  module _ (done : is_done (end_answer d h) ≡ true) where
    a : Accepted d h
    a = accepted d h done

    -- what `end_record` writes is what `flush_to_file` writes
    pub as_flushed : (end_record d h).output ≡ (flush_to_file d h.list h.output).output
    unfolding end_record flush_to_file flush_to_file_kept
    as_flushed = rw (done, list-kept d h a.kept, le-ltb (length h.output) (record_size h.list) a.fits)

    module _ (kind : TableKind) where
      after : of_kind kind (end_record d h).overlays.parts ≡ put_listed kind h.list.id (of_kind kind h.list.parts) (of_kind kind h.overlays.parts)
      unfolding end_record overlays_put
      after = rw done (put_of kind h.list.id h.list.parts h.overlays.parts)

      -- "puts each entry, id, mask and chunk, over the shared one; masks aren't joined there": first the list's, then what was there
      pub found-ended : (x : ℕ) → entry_under kind x (end_record d h).overlays.parts ≡ or_else (find_entry x (listed_entries kind h.list.id (of_kind kind h.list.parts))) (entry_under kind x h.overlays.parts)
      found-ended x =
          ap (λ (o : Overlay). find_entry x (entries_of kind o)) after
          ∙ puts.found-put kind h.list.id (span_of holder.List kind).room (of_kind kind h.list.parts) (of_kind kind h.overlays.parts) (kind-kept holder.List kind h.list.parts (kept-parts d h.list (list-kept d h a.kept)))
          (kind-kept holder.Shared kind h.overlays.parts (shared_kept d h a.kept)) (each_free kind h.list.parts h.overlays.parts a.free) x

      -- the j-th listed key is found with the list's own mask and bytes, under the record's id
      pub listed_found : (j : ℕ) → j < (of_kind kind h.list.parts).count
          → entry_under kind (key_at (of_kind kind h.list.parts).rows (get_or (of_kind kind h.list.parts).order j 0)) (end_record d h).overlays.parts ≡ some (listed_entry kind h.list.id (of_kind kind h.list.parts) (get_or (of_kind kind h.list.parts).order j 0))
      listed_found j i =
          ap (λ (o : Overlay). find_entry (key_at (of_kind kind h.list.parts).rows (get_or (of_kind kind h.list.parts).order j 0)) (entries_of kind o)) after
          ∙ puts.listed_found kind h.list.id (span_of holder.List kind).room (of_kind kind h.list.parts) (of_kind kind h.overlays.parts) (kind-kept holder.List kind h.list.parts (kept-parts d h.list (list-kept d h a.kept)))
          (kind-kept holder.Shared kind h.overlays.parts (shared_kept d h a.kept)) (each_free kind h.list.parts h.overlays.parts a.free) j i

    -- "Only values set the column's last id.": a column's is the record's if a listed value is of it, else what it was
    pub last-id : (column : ℕ) → column < length h.overlays.last_ids
        → get_or (end_record d h).overlays.last_ids column 0
        ≡ (if has column (map (λ (p : ℕ). column_of (find_table d Value (get_or h.list.parts.value.rows (4 * p) 0))) (take h.list.parts.value.count h.list.parts.value.order)) then h.list.id else get_or h.overlays.last_ids column 0)
    unfolding end_record overlays_put
    last-id column i =
        rw done
        (ids.last-id d h.list.id h.list.parts.value.rows column (take h.list.parts.value.count h.list.parts.value.order) h.overlays.last_ids i)

  -- ---- after any

  -- "Rules of a state: room kept, no key twice, no mask 0": the overlays keep theirs
  pub shared_stays : parts_kept holder.Shared h.overlays.parts ≡ true → parts_kept holder.Shared (end_record d h).overlays.parts ≡ true
  unfolding end_record overlays_put
  shared_stays k = by (is_done (end_answer d h)) refl
    where
      by : (b : Bool) → is_done (end_answer d h) ≡ b → parts_kept holder.Shared (end_record d h).overlays.parts ≡ true
      by true e = rw e (all-kept h.list.id h.list.parts h.overlays.parts (kept-parts d h.list (list-kept d h (a e).kept)) k (a e).free)
      by false e = rw e k

  -- "each file in one place and below the next number, pool ascending and at most 16": so do the queues
  pub queues_stay : QueuesTyped h.queues → queues_kept h.queues ≡ true → queues_kept (end_record d h).queues ≡ true
  unfolding end_record
  queues_stay z k = by (is_done (end_answer d h)) refl
    where
      by : (b : Bool) → is_done (end_answer d h) ≡ b → queues_kept (end_record d h).queues ≡ true
      by true e = rw e (rw (taken d h (a e)) at (take_file-kept h.queues z k (record_size h.list)))
      by false e = rw e k
