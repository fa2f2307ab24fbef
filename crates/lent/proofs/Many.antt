-- A slice of more than 16 descriptions: every call answers 13, and changes nothing. Assumes nothing.
use mathlib.Core.Path.{◌≡◌}
use mathlib.Core.Bool.{false}
use mathlib.Core.List.{List}
use Prim.Native.Nat.{ℕ, ◌<◌}
use Rattle.std.specs.Prelude.{Err}
use lib.ListN.{length}
use Rattle.answer.specs.declared.answer.Answer.TheVariants.{BadState}
use Rattle.directory.specs.declared.table.TableKind.{TableKind}
use Rattle.directory.specs.declared.table.TableDescription.{TableDescription}
use Rattle.record.specs.Next.{refused, next_of}
use Rattle.record.specs.declared.reader.LogReader.{LogReader}
use Rattle.replay.specs.Replay.{tables_kept, judged, replayed_as, image_after}
use Rattle.replay.specs.Run.{stops, run_of}
use Rattle.change.specs.Change.{Change, change_kept}
use Rattle.change.specs.Insert.{not_made, inserted}
use Rattle.change.specs.Drop.{table_dropped, count_table_dropped}
use Rattle.change.specs.Size.{sized}
use Rattle.answer.specs.Answer.{refusal}
use Rattle.writer.specs.Flush.{unwritten, flush_to_file}
use Rattle.memory.specs.Overlays.{Overlays}
use Rattle.replay.specs.Replay.{fault}
use Rattle.clearing.specs.EndRead.{to_clear, end_read_by, end_read_of}
use Rattle.ending.specs.EndRecord.{Handed, handed_kept, end_answer, not_ended, end_record}
use Rattle.lent.specs.Lent.{gathered}
use Rattle.lent.proofs.Gathered.{gathered-many}

module _ (ts : List TableDescription) (many : 16 < length ts) (log : List ℕ) where
  pub many-next : (r : LogReader) → next_of (gathered ts) log r ≡ refused BadState r.position
  unfolding next_of
  many-next r = rw (gathered-many ts many)

  module _ (at expected : ℕ) (image : List ℕ) where
    pub many-replay : replayed_as at (judged (gathered ts) log at expected image) ≡ record { answer = BadState; position = at; fault_at = at }
    unfolding judged tables_kept
    many-replay = rw (gathered-many ts many)

    pub many-image : image_after (gathered ts) image (judged (gathered ts) log at expected image) ≡ image
    unfolding judged tables_kept
    many-image = rw (gathered-many ts many)

    pub many-run : run_of (gathered ts) log at expected image ≡ stops (refusal BadState at) at 0 image
    unfolding run_of tables_kept
    many-run = rw (gathered-many ts many)

-- the same of a change list
module _ (ts : List TableDescription) (many : 16 < length ts) (l : Change) where
  not_kept : change_kept (gathered ts) l ≡ false
  unfolding change_kept
  not_kept = rw (gathered-many ts many)

  pub many-inserted : (kind : TableKind) (number index sub : ℕ) (bytes : List ℕ) → inserted kind (gathered ts) l number index sub bytes ≡ not_made BadState l
  unfolding inserted
  many-inserted kind number index sub bytes = rw not_kept

  pub many-dropped : (number : ℕ) → table_dropped (gathered ts) l number ≡ not_made BadState l
  unfolding table_dropped
  many-dropped number = rw not_kept

  pub many-count-dropped : (number : ℕ) → count_table_dropped (gathered ts) l number ≡ not_made BadState l
  unfolding count_table_dropped
  many-count-dropped number = rw not_kept

  pub many-sized : sized (gathered ts) l ≡ Err BadState
  unfolding sized
  many-sized = rw not_kept

  pub many-flushed : (out : List ℕ) → flush_to_file (gathered ts) l out ≡ unwritten BadState out
  unfolding flush_to_file
  many-flushed out = rw not_kept

-- and of clearing and the end of a record
module _ (ts : List TableDescription) (many : 16 < length ts) where
  pub many-cleared : (log : List ℕ) (at : ℕ) (s : Overlays) (next : ℕ) → end_read_of (gathered ts) log at s next ≡ end_read_by at s next (fault (refusal BadState at))
  unfolding to_clear
  many-cleared log at s next = rw (gathered-many ts many)

  pub many-ended : (h : Handed) → end_record (gathered ts) h ≡ not_ended BadState h
  unfolding end_record end_answer handed_kept
  many-ended h = rw (not_kept ts many h.list)
