-- What `flush_to_file` and its second door come to, a return of the code at a time. Assumes nothing.
use mathlib.Core.Path.{◌≡◌}
use mathlib.Core.Bool.{true, false}
use mathlib.Core.List.{List}
use Prim.Native.Nat.{ℕ, ◌≤◌, ◌<◌}
use lib.ListN.{length}
use Rattle.std.specs.Prelude.{Ok}
use borrow.Author.Tests.{lt-ltb, le-ltb}
use Rattle.answer.specs.declared.answer.Answer.TheVariants.{ShortOutput, BadState}
use Rattle.directory.specs.declared.directory.Directory.{Directory}
use Rattle.change.specs.Change.{Change, change_kept}
use Rattle.change.specs.Size.{record_size}
use Rattle.output.specs.Put.{put}
use Rattle.writer.specs.Bytes.{record_of}
use Rattle.writer.specs.Flush.{flushed_of, unwritten, flush_to_file_kept, flush_to_file}

module _ (l : Change) (out : List ℕ) (size : ℕ) (e : size ≡ record_size l) where
  pub too_short : length out < size → unwritten ShortOutput out ≡ flush_to_file_kept l out
  unfolding flush_to_file_kept
  too_short h = rw (lt-ltb (length out) (record_size l) (rw e at h))

  pub flushes : size ≤ length out → (new : List ℕ) → new ≡ put out 0 (record_of l) → flushed_of (Ok size) new ≡ flush_to_file_kept l out
  unfolding flush_to_file_kept
  flushes h new q = rw (le-ltb (length out) (record_size l) (rw e at h), e, q)

module _ (d : Directory) (l : Change) (out : List ℕ) where
  pub bad-state : change_kept d l ≡ false → unwritten BadState out ≡ flush_to_file d l out
  unfolding flush_to_file
  bad-state e = rw e

  pub as-kept : change_kept d l ≡ true → flush_to_file_kept l out ≡ flush_to_file d l out
  unfolding flush_to_file
  as-kept e = rw e
