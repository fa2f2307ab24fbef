-- Document 01, "Cases", "Proved as a single table". Inserts and drops are made on a new list, and the record is flushed to an output of 60 bytes:
-- (a) to (e) are its answer, its length and every byte of the output, checksums included, under
-- index table 1, value table 2 (values of 20 bytes) and reference count table 3; (f) to (i) hold under every directory that keeps its rules,
-- validating or not, whatever the further bytes are.
use Rattle.std.specs.Prelude.{◌≡◌, Bool, true, List, [], ◌∷◌, ℕ, ◌^◌, length}
use Rattle.answer.specs.declared.answer.Answer.TheVariants.{Done, BadArgument}
use Rattle.directory.specs.Directory.{directory_kept}
use Rattle.directory.specs.declared.directory.Directory.{Directory}
use Rattle.directory.specs.declared.table.TableKind.TheVariants.{Value, RefCount}
use Rattle.record.specs.Next.{answer_of, reader_at, next_of}
use Rattle.numbers.specs.Queue.{list_of}
use Rattle.keys.specs.Keys.{mark_at}
use Rattle.change.specs.Insert.{not_made, inserted}
use Rattle.change.specs.Drop.{table_dropped}
use Rattle.writer.specs.Flush.{flush_to_file}
use Rattle.files.specs.Queues.{pool_of}
use Rattle.files.specs.Calls.{flush_one, not_flushed, clean_logs}
use Rattle.cases.specs.Records.{case_tables, empty_list, sixty_bytes, counting, chunk_of, empty_record, two_slots, one_value, one_drop, one_count, wrote, slot_put}
use Rattle.cases.specs.Files.{ten_bytes, seventeen_due}

-- what a new reader answers to the bytes
abbrev pub answered_to : Directory → Bool → List ℕ → ℕ
answered_to d validate log = answer_of (next_of d log (reader_at 0 validate))

-- for every directory that keeps its rules, validating or not
abbrev pub Always : (Directory → Bool → Type 0) → Type 0
Always P = (d : Directory) → directory_kept d ≡ true → (validate : Bool) → P d validate

-- the twelve cases
pub record Table : Type 0 where
  -- "(a) empty record, 14 bytes"
  pub a : flush_to_file case_tables empty_list sixty_bytes ≡ wrote empty_record
  pub a-length : length empty_record ≡ 14
  -- "(b) mask 5, index, 49 bytes in all": slots 0 and 2 put in, one after the other
  pub b : flush_to_file case_tables (slot_put (slot_put empty_list 0).change 2).change sixty_bytes ≡ wrote two_slots
  pub b-length : length two_slots ≡ 49
  -- "(c) one 20-byte value, 45"
  pub c : flush_to_file case_tables (inserted Value case_tables empty_list 2 4 0 (counting 20 1)).change sixty_bytes ≡ wrote one_value
  pub c-length : length one_value ≡ 45
  -- "(d) one drop, 17"
  pub d : flush_to_file case_tables (table_dropped case_tables empty_list 1).change sixty_bytes ≡ wrote one_drop
  pub d-length : length one_drop ≡ 17
  -- "(e) reference count, one slot, 49"
  pub e : flush_to_file case_tables (inserted RefCount case_tables empty_list 3 5 1 (chunk_of 1024)).change sixty_bytes ≡ wrote one_count
  pub e-length : length one_count ≡ 49
  -- "(f) bytes 01 and seven more, answer 1"
  pub f : Always (λ d validate. (a b c e f g h : ℕ) → answered_to d validate (1 ∷ a ∷ b ∷ c ∷ e ∷ f ∷ g ∷ h ∷ []) ≡ 1)
  -- "(g) byte 02 alone, 1"
  pub g : Always (λ d validate. answered_to d validate (2 ∷ []) ≡ 1)
  -- "(h) byte 08, 3"
  pub h : Always (λ d validate. answered_to d validate (8 ∷ []) ≡ 3)
  -- "(i) 05 and two bytes, 4"
  pub i : Always (λ d validate. (a b : ℕ) → answered_to d validate (5 ∷ a ∷ b ∷ []) ≡ 4)
  -- "(j) slot 63 taken, 64 answered 14": bit 63 is set in the stored mask, and a refusal leaves the list as it was
  pub j-63 : (slot_put empty_list 63).answer ≡ Done
  pub j-mask : mark_at (slot_put empty_list 63).change.parts.index.rows 0 ≡ 2 ^ 63
  pub j-64 : slot_put empty_list 64 ≡ not_made BadArgument empty_list
  -- "(k) size 10, minimum 10, no flush"
  pub k : flush_one ten_bytes 10 ≡ not_flushed Done ten_bytes
  -- "(l) 17 due in the pool, the highest removed": file 16 goes, 0 to 15 are kept
  pub l : list_of (clean_logs seventeen_due 1).remove ≡ 16 ∷ []
  pub l-kept : pool_of (clean_logs seventeen_due 1).queues ≡ 0 ∷ 1 ∷ 2 ∷ 3 ∷ 4 ∷ 5 ∷ 6 ∷ 7 ∷ 8 ∷ 9 ∷ 10 ∷ 11 ∷ 12 ∷ 13 ∷ 14 ∷ 15 ∷ []
