-- Demand 1: "A refused call changes no table, overlay, queue, list or output byte; a run is judged record by record, and end of log may move
-- one file." A call at a time: an answer other than 0 leaves what it was handed as it was. (Reading, replay and the run: crates record, replay.)
-- Assumes nothing.
use mathlib.Core.Path.{◌≡◌, refl, sym}
use mathlib.Core.Bool.{Bool, true, false, ◌&&◌}
use mathlib.Core.List.{List, [], ◌∷◌, map}
use mathlib.Core.Option.{Option}
use Prim.Native.Nat.{ℕ, ◌+◌, ◌<◌}
use native.Mathlib.Omega.{arith}
use lib.Dec.{eqb, ltb}
use lib.ListN.{length}
use lib.Seq.{paste-zero}
use borrow.Author.Tests.{ne_eqb}
use Rattle.std.specs.Prelude.{if◌then◌else◌}
use Rattle.std.specs.Prelude.{Some, Result, Ok, Err, IfOk, IfErr}
use Rattle.answer.specs.Answer.{number_of, answer_in, last_record_id}
use Rattle.answer.specs.declared.answer.Answer.{Answer}
use Rattle.answer.specs.declared.answer.Answer.TheVariants.{Done, NoRoom, UsedUp, BadState, ShortOutput, EndOfLog}
use Rattle.answer.specs.declared.answer.Refusal.{Refusal}
use Rattle.directory.specs.Directory.{find_table}
use Rattle.directory.specs.declared.table.TableKind.{TableKind}
use Rattle.directory.specs.declared.table.TableKind.TheVariants.{Index, Value, RefCount}
use Rattle.directory.specs.declared.directory.Directory.{Directory}
use Rattle.overlay.specs.Rules.{Overlay, overlay_kept}
use Rattle.overlay.specs.Entries.{Entry, entries_of, find_entry, or_else}
use Rattle.memory.specs.Parts.{of_kind, parts_kept}
use Rattle.memory.specs.declared.span.Holder.TheVariants as holder
use Rattle.memory.specs.Overlays.{Overlays, overlays_of}
use Rattle.memory.specs.declared.overlays.LogOverlays.{LogOverlays}
use Rattle.record.specs.Next.{reader_at, opening_of}
use Rattle.record.specs.declared.reader.LogReader.{LogReader}
use Rattle.record.specs.declared.reader.Stepped.{Stepped}
use Rattle.replay.specs.Replay.{Walked, fault, walked}
use Rattle.change.specs.Change.{Change, new_list, with_drops, with_count_drops, change_kept, change_ruled}
use Rattle.change.specs.Insert.{Made, not_made, made_by, plan_in, inserted_kept, inserted}
use Rattle.change.specs.Drop.{dropped_in, drop_made, table_dropped_kept, table_dropped, count_table_dropped_kept, count_table_dropped}
use Rattle.change.specs.declared.drops.Drops.{Drops}
use Rattle.change.specs.Size.{record_size, sized}
use Rattle.change.specs.Values.{values_of_kept, values_of}
use Rattle.output.specs.Put.{put}
use Rattle.writer.specs.Bytes.{record_of}
use Rattle.writer.specs.Flush.{FlushedLog, unwritten, flushed_of, flush_to_file_kept, flush_to_file}
use Rattle.clearing.specs.EndRead.{Again, to_clear, end_read_by, end_read_of}
use Rattle.ending.specs.EndRecord.{Handed, EndState, is_done, end_answer, not_ended, ended, end_record}
use Rattle.files.specs.declared.queues.Queues.{Queues}
use Rattle.files.specs.declared.writing.Taken.{Taken}
use Rattle.files.specs.declared.writing.Flushed.{Flushed}
use Rattle.files.specs.declared.reading.ReplayNext.{ReplayNext}
use Rattle.files.specs.declared.reading.ReplayCleared.{ReplayCleared}
use Rattle.files.specs.declared.cleaning.Cleaned.{Cleaned}
use Rattle.files.specs.declared.cleaning.Killed.{Killed}
use Rattle.files.specs.declared.read.ReadNext.{ReadNext}
use Rattle.files.specs.Queues.{appending_size, queues_kept}
use Rattle.files.specs.Calls.{flushes, not_flushed, flush_one_kept, flush_one, no_replay, replay_next_kept, replay_next, clear_replay_logs_kept, clear_replay_logs, not_cleaned, clean_logs_kept, clean_logs, kill_logs_kept, kill_logs, file_set_full, files_used_up, taken_by, take_file_kept, take_file, taken_queues}
use Rattle.files.specs.Moves.{appending_queued, reading_cleaned, front_replayed}
use Rattle.numbers.specs.Numbers.{has, over}
use Rattle.numbers.specs.Queue.{front_of_of, no_numbers}
use Rattle.files.specs.Read.{now_reading, not_read, read_by, read_next_kept, read_next}
use Rattle.files.specs.Open.{opened_by, open_logs, remove_count_of}
use Rattle.found.specs.Names.{said_by}
use Rattle.found.specs.Logs.{removed, in_order_of, found_kept, file_number, files_told, to_replay, log_files}
use Rattle.found.specs.Logs as logs
use Rattle.found.specs.declared.sorted.LogFile.{LogFile}
use Rattle.found.specs.declared.logs.LogFiles.{LogFiles}
use Rattle.query.specs.Query.{looked_if, shared_look, listed_look, bytes_of, copied_over}
use Rattle.log_calls.specs.Begin.{begin_record, begun_next}
use Rattle.log_calls.specs.declared.begin.Begun.{Begun}
use Rattle.log_calls.specs.ClearReplay.{logs_cleared_kept, logs_cleared, cleared_overlays, cleared_queues}
use Rattle.log_calls.specs.declared.clear_replay.LogsCleared.{LogsCleared}

-- behind 13: what holds of a call at a state that keeps its rules, holds of the call
module _ {A : Type 0} (answer : A → Answer) (Left : A → Type 0) where
  behind-13 : (b : Bool) (x y : A) → Left y → (0 < number_of (answer x) → Left x) → 0 < number_of (answer (if b then x else y)) → Left (if b then x else y)
  behind-13 true x y l f h = f h
  behind-13 false x y l f h = l

-- 0 is no refusal
never : {A : Type 0} → 0 < 0 → A
never h = let z : ⊥ = omega arith in absurd z

-- ---- a change list: `insert_index`, `insert_value`, `insert_ref_count`, `drop_table`, `drop_ref_count_table`
abbrev Same : Change → Made → Type 0
Same l m = m.change ≡ l

module _ (d : Directory) (l : Change) where
  by-plan : (kind : TableKind) (number index sub : ℕ) (bytes : List ℕ) (p : Result ℕ Answer) → 0 < number_of (made_by p kind l number index sub bytes).answer → Same l (made_by p kind l number index sub bytes)
  by-plan kind number index sub bytes (Err a) h = refl
  by-plan kind number index sub bytes (Ok old) h = never h

  pub insert-refused : (kind : TableKind) (number index sub : ℕ) (bytes : List ℕ) → 0 < number_of (inserted kind d l number index sub bytes).answer → (inserted kind d l number index sub bytes).change ≡ l
  unfolding inserted inserted_kept
  insert-refused kind number index sub bytes =
      behind-13 (λ (m : Made). m.answer) (Same l) (change_kept d l) (inserted_kept kind d l number index sub bytes) (not_made BadState l) refl
      (by-plan kind number index sub bytes (plan_in kind (of_kind kind l.parts) (find_table d kind number) number index sub bytes))

  by-drop : (after : Drops → Change) (r : Result Drops Answer) → 0 < number_of (drop_made l after r).answer → Same l (drop_made l after r)
  by-drop after (Ok s) h = never h
  by-drop after (Err a) h = refl

  pub drop_refused : (number : ℕ) → 0 < number_of (table_dropped d l number).answer → (table_dropped d l number).change ≡ l
  unfolding table_dropped table_dropped_kept
  drop_refused number =
      behind-13 (λ (m : Made). m.answer) (Same l) (change_kept d l) (table_dropped_kept d l number) (not_made BadState l) refl
      (by-drop (with_drops l) (dropped_in d Index l.drops number))

  pub count_drop_refused : (number : ℕ) → 0 < number_of (count_table_dropped d l number).answer → (count_table_dropped d l number).change ≡ l
  unfolding count_table_dropped count_table_dropped_kept
  count_drop_refused number =
      behind-13 (λ (m : Made). m.answer) (Same l) (change_kept d l) (count_table_dropped_kept d l number) (not_made BadState l) refl
      (by-drop (with_count_drops l) (dropped_in d RefCount l.count_drops number))

  -- ---- the output: `flush_to_file`
  by_length : (b : Bool) (out : List ℕ) (x : FlushedLog) → 0 < number_of (answer_in (if b then unwritten ShortOutput out else x).sized) → (0 < number_of (answer_in x.sized) → x.output ≡ out)
      → (if b then unwritten ShortOutput out else x).output ≡ out
  by_length true out x h f = refl
  by_length false out x h f = f h

  pub flush_refused : (out : List ℕ) → 0 < number_of (answer_in (flush_to_file d l out).sized) → (flush_to_file d l out).output ≡ out
  unfolding flush_to_file flush_to_file_kept
  flush_refused out =
      behind-13 (λ (x : FlushedLog). answer_in x.sized) (λ (x : FlushedLog). x.output ≡ out) (change_kept d l) (flush_to_file_kept l out) (unwritten BadState out) refl
      (λ h. by_length (ltb (length out) (record_size l)) out _ h never)

-- ---- a value's destination: `value`, with a list and without
by-rules : (b : Bool) (found : Option Entry) (dest : List ℕ) → 0 < number_of (looked_if b found).answer → copied_over (bytes_of (looked_if b found).entry) dest ≡ dest
by-rules true found dest h = never h
by-rules false found [] h = refl
by-rules false found (x ∷ dest) h = refl

pub value-refused : (o : Overlay) (key : ℕ) (dest : List ℕ) → 0 < number_of (shared_look Value o key).answer → copied_over (bytes_of (shared_look Value o key).entry) dest ≡ dest
unfolding shared_look
value-refused o key = by-rules (overlay_kept Value 256 o) (find_entry key (entries_of Value o))

pub value-listed-refused : (l : Change) (o : Overlay) (key : ℕ) (dest : List ℕ) → 0 < number_of (listed_look Value l o key).answer → copied_over (bytes_of (listed_look Value l o key).entry) dest ≡ dest
unfolding listed_look
value-listed-refused l o key =
    by-rules (change_ruled l && overlay_kept Value 256 o) (or_else (find_entry key (entries_of Value (of_kind Value l.parts))) (find_entry key (entries_of Value o)))

-- A refused call that answers a `Result` hands nothing on: its caller is left with what it handed in by value.
refused-is : {A : Type 0} (r : Result A Answer) → 0 < number_of (answer_in r) → (a : Answer) × (r ≡ Err a)
refused-is (Ok x) h = never h
refused-is (Err a) h = (a, refl)

-- ---- `begin_record`: the next id
by-id : (next : ℕ) (r : Result Begun Answer) → 0 < number_of (answer_in r) → begun_next next r ≡ next
by-id next (Ok b) h = never h
by-id next (Err a) h = refl

pub begin-refused : (next : ℕ) → 0 < number_of (answer_in (begin_record next))
    → ((a : Answer) × (begin_record next ≡ Err a)) × (begun_next next (begin_record next) ≡ next)
begin-refused next h = (refused-is (begin_record next) h, by-id next (begin_record next) h)

-- ---- `end_record`: overlays, queues, output
module _ (d : Directory) (h : Handed) where
  by-done : (a : Answer) (t : Taken) (b : Bool) → is_done a ≡ b → (let x : EndState = if b then ended d h t else not_ended a h in
      0 < number_of x.answer → (x.overlays ≡ h.overlays) × (x.queues ≡ h.queues) × (x.output ≡ h.output))
  by-done a t true e n = never n
  by-done a t false e n = (refl, refl, refl)

  pub end_refused : 0 < number_of (end_record d h).answer
      → ((end_record d h).overlays ≡ h.overlays) × ((end_record d h).queues ≡ h.queues) × ((end_record d h).output ≡ h.output)
  unfolding end_record
  end_refused = by-done (end_answer d h) (taken_by h.queues (appending_size h.queues + record_size h.list)) (is_done (end_answer d h)) refl

-- ---- `end_read`: overlays and the next id
module _ (d : Directory) (log : List ℕ) (at : ℕ) (s : Overlays) (next : ℕ) where
  by-walk : (g : Walked Again) → 0 < number_of (end_read_by at s next g).answer → ((end_read_by at s next g).overlays ≡ s) × ((end_read_by at s next g).next_record_id ≡ next)
  by-walk (fault x) h = (refl, refl)
  by-walk (walked g end) h = never h

  pub clear-refused : 0 < number_of (end_read_of d log at s next).answer → ((end_read_of d log at s next).overlays ≡ s) × ((end_read_of d log at s next).next_record_id ≡ next)
  clear-refused = by-walk (to_clear d log at s next)

-- ---- `clear_replay_logs`: overlays and queues
by-states : (o : LogOverlays) (q : Queues) (r : Result LogsCleared Answer) → 0 < number_of (answer_in r) → (cleared_overlays o r ≡ o) × (cleared_queues q r ≡ q)
by-states o q (Ok c) h = never h
by-states o q (Err a) h = (refl, refl)

pub clear-replay-refused : (o : LogOverlays) (words bytes : List ℕ) (q : Queues) → 0 < number_of (answer_in (logs_cleared o words bytes q))
    → ((a : Answer) × (logs_cleared o words bytes q ≡ Err a))
    × (cleared_overlays o (logs_cleared o words bytes q) ≡ o) × (cleared_queues q (logs_cleared o words bytes q) ≡ q)
clear-replay-refused o words bytes q h =
    let s = by-states o q (logs_cleared o words bytes q) h in (refused-is (logs_cleared o words bytes q) h, s.0, s.1)

-- ---- `open`: the list for the removals, of which a refusal writes none
module _ (names nameLengths lengths heads remove : List ℕ) where
  abbrev Untold : Result LogFiles Answer → Type 0
  Untold f = over remove (removed (said_by names nameLengths) lengths) (logs.remove_count_of f) ≡ remove

  none_told : over remove (removed (said_by names nameLengths) lengths) 0 ≡ remove
  none_told = sym (paste-zero remove 0 (removed (said_by names nameLengths) lengths))

  by-found : (b c e : Bool) (n : ℕ) (files : List LogFile)
      → (let f : Result LogFiles Answer = if b then Err NoRoom else if c then Err UsedUp else if e then Err ShortOutput else Ok (files_told n files) in
      0 < number_of (answer_in f) → Untold f)
  by-found true c e n files h = none_told
  by-found false true e n files h = none_told
  by-found false false true n files h = none_told
  by-found false false false n files h = never h

  -- what `open` answers and tells is what the files found do
  as-found : (f : Result LogFiles Answer) → (0 < number_of (answer_in f) → Untold f) → 0 < number_of (answer_in (opened_by f))
      → over remove (removed (said_by names nameLengths) lengths) (remove_count_of (opened_by f)) ≡ remove
  as-found (Ok f) g h = never h
  as-found (Err a) g h = none_told

  pub open_refused : 0 < number_of (answer_in (open_logs names nameLengths lengths heads (length remove)))
      → over remove (removed (said_by names nameLengths) lengths) (remove_count_of (open_logs names nameLengths lengths heads (length remove))) ≡ remove
  unfolding open_logs log_files to_replay
  open_refused =
      let files : List LogFile = in_order_of (said_by names nameLengths) lengths heads in
      let n : ℕ = length (removed (said_by names nameLengths) lengths) in
      as-found (log_files names nameLengths lengths heads (length remove))
      (behind-13 answer_in Untold (found_kept names nameLengths lengths heads) (to_replay (length remove) n files) (Err BadState) none_told
      (by-found (ltb 64 (length files)) (has 4294967295 (map file_number files)) (ltb (length remove) n) n files))

-- ---- the queues' calls: but for `take_file` and `read_next` only 13 refuses, and it changes nothing
module _ (q : Queues) where
  by_size : (b : Bool) (x : Flushed) → x.answer ≡ Done → 0 < number_of (if b then x else not_flushed Done q).answer → (if b then x else not_flushed Done q).queues ≡ q
  by_size true x e h = never (rw e at h)
  by_size false x e h = refl

  pub flush_one-refused : (min : ℕ) → 0 < number_of (flush_one q min).answer → (flush_one q min).queues ≡ q
  unfolding flush_one flush_one_kept
  flush_one-refused min = behind-13 (λ (x : Flushed). x.answer) (λ (x : Flushed). x.queues ≡ q) (queues_kept q) (flush_one_kept q min) (not_flushed BadState q) refl
      (let moved : Flushed = record { answer = Done; moved = Some q.appending.id; queues = appending_queued q } in by_size (flushes q min) moved refl)

  by_front : (b : Bool) (x y : ReplayNext) → x.answer ≡ Done → y.answer ≡ Done → 0 < number_of (if b then x else y).answer → (if b then x else y).queues ≡ q
  by_front true x y e f h = never (rw e at h)
  by_front false x y e f h = never (rw f at h)

  pub replay-next-refused : 0 < number_of (replay_next q).answer → (replay_next q).queues ≡ q
  unfolding replay_next replay_next_kept
  replay-next-refused =
      behind-13 (λ (x : ReplayNext). x.answer) (λ (x : ReplayNext). x.queues ≡ q) (queues_kept q) (replay_next_kept q) (no_replay BadState q) refl
      (let front : ReplayNext = record { answer = Done; number = Some (front_of_of q.replay_queue); queues = front_replayed (reading_cleaned q) } in
      by_front (eqb q.replay_queue.count 0) (no_replay Done (reading_cleaned q)) front refl refl)

  pub clear_logs_refused : 0 < number_of (clear_replay_logs q).answer → (clear_replay_logs q).queues ≡ q
  unfolding clear_replay_logs
  clear_logs_refused =
      let bad : ReplayCleared = record { answer = BadState; queues = q } in
      behind-13 (λ (x : ReplayCleared). x.answer) (λ (x : ReplayCleared). x.queues ≡ q) (queues_kept q) (clear_replay_logs_kept q) bad refl never

  pub clean_refused : (n : ℕ) → 0 < number_of (clean_logs q n).answer → (clean_logs q n).queues ≡ q
  unfolding clean_logs clean_logs_kept
  clean_refused n = behind-13 (λ (x : Cleaned). x.answer) (λ (x : Cleaned). x.queues ≡ q) (queues_kept q) (clean_logs_kept q n) (not_cleaned BadState q) refl never

  pub kill_refused : 0 < number_of (kill_logs q).answer → (kill_logs q).queues ≡ q
  unfolding kill_logs
  kill_refused =
      let bad : Killed = record { answer = BadState; remove = no_numbers; queues = q } in
      behind-13 (λ (x : Killed). x.answer) (λ (x : Killed). x.queues ≡ q) (queues_kept q) (kill_logs_kept q) bad refl never

  -- ---- `take_file`
  by-file-taken : (r : Result Taken Answer) → 0 < number_of (answer_in r) → taken_queues q r ≡ q
  by-file-taken (Ok t) h = never h
  by-file-taken (Err a) h = refl

  pub take_refused : (more : ℕ) → 0 < number_of (answer_in (take_file q more))
      → ((a : Answer) × (take_file q more ≡ Err a)) × (taken_queues q (take_file q more) ≡ q)
  take_refused more h = (refused-is (take_file q more) h, by-file-taken (take_file q more) h)

  -- ---- `read_next`: "1 sends the file to cleanup, other answers move nothing"
  by_number : (n : ℕ) (x : Queues) → (n ≡ 1 → ⊥) → (if eqb n 1 then x else q) ≡ q
  by_number n x h = rw (ne_eqb n 1 h)

  by-opening : (r : LogReader) (s : Result Stepped Refusal) → 0 < number_of (read_by q r s).answer → (number_of (read_by q r s).answer ≡ 1 → ⊥) → (read_by q r s).queues ≡ q
  unfolding read_by
  by-opening r (Ok s) h n = never h
  by-opening r (Err x) h n = by_number (number_of x.answer) _ n

  abbrev Moves : ReadNext → Type 0
  Moves x = (number_of x.answer ≡ 1 → ⊥) → x.queues ≡ q

  by-file : (P : ReadNext → Type 0) (b c : Bool) (x y z : ReadNext) → (0 < number_of x.answer → P x) → P y → (0 < number_of z.answer → P z)
      → (let all : ReadNext = if b then x else if c then y else z in 0 < number_of all.answer → P all)
  by-file P true c x y z f g k h = f h
  by-file P false true x y z f g k h = g
  by-file P false false x y z f g k h = k h

  pub read-next-refused : (log : List ℕ) (position : ℕ) (validate : Bool) → 0 < number_of (read_next q log position validate).answer
      → (number_of (read_next q log position validate).answer ≡ 1 → ⊥) → (read_next q log position validate).queues ≡ q
  unfolding read_next read_next_kept
  read-next-refused log position validate =
      let here : LogReader = reader_at position validate in
      let own : Result Stepped Refusal = opening_of log here in
      let front : Result Stepped Refusal = opening_of log (reader_at 0 validate) in
      behind-13 (λ (x : ReadNext). x.answer) Moves (queues_kept q) (read_next_kept q log position validate) (not_read BadState here q) (λ n. refl)
      (by-file Moves q.reading.some (eqb q.read_queue.count 0) (read_by q here own) (not_read EndOfLog here q) (read_by q here front) (by-opening here own) (λ n. refl) (by-opening here front))

  -- "end of log may move one file"
  abbrev Ends : ReadNext → Type 0
  Ends x = number_of x.answer ≡ 1 → (moved : Bool) × (x.queues ≡ (if moved then reading_cleaned (now_reading q) else q))

  by_end : (r : LogReader) (s : Result Stepped Refusal) → 0 < number_of (read_by q r s).answer → Ends (read_by q r s)
  unfolding read_by
  by_end r (Ok s) h = never h
  by_end r (Err x) h = λ e. (eqb (number_of x.answer) 1, refl)

  pub read-next-ends : (log : List ℕ) (position : ℕ) (validate : Bool) → number_of (read_next q log position validate).answer ≡ 1
      → (moved : Bool) × ((read_next q log position validate).queues ≡ (if moved then reading_cleaned (now_reading q) else q))
  unfolding read_next read_next_kept
  read-next-ends log position validate e =
      let here : LogReader = reader_at position validate in
      let own : Result Stepped Refusal = opening_of log here in
      let front : Result Stepped Refusal = opening_of log (reader_at 0 validate) in
      behind-13 (λ (x : ReadNext). x.answer) Ends (queues_kept q) (read_next_kept q log position validate) (not_read BadState here q) (λ n. (false, refl))
      (by-file Ends q.reading.some (eqb q.read_queue.count 0) (read_by q here own) (not_read EndOfLog here q) (read_by q here front) (by_end here own) (λ n. (false, refl)) (by_end here front))
      (omega (arith, e)) e

-- ---- a refusal's number is never 0: of each call that hands out nothing where it refuses
abbrev Numbered : {A : Type 0} → Result A Answer → Type 0
Numbered r = IfErr r (λ a. 0 < number_of a)

one_test : {A : Type 0} (b : Bool) (r : Result A Answer) (a : Answer) → 0 < number_of a → Numbered r → Numbered (if b then r else Err a)
one_test true r a h n = n
one_test false r a h n = h

other_test : {A : Type 0} (b : Bool) (r : Result A Answer) (a : Answer) → 0 < number_of a → Numbered r → Numbered (if b then Err a else r)
other_test true r a h n = h
other_test false r a h n = n

pub begin_numbered : (next : ℕ) → IfErr (begin_record next) (λ a. 0 < number_of a)
unfolding begin_record
begin_numbered next = other_test (eqb next 0) _ BadState (omega arith) (other_test (eqb next last_record_id) (Ok (record { next_record_id = next + 1; list = new_list next })) UsedUp (omega arith) tt)

pub clear-replay-numbered : (o : LogOverlays) (words bytes : List ℕ) (q : Queues) → IfErr (logs_cleared o words bytes q) (λ a. 0 < number_of a)
unfolding logs_cleared
clear-replay-numbered o words bytes q = one_test (parts_kept holder.Shared (overlays_of o words bytes).parts && queues_kept q) (Ok (logs_cleared_kept q)) BadState (omega arith) tt

pub take_numbered : (q : Queues) (more : ℕ) → IfErr (take_file q more) (λ a. 0 < number_of a)
unfolding take_file take_file_kept
take_numbered q more =
    one_test (queues_kept q) (take_file_kept q more) BadState (omega arith)
    (other_test (file_set_full q) _ NoRoom (omega arith) (other_test (files_used_up q more) (Ok (taken_by q (appending_size q + more))) UsedUp (omega arith) tt))

pub sized_numbered : (d : Directory) (l : Change) → IfErr (sized d l) (λ a. 0 < number_of a)
unfolding sized
sized_numbered d l = one_test (change_kept d l) (Ok (record_size l)) BadState (omega arith) tt

pub values_numbered : (l : Change) (number : ℕ) → IfErr (values_of l number) (λ a. 0 < number_of a)
unfolding values_of
values_numbered l number = one_test (change_ruled l) (Ok (values_of_kept l number)) BadState (omega arith) tt

pub flush_numbered : (d : Directory) (l : Change) (out : List ℕ) → IfErr (flush_to_file d l out).sized (λ a. 0 < number_of a)
unfolding flush_to_file flush_to_file_kept
flush_numbered d l out = by_rules (change_kept d l) (ltb (length out) (record_size l)) (flushed_of (Ok (record_size l)) (put out 0 (record_of l))) tt
  where
    by_rules : (b c : Bool) (x : FlushedLog) → Numbered x.sized → Numbered (if b then if c then unwritten ShortOutput out else x else unwritten BadState out).sized
    by_rules true true x n = (let h : 0 < number_of ShortOutput = omega arith in h)
    by_rules true false x n = n
    by_rules false c x n = (let h : 0 < number_of BadState = omega arith in h)

pub open_numbered : (names nameLengths lengths heads : List ℕ) (room : ℕ) → IfErr (open_logs names nameLengths lengths heads room) (λ a. 0 < number_of a)
unfolding open_logs log_files to_replay
open_numbered names nameLengths lengths heads room =
    let files : List LogFile = in_order_of (said_by names nameLengths) lengths heads in
    let n : ℕ = length (removed (said_by names nameLengths) lengths) in
    opened (log_files names nameLengths lengths heads room)
    (one_test (found_kept names nameLengths lengths heads) (to_replay room n files) BadState (omega arith)
    (other_test (ltb 64 (length files)) _ NoRoom (omega arith) (other_test (has 4294967295 (map file_number files)) _ UsedUp (omega arith) (other_test (ltb room n) (Ok (files_told n files)) ShortOutput (omega arith) tt))))
  where
    opened : (f : Result LogFiles Answer) → Numbered f → Numbered (opened_by f)
    opened (Ok f) h = tt
    opened (Err a) h = h
