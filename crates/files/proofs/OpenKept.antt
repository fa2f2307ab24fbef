-- `open` and `read_next` keep the rules and lose no number, and what `open` is to replay is in order. Document 01: "Replay order is by id, ties by
-- number (added). .. The same taken name twice gives 13, then more than 64 kept files 9, then a kept 2^32-1 gives 12."; "0 makes that the one
-- being read, 1 sends the file to cleanup, other answers move nothing". Assumes nothing.
use Prim.Native.Nat.{ℕ, zero, suc, ◌+◌, ◌-◌, ◌≤◌}
use mathlib.Core.Bool.{Bool, true, false}
use mathlib.Core.List.{List, ◌∷◌, map, map-append}
use mathlib.Core.Path.{◌≡◌, refl, ap, ◌∙◌}
use native.Mathlib.Omega.{arith}
use lib.ListN.{take, length, length-map, replicate}
use Rattle.numbers.specs.Queue.{list_of}
use lib.Dec.{eqb}
use borrow.Author.Tests.{eqb-false, eqb-true}
use Rattle.std.specs.Prelude.{if◌then◌else◌}
use Rattle.numbers.specs.Numbers.{times, all_below, distinct}
use Rattle.answer.specs.Answer.{number_of}
use Rattle.record.specs.Next.{reader_at, opening_of}
use Rattle.answer.specs.declared.answer.Answer.{Answer}
use Rattle.answer.specs.declared.answer.Answer.TheVariants.{EndOfLog}
use Rattle.record.specs.declared.reader.LogReader.{LogReader}
use Rattle.found.specs.Names.{said_by}
use Rattle.found.specs.Logs.{file_number, file_id, taken_numbers, removed, kept_files, in_order_of, ordered, how_many, next_from, files_told, log_files}
use Rattle.found.specs.Listed.{listed}
use Rattle.found.specs.declared.sorted.LogFile.{LogFile}
use Rattle.found.specs.declared.logs.LogFiles.{LogFiles}
use Rattle.found.proofs.Listed.{filled}
use Rattle.found.proofs.SortLaws.{pairs_map, next-above}
use Rattle.found.proofs.Found.{order-times}
use Rattle.found.proofs.Order.{same_files}
use Rattle.found.proofs.Answers.{Told, logs-told, logs-all}
use Rattle.files.specs.Queues.{replay_of, appending_size, files_of, queues_kept, QueuesTyped}
use Rattle.files.specs.Moves.{first_ids, reading_cleaned}
use Rattle.files.specs.Open.{opened_with, opened_by, open_logs, replay_files}
use Rattle.files.specs.declared.open.Opened.{Opened}
use Rattle.files.specs.Read.{now_reading, not_read, read_by, read_next_kept, read_next}
use Rattle.files.specs.Inner.{has_file}
use Rattle.files.specs.declared.queues.Queues.{Queues}
use Rattle.files.specs.declared.read.ReadNext.{ReadNext}
use Rattle.files.proofs.Rule.{Kept, kept_facts, kept-makes, behind-door}
use Rattle.files.proofs.Kept.{reading_kept, reading_times}
use Rattle.files.proofs.ReadOf.{has_reading, has-waiting, next_reading, next-none, next-front}
use Rattle.files.proofs.ReadKept.{now_kept, now_sized, now_times}
use Rattle.std.specs.Prelude.{Result, Ok, Err, IfOk}
use Rattle.record.specs.declared.reader.Stepped.{Stepped}
use Rattle.answer.specs.declared.answer.Refusal.{Refusal}

-- a function of each of a list in an array
map_replicate : {A B : Type 0} (f : A → B) (n : ℕ) (a : A) → map f (replicate n a) ≡ replicate n (f a)
map_replicate f zero a = refl
map_replicate {B = B} f (suc n) a = ap (λ (l : List B). f a ∷ l) (map_replicate f n a)

map_listed : {A B : Type 0} (f : A → B) (a : A) (n : ℕ) (l : List A) → map f (listed a n l) ≡ listed (f a) n (map f l)
unfolding listed
map_listed f a n l = map-append f l (replicate (n - length l) a) ∙ rw (length-map l f, map_replicate f (n - length l) a)

module _ (n : ℕ) (files : List LogFile) where
  numbers_told : replay_of (opened_with (files_told n files)) ≡ map file_number files
  numbers_told = ap (take (length files)) (map_listed file_number (record { id = 0; number = 0 }) 64 files) ∙ filled 0 64 (length files) (map file_number files) (length-map files file_number)

  ids_told : list_of (first_ids (opened_with (files_told n files))) ≡ map file_id files
  ids_told = ap (take (length files)) (map_listed file_id (record { id = 0; number = 0 }) 64 files) ∙ filled 0 64 (length files) (map file_id files) (length-map files file_id)

  opened_files : files_of (opened_with (files_told n files)) ≡ map file_number files
  unfolding files_of
  opened_files = numbers_told

  opened-kept : length files ≤ 64 → distinct (map file_number files) ≡ true → queues_kept (opened_with (files_told n files)) ≡ true
  unfolding appending_size
  opened-kept h d = kept-makes (opened_with (files_told n files)) (record {
    room = record { read = omega arith; cleanup = omega arith; pool = omega arith; replay = h; all = omega arith };
    below = ap (all_below (next_from 0 (map file_number files))) opened_files ∙ next-above 0 (map file_number files);
    once = ap distinct opened_files ∙ d;
    pool = refl;
    size = omega arith;
  })

  opened_queue : replay_files (opened_with (files_told n files)) ≡ files
  opened_queue = rw (numbers_told, ids_told) (pairs_map files)

module _ (names nameLengths lengths heads : List ℕ) (room : ℕ) where
  -- what holds of the queues of any files that are told
  told-by : (P : Queues → Type 0) (T : LogFiles → Type 0) (r : Result LogFiles Answer) → IfOk r T → ((f : LogFiles) → T f → P (opened_with f)) → IfOk (opened_by r) (λ (o : Opened). P o.queues)
  told-by P T (Ok f) h g = g f h
  told-by P T (Err a) h g = tt

  pub open_keeps : IfOk (open_logs names nameLengths lengths heads room) (λ (o : Opened). queues_kept o.queues ≡ true)
  unfolding open_logs
  open_keeps =
      told-by (λ (q : Queues). queues_kept q ≡ true) Told (log_files names nameLengths lengths heads room) (logs-told names nameLengths lengths heads room)
      (λ f t. rw t.told (opened-kept t.toRemove t.files t.few t.once))

  -- "Replay order is by id, ties by number"
  pub open_ordered : IfOk (open_logs names nameLengths lengths heads room) (λ (o : Opened). ordered (replay_files o.queues) ≡ true)
  unfolding open_logs
  open_ordered =
      told-by (λ (q : Queues). ordered (replay_files q) ≡ true) Told (log_files names nameLengths lengths heads room) (logs-told names nameLengths lengths heads room)
      (λ f t. rw t.told (ap ordered (opened_queue t.toRemove t.files) ∙ t.ordered))

  -- the files kept, in another order: as many pass any test
  pub open_same : (p : LogFile → Bool)
      → IfOk (open_logs names nameLengths lengths heads room) (λ (o : Opened). how_many p (replay_files o.queues) ≡ how_many p (kept_files (said_by names nameLengths) lengths heads))
  unfolding open_logs
  open_same p =
      let k = length (removed (said_by names nameLengths) lengths) in
      let fs = in_order_of (said_by names nameLengths) lengths heads in
      told-by (λ (q : Queues). how_many p (replay_files q) ≡ how_many p (kept_files (said_by names nameLengths) lengths heads)) (λ (f : LogFiles). f ≡ files_told k fs)
      (log_files names nameLengths lengths heads room) (logs-all names nameLengths lengths heads room)
      (λ f e. rw e (ap (how_many p) (opened_queue k fs) ∙ same_files p (said_by names nameLengths) lengths heads))

  -- each file found under a taken name is to be replayed or to be removed
  pub open_loses_none : (v : ℕ)
      → IfOk (open_logs names nameLengths lengths heads room) (λ (o : Opened). times v (files_of o.queues) + times v (removed (said_by names nameLengths) lengths) ≡ times v (taken_numbers (said_by names nameLengths)))
  unfolding open_logs
  open_loses_none v =
      let k = length (removed (said_by names nameLengths) lengths) in
      let fs = in_order_of (said_by names nameLengths) lengths heads in
      told-by (λ (q : Queues). times v (files_of q) + times v (removed (said_by names nameLengths) lengths) ≡ times v (taken_numbers (said_by names nameLengths))) (λ (f : LogFiles). f ≡ files_told k fs)
      (log_files names nameLengths lengths heads room) (logs-all names nameLengths lengths heads room)
      (λ f e. rw e (ap (λ (l : List ℕ). times v l + times v (removed (said_by names nameLengths) lengths)) (opened_files k fs) ∙ order-times (said_by names nameLengths) lengths heads v))

module _ (q : Queues) (s : QueuesTyped q) (ok : queues_kept q ≡ true) where
  k : Kept q
  k = kept_facts q ok

  module _ (h : has_file q ≡ true) (r : LogReader) where
    by-keeps : (step : Result Stepped Refusal) → queues_kept (read_by q r step).queues ≡ true
    unfolding read_by
    by-keeps (Ok t) = kept-makes (now_reading q) (now_kept q s k h)
    by-keeps (Err f) = by (eqb (number_of f.answer) 1)
      where
        by : (b : Bool) → queues_kept (if b then reading_cleaned (now_reading q) else q) ≡ true
        by true = kept-makes _ (reading_kept (now_reading q) (now_sized q s k h) (now_kept q s k h))
        by false = ok

    by_loses_none : (v : ℕ) (step : Result Stepped Refusal) → times v (files_of (read_by q r step).queues) ≡ times v (files_of q)
    unfolding read_by
    by_loses_none v (Ok t) = now_times q s k h v
    by_loses_none v (Err f) = by (eqb (number_of f.answer) 1)
      where
        by : (b : Bool) → times v (files_of (if b then reading_cleaned (now_reading q) else q)) ≡ times v (files_of q)
        by true = reading_times (now_reading q) (now_sized q s k h) (now_kept q s k h) v ∙ now_times q s k h v
        by false = refl

  module _ (log : List ℕ) (p : ℕ) (w : Bool) where
    -- by the file that is read: the one being read, none, or the read queue's front
    read-cases : (P : ReadNext → Type 0) → ((h : has_file q ≡ true) (r : LogReader) (step : Result Stepped Refusal) → P (read_by q r step)) → ((a : Answer) (r : LogReader) → P (not_read a r q)) → P (read_next_kept q log p w)
    read-cases P f g = by q.reading.some refl (eqb q.read_queue.count 0) refl
      where
        by : (a : Bool) → q.reading.some ≡ a → (b : Bool) → eqb q.read_queue.count 0 ≡ b → P (read_next_kept q log p w)
        by true e b z = rw (next_reading q log p w e) (f (has_reading q e) (reader_at p w) (opening_of log (reader_at p w)))
        by false e true z = rw (next-none q log p w e (eqb-true q.read_queue.count 0 z)) (g EndOfLog (reader_at p w))
        by false e false z =
            let d = eqb-false q.read_queue.count 0 z in
            rw (next-front q log p w e d) (f (has-waiting q e d) (reader_at p w) (opening_of log (reader_at 0 w)))

    pub read-next-kept-keeps : queues_kept (read_next_kept q log p w).queues ≡ true
    read-next-kept-keeps = read-cases (λ (x : ReadNext). queues_kept x.queues ≡ true) (λ h r step. by-keeps h r step) (λ a r. ok)

    pub read-next-keeps : queues_kept (read_next q log p w).queues ≡ true
    unfolding read_next
    read-next-keeps = behind-door (λ (x : ReadNext). queues_kept x.queues ≡ true) _ (queues_kept q) ok read-next-kept-keeps

    pub read-next_loses_none : (v : ℕ) → times v (files_of (read_next q log p w).queues) ≡ times v (files_of q)
    unfolding read_next
    read-next_loses_none v =
        behind-door (λ (x : ReadNext). times v (files_of x.queues) ≡ times v (files_of q)) _ (queues_kept q) ok
        (read-cases (λ (x : ReadNext). times v (files_of x.queues) ≡ times v (files_of q)) (λ h r step. by_loses_none h r v step) (λ a r. refl))
