-- The file queues' calls over words: where a call is handed more than the queues' words, and what each leaves of what it hands back.
use Rattle.std.specs.Prelude.{◌≡◌, Bool, List, ℕ, eqb, Result, Ok, Err}
use Rattle.std.specs.Option.{is_some, unwrap_or}
use Rattle.std.specs.Prelude.{if◌then◌else◌}
use Rattle.answer.specs.declared.answer.Answer.{Answer}
use Rattle.answer.specs.declared.answer.Answer.TheVariants.{BadState}
use Rattle.numbers.specs.Numbers.{one_if}
use Rattle.record.specs.Next.{reader_at}
use Rattle.files.specs.Open.{open_logs}
use Rattle.files.specs.Read.{not_read, read_next_kept, read_next}
use Rattle.files.specs.declared.queues.Queues.{Queues}
use Rattle.files.specs.declared.open.Opened.{Opened}
use Rattle.files.specs.declared.read.ReadNext.{ReadNext}
use Rattle.files.specs.declared.reading.ReplayNext.{ReplayNext}
use Rattle.files.specs.declared.writing.Flushed.{Flushed}
use Rattle.files.specs.declared.cleaning.Cleaned.{Cleaned}
use Rattle.files.specs.declared.cleaning.Killed.{Killed}
use Rattle.host_words.specs.Head.{head_after, HeadLeft}
use Rattle.host_words.specs.Reader.{reader_size, reader_words}
use Rattle.host_queues.specs.Queues.{queues_size, queues_from, queues_words}

-- `open`, with a number of words for the queues: 13 where they are too many or too few
unfoldable pub open_in : List ℕ → List ℕ → List ℕ → List ℕ → ℕ → ℕ → Result Opened Answer
open_in names nameLengths lengths heads room words =
    if eqb words 331 then open_logs names nameLengths lengths heads room else
    Err BadState

-- the queues' words that `open` leaves: by a refusal those that were
abbrev pub opened_words : Result Opened Answer → List ℕ → List ℕ
opened_words (Ok o) w = head_after queues_size 0 w (queues_words o.queues)
opened_words (Err a) w = w

-- words for a reader, too many or too few
abbrev pub no_reader : Queues → ℕ → Bool → ReadNext
no_reader q position validate = not_read BadState (reader_at position validate) q

-- `read_next`, with a number of words for the reader: the same
unfoldable pub read_next_in : List ℕ → List ℕ → ℕ → Bool → ℕ → ReadNext
read_next_in w log position validate words =
    if eqb words 5 then read_next (queues_from w) log position validate else
    no_reader (queues_from w) position validate

-- the same without the queues' test
unfoldable pub read_next_kept_in : List ℕ → List ℕ → ℕ → Bool → ℕ → ReadNext
read_next_kept_in w log position validate words =
    if eqb words 5 then read_next_kept (queues_from w) log position validate else
    no_reader (queues_from w) position validate

-- what `flush_one` leaves: its answer's number and the queues' words; whether a file moved, and which
pub record FlushLeft (d : Flushed) (w : List ℕ) (answer : ℕ) (after : List ℕ) (moved number : ℕ) : Type 0 where
  pub queues : HeadLeft queues_size d.answer (queues_words d.queues) w answer after
  pub some : moved ≡ one_if (is_some d.moved)
  pub file : number ≡ unwrap_or d.moved 0

-- `replay_next`: whether a file was found, and which
pub record ReplayLeft (d : ReplayNext) (w : List ℕ) (answer : ℕ) (after : List ℕ) (found number : ℕ) : Type 0 where
  pub queues : HeadLeft queues_size d.answer (queues_words d.queues) w answer after
  pub some : found ≡ one_if (is_some d.number)
  pub file : number ≡ unwrap_or d.number 0

-- `kill_logs`: the numbers of the files to remove, and how many they are
pub record KillLeft (d : Killed) (w : List ℕ) (answer : ℕ) (after : List ℕ) (remove : List ℕ) (removed : ℕ) : Type 0 where
  pub queues : HeadLeft queues_size d.answer (queues_words d.queues) w answer after
  pub numbers : remove ≡ d.remove.numbers
  pub count : removed ≡ d.remove.count

-- `clean_logs`: whether more are dirty, the files to empty, the files to remove
pub record CleanLeft (d : Cleaned) (w : List ℕ) (answer : ℕ) (after : List ℕ) (more : ℕ) (empty : List ℕ) (emptied : ℕ) (remove : List ℕ) (removed : ℕ) : Type 0 where
  pub queues : HeadLeft queues_size d.answer (queues_words d.queues) w answer after
  pub some : more ≡ one_if d.more
  pub to_empty : empty ≡ d.empty.numbers
  pub empty_count : emptied ≡ d.empty.count
  pub to_remove : remove ≡ d.remove.numbers
  pub remove_count : removed ≡ d.remove.count

-- `read_next`: the file's number, and the reader's words from as they were to as they then are
pub record ReadLeft (d : ReadNext) (w : List ℕ) (answer : ℕ) (after : List ℕ) (number : ℕ) (reader begun : List ℕ) : Type 0 where
  pub queues : HeadLeft queues_size d.answer (queues_words d.queues) w answer after
  pub file : number ≡ d.number
  pub head : HeadLeft reader_size d.answer (reader_words d.reader) reader answer begun
