-- A reader as five words: position, record id, the checksum's register, validate, inside (log.rs 212-219: `LogReader`).
use Rattle.std.specs.Prelude.{Bool, ◌&&◌, List, [], ◌∷◌, ℕ, ltb, eqb, length, get_or, Option, Some, None}
use Rattle.std.specs.Prelude.{if◌then◌else◌}
use Rattle.numbers.specs.Numbers.{one_if}
use Rattle.record.specs.declared.reader.LogReader.{LogReader}
use Rattle.host_words.specs.Head.{flag_from}

-- how many words
abbrev pub reader_size : ℕ
reader_size = 5

-- each word is within its field's range
unfoldable pub reader_formed : List ℕ → Bool
reader_formed w = eqb (length w) 5 && (ltb (get_or w 2 0) 4294967296 && (ltb (get_or w 3 0) 2 && ltb (get_or w 4 0) 2))

-- the reader that such words are
abbrev pub reader_from : List ℕ → LogReader
reader_from w = record {
  position = get_or w 0 0;
  record_id = get_or w 1 0;
  crc32 = get_or w 2 0;
  validate = flag_from (get_or w 3 0);
  inside = flag_from (get_or w 4 0);
}

-- the reader that words are, if they are one
abbrev pub reader_read : List ℕ → Option LogReader
reader_read w = if reader_formed w then Some (reader_from w) else None

-- and back
abbrev pub reader_words : LogReader → List ℕ
reader_words r = r.position ∷ r.record_id ∷ r.crc32 ∷ one_if r.validate ∷ one_if r.inside ∷ []
