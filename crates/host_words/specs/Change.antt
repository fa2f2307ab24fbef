-- A change list's head as 38 words: the record's id; how many index, value and reference count keys; the index drops (count, 16 table numbers),
-- the reference count drops likewise (log.rs 355-362: `LogChange`). Beside it lie the list's two memories.
use Rattle.std.specs.Prelude.{Bool, ◌&&◌, List, [], ◌∷◌, ◌++◌, ℕ, ◌+◌, eqb, length, get_or, take, drop, replicate}
use Rattle.std.specs.Prelude.{if◌then◌else◌}
use Rattle.numbers.specs.Numbers.{all_below}
use Rattle.memory.specs.Parts.{Parts, no_counts}
use Rattle.memory.specs.declared.counts.Counts.{Counts}
use Rattle.change.specs.Change.{Change, no_drops}
use Rattle.change.specs.declared.drops.Drops.{Drops}
use Rattle.change.specs.declared.change.LogChange.{LogChange}

-- how many words
abbrev pub list_size : ℕ
list_size = 38

-- 16 table numbers from a place on; a count before them
abbrev pub tables_from : List ℕ → ℕ → List ℕ
tables_from w at = take 16 (drop at w)

-- drops from a place on: their count, then the tables
abbrev pub drops_from : List ℕ → ℕ → Drops
drops_from w at = record { tables = tables_from w (at + 1); count = get_or w at 0 }

-- three counts from a place on
abbrev pub counts_from : List ℕ → ℕ → Counts
counts_from w at = record { index = get_or w at 0; value = get_or w (at + 1) 0; ref_count = get_or w (at + 2) 0 }

-- each word is within its field's range
unfoldable pub list_formed : List ℕ → Bool
list_formed w = eqb (length w) 38 && (all_below 65536 (tables_from w 5) && all_below 65536 (tables_from w 22))

-- a list that breaks a rule, "16 drops of each of the two kinds": whoever is handed it answers 13
abbrev pub broken_list : LogChange
broken_list = record {
  record_id = 0;
  counts = no_counts;
  dropped_tables = record { tables = replicate 16 0; count = 17 };
  dropped_ref_count_tables = no_drops;
}

-- the list that well-formed words are
abbrev pub list_in : List ℕ → LogChange
list_in w = record {
  record_id = get_or w 0 0;
  counts = counts_from w 1;
  dropped_tables = drops_from w 4;
  dropped_ref_count_tables = drops_from w 21;
}

-- the list that words are
unfoldable pub list_from : List ℕ → LogChange
list_from w = if list_formed w then list_in w else broken_list

-- three counts as words
abbrev pub counts_words : Counts → List ℕ
counts_words c = c.index ∷ c.value ∷ c.ref_count ∷ []

-- drops as words
abbrev pub drops_words : Drops → List ℕ
drops_words s = s.count ∷ s.tables

-- and back
abbrev pub list_words_of : LogChange → List ℕ
list_words_of l =
    (l.record_id ∷ []) ++ counts_words l.counts ++ drops_words l.dropped_tables ++ drops_words l.dropped_ref_count_tables

-- how many keys there are, of parts that are said whole
abbrev pub counts_in : Parts → Counts
counts_in p = record { index = p.index.count; value = p.value.count; ref_count = p.ref_count.count }

-- the head of a list that is said whole
abbrev pub head_of : Change → LogChange
head_of l = record {
  record_id = l.id;
  counts = counts_in l.parts;
  dropped_tables = l.drops;
  dropped_ref_count_tables = l.count_drops;
}
