-- The shared overlays' head as 11 words: how many index, value and reference count keys, and the columns' last ids (log.rs 93-98: `LogOverlays`).
-- Beside it lie the overlays' two memories.
use Rattle.std.specs.Prelude.{List, ◌++◌, ℕ, eqb, length, take, drop, replicate}
use Rattle.std.specs.Prelude.{if◌then◌else◌}
use Rattle.memory.specs.Overlays.{Overlays}
use Rattle.memory.specs.declared.counts.Counts.{Counts}
use Rattle.memory.specs.declared.overlays.LogOverlays.{LogOverlays}
use Rattle.host_words.specs.Change.{counts_from, counts_words, counts_in}

-- how many words
abbrev pub overlays_size : ℕ
overlays_size = 11

-- overlays that break a rule, "each for 256 keys": whoever is handed them answers 13
abbrev pub broken_overlays : LogOverlays
broken_overlays = record { counts = record { index = 257; value = 257; ref_count = 257 }; last_record_ids = replicate 8 0 }

-- a head from its counts and last ids
abbrev pub overlays_head : Counts → List ℕ → LogOverlays
overlays_head counts ids = record { counts = counts; last_record_ids = ids }

-- the overlays that words are
unfoldable pub overlays_from : List ℕ → LogOverlays
overlays_from w = if eqb (length w) 11 then overlays_head (counts_from w 0) (take 8 (drop 3 w)) else broken_overlays

-- and back
abbrev pub overlays_words : LogOverlays → List ℕ
overlays_words o = counts_words o.counts ++ o.last_record_ids

-- the head of overlays that are said whole
abbrev pub overlays_left : Overlays → LogOverlays
overlays_left s = overlays_head (counts_in s.parts) s.last_ids
