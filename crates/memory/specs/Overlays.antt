-- The shared overlays whole (document 01, "Change lists and overlays"; log.rs: `LogOverlays`, lines 92 to 103).
use Rattle.std.specs.Prelude.{List, ℕ, ltb, get_or, replicate}
use Rattle.std.specs.Prelude.{if◌then◌else◌}
use Rattle.memory.specs.Parts.{Parts, parts_of, no_counts}
use Rattle.memory.specs.declared.span.Holder.TheVariants as holder
use Rattle.memory.specs.declared.overlays.LogOverlays.{LogOverlays}

-- "There is one shared overlay for each kind", and the columns' last ids
pub record Overlays : Type 0 where
  pub parts : Parts
  pub last_ids : List ℕ

-- as a call is handed them: what goes by value, and the two memories
abbrev pub overlays_of : LogOverlays → List ℕ → List ℕ → Overlays
overlays_of o words bytes = record { parts = parts_of holder.Shared o.counts words bytes; last_ids = o.last_record_ids }

-- empty ones: counts of 0, whatever the memory holds
abbrev pub no_overlays : LogOverlays
no_overlays = record { counts = no_counts; last_record_ids = replicate 8 0 }

-- "`last_record_id` starts at 0 for columns 0 to 7 and is 2^64-1 for any number above 7" (log.rs 101-103)
unfoldable pub last_id_of : LogOverlays → ℕ → ℕ
last_id_of o column = if ltb column 8 then get_or o.last_record_ids column 0 else 18446744073709551615
