-- What the inner functions of replay ask for. Nothing here has to be believed: `Replay` and `Run` say what the public calls answer.
use Rattle.std.specs.Prelude.{Bool, true, false, ◌≡◌, List, ℕ, ◌-◌, ◌≤◌, length, take, drop}
use Rattle.checksum.specs.Checksum.{all_ones, updated}
use Rattle.record.specs.declared.reader.LogReader.{LogReader}
use Rattle.effect.specs.Effect.{Written}
use Rattle.replay.specs.Replay.{Walked, fault, walked}

-- a walk that met no fault
abbrev pub is_walked : Walked (List Written) → Bool
is_walked (fault x) = false
is_walked (walked ws end) = true

-- a reader inside a record that began at `at`: it validates, and its checksum has taken all the bytes since
pub record Opened (log : List ℕ) (at : ℕ) (r : LogReader) : Type 0 where
  pub inside : r.inside ≡ true
  pub validates : r.validate ≡ true
  pub behind : at ≤ r.position
  pub within : r.position ≤ length log
  pub sum : r.crc32 ≡ updated all_ones (take (r.position - at) (drop at log))

-- a reader inside a record that leaves the checksum to whoever takes it over the whole record
pub record Walker (log : List ℕ) (r : LogReader) : Type 0 where
  pub inside : r.inside ≡ true
  pub plainly : r.validate ≡ false
  pub within : r.position ≤ length log

-- the same reader at another place: all of it that a walk changes
abbrev pub moved_to : LogReader → ℕ → LogReader
moved_to r at = record { position = at; record_id = r.record_id; crc32 = r.crc32; validate = r.validate; inside = r.inside }
