-- What the inner functions of the checker ask for and answer. Nothing here has to be believed: `Checker` says what the public calls answer.
use Rattle.std.specs.Prelude.{true, false, List, ◌++◌, ◌≡◌, ℕ, ◌+◌, ◌-◌, ◌≤◌, ◌<◌, length, take, get_or}
use Rattle.record.specs.declared.reader.LogReader.{LogReader}
use Rattle.checker.specs.Checker.{unread, checker_kept}
use Rattle.checker.specs.declared.checker.LogChecker.{LogChecker}
use Rattle.checker.specs.declared.checker.Stage.TheVariants as stage
use Rattle.checker.specs.declared.standing.Standing.{Standing}

-- a standing as a checker's rules want it, in bytes of which the first is byte `base` of all
pub record Sound (base : ℕ) (s : Standing) : Type 0 where
  pub validates : s.reader.validate ≡ true
  pub begins : s.start ≤ base + s.reader.position
  pub counts : s.count ≤ s.start
  pub between : s.reader.inside ≡ false → s.start ≡ base + s.reader.position

-- and within those bytes
pub record Stands (log : List ℕ) (base : ℕ) (s : Standing) : Type 0 where
  pub within : s.reader.position ≤ length log
  pub sound : Sound base s
  pub fits : base + length log < 9223372036854775808

-- a checker that a piece is read by
pub record Takes (c : LogChecker) (bytes : List ℕ) : Type 0 where
  pub kept : checker_kept c ≡ true
  pub is_open : c.stage ≡ stage.Open
  pub few : c.total + length bytes < 9223372036854775808

-- the unread bytes and as many of the piece as their action can have
pub record Front (c : LogChecker) (bytes front : List ℕ) : Type 0 where
  pub is : front ≡ take 1043 (unread c ++ bytes)
  pub held : length (unread c) ≡ c.held
  pub known : (k : ℕ) → get_or (unread c ++ bytes) k 0 < 256

-- the reader n bytes earlier
abbrev pub back_reader : ℕ → LogReader → LogReader
back_reader n r = record { position = r.position - n; record_id = r.record_id; crc32 = r.crc32; validate = r.validate; inside = r.inside }
