-- What a list of a log is held against (document 02, "Eight"), in terms of replay's acceptance alone (`record_at`, replay/specs/Replay).
use Rattle.std.specs.Prelude.{◌≡◌, List, [], ◌∷◌, ℕ, ◌+◌, ◌*◌, ◌≤◌, ◌<◌, length, take, drop}
use Rattle.directory.specs.declared.directory.Directory.{Directory}
use Rattle.effect.specs.Effect.{Written}
use Rattle.replay.specs.Replay.{walked, record_at}
use Rattle.salvaging.specs.declared.lines.Line.{Line}
use Rattle.salvaging.specs.declared.lines.Line.TheVariants.{Kept, Lost}
use Rattle.salvaging.specs.Salvage.{lines_of, words_of_lines, kept_bytes, Left}

-- no whole record, whatever its id, begins at any of n positions
abbrev pub NoneBegins : Directory → List ℕ → ℕ → ℕ → Type 0
NoneBegins d log at n = (p id : ℕ) (ws : List Written) (end : ℕ) → at ≤ p → p < at + n → record_at d log p id ≡ walked ws end → ⊥

-- a list that goes on with no stretch left out: "no two adjoining"
abbrev pub NotLost : List Line → Type 0
NotLost [] = Unit {0}
NotLost (Kept p n id ∷ ls) = Unit {0}
NotLost (Lost p n ∷ ls) = ⊥

-- the lines cover the log from a position to its end, once and in order, none empty; each that is kept is a record that replay takes under its
-- id, and in one that is lost none begins
pub data Covers (d : Directory) (log : List ℕ) : ℕ → List Line → Type 0 where
  covers_end : {at : ℕ} → at ≡ length log → Covers d log at []
  covers_kept : {at n id : ℕ} {ls : List Line} (ws : List Written) → 0 < n → record_at d log at id ≡ walked ws (at + n) → Covers d log (at + n) ls
      → Covers d log at (Kept at n id ∷ ls)
  covers_lost : {at n : ℕ} {ls : List Line} → 0 < n → NoneBegins d log at n → NotLost ls → Covers d log (at + n) ls → Covers d log at (Lost at n ∷ ls)

-- the records kept, one behind the other in other bytes from a position to another: replay takes each there under its id, with the actions that
-- it has in the log
pub data InTurn (d : Directory) (log bytes : List ℕ) : ℕ → List Line → ℕ → Type 0 where
  turn_end : {at end : ℕ} → at ≡ end → InTurn d log bytes at [] end
  turn-lost : {at end p n : ℕ} {ls : List Line} → InTurn d log bytes at ls end → InTurn d log bytes at (Lost p n ∷ ls) end
  turn-kept : {at end p n id : ℕ} {ls : List Line} (ws : List Written) → record_at d log p id ≡ walked ws (p + n) → record_at d bytes at id ≡ walked ws (at + n)
      → InTurn d log bytes (at + n) ls end → InTurn d log bytes at (Kept p n id ∷ ls) end

-- a call that answers 0: how much it wrote; "It copies those records into an output in order and lists ..", and what stood behind stays; the
-- records kept, replayed one after the other from the output, are accepted
pub record Salvages (d : Directory) (log out list : List ℕ) (s : Left) : Type 0 where
  pub lines : s.lines ≡ length (lines_of d log)
  pub few : s.lines ≤ 64
  pub written : s.written ≡ length (kept_bytes log (lines_of d log))
  pub room : s.written ≤ length out
  pub front : take s.written s.out ≡ kept_bytes log (lines_of d log)
  pub behind : drop s.written s.out ≡ drop s.written out
  pub listed : take (4 * s.lines) s.list ≡ words_of_lines (lines_of d log)
  pub unlisted : drop (4 * s.lines) s.list ≡ drop (4 * s.lines) list
  pub in_turn : InTurn d log s.out 0 (lines_of d log) s.written

-- nothing is lost
abbrev pub AllKept : List Line → Type 0
AllKept [] = Unit {0}
AllKept (Kept p n id ∷ ls) = AllKept ls
AllKept (Lost p n ∷ ls) = ⊥

-- the bytes of an empty record with id 7
abbrev pub empty_seven : List ℕ
empty_seven = 1 ∷ 7 ∷ 0 ∷ 0 ∷ 0 ∷ 0 ∷ 0 ∷ 0 ∷ 0 ∷ 4 ∷ 152 ∷ 170 ∷ 68 ∷ 111 ∷ []
