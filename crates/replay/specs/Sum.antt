-- The checksum taken once over a whole record, for the theorem that this is the same as validating at each step; `Replay` says what is answered.
use Rattle.std.specs.Prelude.{Bool, List, ℕ, ◌-◌, eqb, take, drop}
use Rattle.std.specs.Prelude.{if◌then◌else◌}
use Rattle.words.specs.Words.{little_at}
use Rattle.answer.specs.Answer.{refusal}
use Rattle.answer.specs.declared.answer.Answer.TheVariants.{WrongSum}
use Rattle.checksum.specs.Checksum.{checksum_of}
use Rattle.effect.specs.Effect.{Written}
use Rattle.replay.specs.Replay.{Walked, fault, walked}

-- the test at the end of the walk
abbrev pub sum_held : Bool → ℕ → List Written → Walked (List Written)
sum_held holds end ws = if holds then walked ws end else fault (refusal WrongSum (end - 5))

-- a walk without the checksum, and then the record's, stored behind its end tag, held to that of its bytes
abbrev pub sum_tested : ℕ → List ℕ → Walked (List Written) → Walked (List Written)
sum_tested at log (fault x) = fault x
sum_tested at log (walked ws end) = sum_held (eqb (little_at 4 log (end - 4)) (checksum_of (take (end - 4 - at) (drop at log)))) end ws
