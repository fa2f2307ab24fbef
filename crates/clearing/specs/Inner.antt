-- What the inner functions of clearing answer. Nothing here has to be believed: `EndRead` says what the public calls answer.
use Rattle.std.specs.Prelude.{List, ℕ}
use Rattle.effect.specs.Effect.{Written}
use Rattle.replay.specs.Replay.{Walked, fault, walked}
use Rattle.memory.specs.Parts.{Parts}
use Rattle.clearing.specs.Clear.{cleared_by}

-- the overlays behind a walk over a record of that id
abbrev pub cleared_walk : ℕ → Walked (List Written) → Parts → Parts
cleared_walk id (fault x) p = p
cleared_walk id (walked ws end) p = cleared_by id ws p
