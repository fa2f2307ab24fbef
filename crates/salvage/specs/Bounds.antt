-- The bounds that a pass over a file keeps: no position in it passes 64 bits. Assumes nothing.
use Rattle.std.specs.Prelude.{ℕ, ◌+◌, ◌≤◌}
use Rattle.salvaging.specs.Inner.{Ruled}
use Rattle.salvaging.specs.declared.lines.Lines.{Lines}
use Rattle.salvage.specs.declared.pass.Taken.{Taken}

-- lines that cover no more than so many bytes, as many as there is room for
abbrev pub Covering : Lines → ℕ → Type 0
Covering l room = (Ruled l) × (l.end ≤ room) × (l.count ≤ 64)

-- what was taken of a window of so many bytes, whose front stands at a place
abbrev pub Within : Taken → ℕ → ℕ → Type 0
Within t base room = (Covering t.lines (base + t.at)) × (t.at ≤ room)
