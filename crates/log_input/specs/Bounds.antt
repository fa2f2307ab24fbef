-- The bound of what is read. Assumes nothing.
use Rattle.std.specs.Prelude.{ℕ, ◌≤◌, Result, MatchResult}
use Rattle.log_input.specs.declared.window.Unfilled.{Unfilled}

-- no more than the buffer has, behind a read that failed too
abbrev pub FilledWithin : Result ℕ Unfilled → ℕ → Type 0
FilledWithin r room = MatchResult r (λ held. held ≤ room) (λ u. u.held ≤ room)
