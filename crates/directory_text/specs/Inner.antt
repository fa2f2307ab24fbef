-- What the inner functions say of each other. Nothing here has to be believed. Assumes nothing.
use Rattle.std.specs.Prelude.{List, ℕ, Result, Ok, Err}
use Rattle.std.specs.Borrow.{Bor}
use Rattle.directory_text.specs.declared.fault.Fault.{Fault}

-- what was taken from the front of a part, with what is left of it
abbrev pub taken : Result (ℕ × Bor (List ℕ)) Fault → Result (ℕ × List ℕ) Fault
taken (Ok (n, rest)) = Ok (n, rest.now)
taken (Err f) = Err f
