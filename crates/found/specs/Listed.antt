-- A list in an array.
use Rattle.std.specs.Prelude.{ℕ, ◌-◌, List, ◌++◌, length, replicate}

-- the same behind it, up to the array's length
unfoldable pub listed : {A : Type 0} → A → ℕ → List A → List A
listed a n l = l ++ replicate (n - length l) a
