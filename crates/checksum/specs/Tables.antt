-- What the table holds. Callers need none of it. Assumes nothing.
use Rattle.std.specs.Prelude.{◌≡◌, List, ℕ, zero, suc, ◌+◌, ◌*◌, ◌^◌, ◌<◌, get_or}
use Rattle.checksum.specs.Checksum.{shift}

-- the register moves n places
unfoldable pub shifts : ℕ → ℕ → ℕ
shifts zero r = r
shifts (suc n) r = shifts n (shift r)

-- a table for digits of w bits, in n parts: entry v of part j is v moved w * (j + 1) places
pub record Moved (w n : ℕ) (t : List ℕ) : Type 0 where
  pub rule : (j v : ℕ) → j < n → v < 2 ^ w → get_or t (j * 2 ^ w + v) 0 ≡ shifts (w * suc j) v
