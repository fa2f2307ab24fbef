-- What writing bytes into a lent slice means: they stand from a position on, and all else stays. In log.rs: `file.write_all`, lines 384 to 389.
use Rattle.std.specs.Prelude.{◌≡◌, List, [], ◌∷◌, ◌++◌, ℕ, zero, suc, ◌+◌, ◌/◌, ◌%◌, length, take, drop}

-- old, with bs in the place of what stood from `at` on
unfoldable pub put : List ℕ → ℕ → List ℕ → List ℕ
put old at bs = take at old ++ bs ++ drop (at + length bs) old

-- bs were written into old at `at`, which gave new; r is the place behind them
pub record Wrote (old : List ℕ) (at : ℕ) (bs new : List ℕ) (r : ℕ) : Type 0 where
  pub next : r ≡ at + length bs
  pub bytes : new ≡ put old at bs

-- x in n bytes: "All numbers are little endian." (`to_le_bytes`)
unfoldable pub le : ℕ → ℕ → List ℕ
le zero x = []
le (suc n) x = x % 256 ∷ le n (x / 256)

-- what f gives for each of a list, one behind the other
unfoldable pub joined : (ℕ → List ℕ) → List ℕ → List ℕ
joined f [] = []
joined f (p ∷ ps) = f p ++ joined f ps
