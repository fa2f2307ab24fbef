-- What is copied, and what is handed back with it. Assumes nothing.
use mathlib.Core.Path.{◌≡◌, refl}
use mathlib.Core.Bool.{Bool, true, false}
use mathlib.Core.List.{List, [], ◌++◌}
use Prim.Native.Nat.{ℕ, ◌≤◌, ◌<◌, min}
use native.Mathlib.Omega.{arith}
use lib.Dec.{leb}
use borrow.Author.Tests.{leb-true, leb-false}
use lib.ListN.{take, drop, length, drop_of_length-le}
use lib.Seq.{take-nil, take_all, take-length}
use Rattle.query.specs.Query.{copied_over}

-- as many bytes as both have
pub copied_front : (bytes dest : List ℕ) (n : ℕ) → n ≡ min (length dest) (length bytes) → take n bytes ++ drop n dest ≡ copied_over bytes dest
copied_front bytes dest n e = by (leb (length dest) (length bytes)) refl
  where
    by : (b : Bool) → leb (length dest) (length bytes) ≡ b → take n bytes ++ drop n dest ≡ copied_over bytes dest
    by true h =
        let le : length dest ≤ length bytes = leb-true (length dest) (length bytes) h in
        let m : n ≡ length dest = omega arith in
        rw (m, drop_of_length-le dest {i = length dest} (omega arith), drop_of_length-le dest {i = length bytes} le)
    by false h =
        let lt : length bytes < length dest = leb-false (length dest) (length bytes) h in
        let m : n ≡ length bytes = omega arith in
        rw (m, take-length bytes, take_all (length dest) bytes (omega arith))

-- "writes nothing": where nothing is found or it refuses
pub nothing_copied : (dest : List ℕ) → copied_over [] dest ≡ dest
nothing_copied dest = rw (take-nil (length dest))
