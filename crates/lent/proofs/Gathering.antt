-- The tables of a slice copied over those of no table are those of its directory. Assumes nothing.
use mathlib.Core.Path.{◌≡◌, refl}
use mathlib.Core.Bool.{Bool, true, false}
use mathlib.Core.List.{List, ◌++◌}
use Prim.Native.Nat.{ℕ, ◌≤◌, ◌<◌, min}
use native.Mathlib.Omega.{arith}
use lib.Dec.{leb}
use lib.ListN.{length, take, drop, drop_of_length-le}
use lib.Seq.{take_all}
use borrow.Author.Tests.{leb-true, leb-false}
use Rattle.directory.specs.Directory.{no_tables}
use Rattle.directory.specs.declared.table.TableDescription.{TableDescription}
use Rattle.directory.specs.declared.directory.Directory.{Directory}
use Rattle.lent.specs.Lent.{gathered}

pub gathering : (ts part : List TableDescription) (n k : ℕ) (d : Directory) → n ≡ min (length ts) 16 → k ≡ min (length ts) 17 → d ≡ no_tables → part ≡ take n ts
    → record { tables = part ++ drop n d.tables; count = k } ≡ gathered ts
unfolding gathered
gathering ts part n k d e f g h = go (leb (length ts) 16) refl
  where
    go : (b : Bool) → leb (length ts) 16 ≡ b → record { tables = part ++ drop n d.tables; count = k } ≡ gathered ts
    go true q =
        let few : length ts ≤ 16 = leb-true _ _ q in
        let all : n ≡ length ts = omega arith in
        let count : k ≡ length ts = omega arith in
        rw (h, g, all, count, q, take_all (length ts) ts (omega arith), take_all 16 ts few)
    go false q =
        let many : 16 < length ts = leb-false _ _ q in
        let all : n ≡ 16 = omega arith in
        let count : k ≡ 17 = omega arith in
        rw (h, g, all, count, q, drop_of_length-le no_tables.tables {i = length ts} (omega arith))
