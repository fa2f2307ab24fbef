-- The numbers of a list as code is handed it: those of its two memories and of what goes by value. Assumes nothing.
use mathlib.Core.Path.{◌≡◌}
use mathlib.Core.List.{List, [], ◌∷◌}
use Prim.Native.Nat.{ℕ, zero, suc, ◌<◌}
use native.Mathlib.Omega.{arith}
use lib.ListN.{length, take, drop, get_or}
use lib.Seq.{get_or-drop}
use Rattle.directory.specs.declared.table.TableKind.{TableKind}
use Rattle.directory.specs.declared.table.TableKind.TheVariants.{Index, Value, RefCount}
use Rattle.memory.specs.Parts.{of_kind}
use Rattle.change.specs.Change.{change_of}
use Rattle.change.specs.declared.change.LogChange.{LogChange}
use Rattle.writer.specs.Typed.{Typed}

-- the numbers of a list, 0 past its end, are below n: so are those of a part
abbrev pub Below : ℕ → List ℕ → Type 0
Below n l = (i : ℕ) → get_or l i 0 < n

take_below : (n k : ℕ) (l : List ℕ) → 0 < n → Below n l → Below n (take k l)
take_below n zero l z h i = z
take_below n (suc k) [] z h i = z
take_below n (suc k) (a ∷ l) z h zero = h zero
take_below n (suc k) (a ∷ l) z h (suc i) = take_below n k l z (λ j. h (suc j)) i

drop_below : (n k : ℕ) (l : List ℕ) → Below n l → Below n (drop k l)
drop_below n k l h i = rw (get_or-drop k l i 0) (h _)

module _ (list : LogChange) (words bytes : List ℕ) (w : Below 18446744073709551616 words) where
  rows-below : (a k m : ℕ) → Below 18446744073709551616 (take m (take k (drop a words)))
  rows-below a k m =
      let z : 0 < 18446744073709551616 = omega arith in
      take_below 18446744073709551616 m (take k (drop a words)) z (take_below 18446744073709551616 k (drop a words) z (drop_below 18446744073709551616 a words w))

  each : (kind : TableKind) → Below 18446744073709551616 (of_kind kind (change_of list words bytes).parts).rows
  each Index = rows-below 0 160 128
  each Value = rows-below 160 160 128
  each RefCount = rows-below 320 80 64

  pub typed : list.record_id < 18446744073709551616
      → Below 65536 list.dropped_tables.tables → Below 65536 list.dropped_ref_count_tables.tables
      → length list.dropped_tables.tables ≡ 16 → length list.dropped_ref_count_tables.tables ≡ 16 → Typed (change_of list words bytes)
  typed id a b m n = record { id = id; rows = each; drops = a; count_drops = b; drops_long = m; count_drops_long = n }
