-- The last ids, a turn at a time, and what they are in the end. Assumes nothing.
use mathlib.Core.Path.{◌≡◌, refl, sym, ap, ◌∙◌}
use mathlib.Core.Bool.{Bool, true, false}
use mathlib.Core.List.{List, [], ◌∷◌, map}
use Prim.Native.Nat.{ℕ, ◌+◌, ◌*◌, ◌≤◌, ◌<◌}
use lib.Dec.{eqb}
use lib.ListN.{length, get_or, take, drop, set}
use lib.Seq.{lt-length-set, get_or-set_same, get_or-set_other}
use borrow.Author.Tests.{eqb-true, eqb-false}
use Rattle.std.specs.Prelude.{if◌then◌else◌}
use Rattle.directory.specs.Directory.{find_table}
use Rattle.directory.specs.declared.table.TableKind.TheVariants.{Value}
use Rattle.directory.specs.declared.directory.Directory.{Directory}
use Rattle.numbers.proofs.Laws.{places-cons, places-end}
use Rattle.numbers.specs.Numbers.{has}
use Rattle.memory.specs.declared.overlays.LogOverlays.{LogOverlays}
use Rattle.putting.specs.Listed.{column_of, last_ids_by}
use Rattle.putting.specs.Inner.{with_last_ids}

-- from the i-th of the order on: what is left to set, over what is there, is the whole
module _ (d : Directory) (id : ℕ) (rows order : List ℕ) (n : ℕ) (long : n ≤ length order) (i : ℕ) (o whole : LogOverlays)
    (t : with_last_ids o (last_ids_by d id rows (drop i (take n order)) o.last_record_ids) ≡ whole) where
  pub ids-done : n ≤ i → o ≡ whole
  unfolding last_ids_by
  ids-done h = sym (ap (λ (ps : List ℕ). with_last_ids o (last_ids_by d id rows ps o.last_record_ids)) (places-end order n long i h)) ∙ t

  pub ids_next : i < n → (table : ℕ) → table ≡ get_or rows (4 * get_or order i 0) 0 → (column : ℕ) → column ≡ column_of (find_table d Value table) → (q : LogOverlays) → q ≡ with_last_ids o (set o.last_record_ids column id)
      → with_last_ids q (last_ids_by d id rows (drop (i + 1) (take n order)) q.last_record_ids) ≡ whole
  unfolding last_ids_by
  ids_next h table k column e q f =
      rw (f, e, k) (sym (ap (λ (ps : List ℕ). with_last_ids o (last_ids_by d id rows ps o.last_record_ids)) (places-cons order n long i h)) ∙ t)

-- "Only values set the column's last id.": a column's is the record's if a listed value is of it, else what it was
pub last-id : (d : Directory) (id : ℕ) (rows : List ℕ) (column : ℕ) (ps ids : List ℕ) → column < length ids
    → get_or (last_ids_by d id rows ps ids) column 0 ≡ (if has column (map (λ (p : ℕ). column_of (find_table d Value (get_or rows (4 * p) 0))) ps) then id else get_or ids column 0)
unfolding last_ids_by
last-id d id rows column [] ids h = refl
last-id d id rows column (p ∷ ps) ids h = last-id d id rows column ps (set ids c id) (lt-length-set ids c id h) ∙ by (eqb c column) refl (has column (map f ps))
  where
    f : ℕ → ℕ
    f p = column_of (find_table d Value (get_or rows (4 * p) 0))

    c : ℕ
    c = f p

    by : (b : Bool) → eqb c column ≡ b → (g : Bool) → (if g then id else get_or (set ids c id) column 0) ≡ (if if b then true else g then id else get_or ids column 0)
    by true e true = refl
    by true e false = let z : c ≡ column = eqb-true c column e in rw z (get_or-set_same ids column id 0 h)
    by false e true = refl
    by false e false = get_or-set_other ids c column id 0 (λ z. eqb-false c column e (sym z))
