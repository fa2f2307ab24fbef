-- Whether a listed key or drop fits the directory, by what a search found. Assumes nothing.
use mathlib.Core.Path.{◌≡◌, refl, ap, ◌∙◌}
use mathlib.Core.Bool.{Bool, true, false, ◌&&◌}
use mathlib.Core.List.{List, [], ◌∷◌}
use Prim.Native.Nat.{ℕ, zero, suc, ◌+◌, ◌*◌, ◌≤◌, ◌<◌}
use native.Mathlib.Omega.{arith}
use native.Mathlib.Numerals.{add-one}
use lib.Dec.{ltb}
use lib.ListN.{length, get_or, take, drop, drop_of_length-le}
use lib.Seq.{get_or-take, length-take-le, drop-cons}
use borrow.Author.Tests.{le-ltb, lt-ltb, ltb-true}
use Rattle.std.specs.Prelude.{Option, Some, None}
use Rattle.directory.specs.Directory.{tables_of, find_table, stands}
use Rattle.directory.specs.declared.table.TableKind.{TableKind}
use Rattle.directory.specs.declared.table.TableDescription.{TableDescription}
use Rattle.directory.specs.declared.directory.Directory.{Directory}
use Rattle.directory.proofs.Tables.{is_found_of, found-stands}
use Rattle.std.specs.Prelude.{is_some}
use Rattle.std.specs.List.{list_all}
use Rattle.numbers.proofs.Laws.{left-of, right_of}
use Rattle.keys.specs.Keys.{mark_at, every}
use Rattle.overlay.specs.Rules.{Overlay, lists_of, mark_ruled, row_ruled, keys_ruled}
use Rattle.keys.specs.declared.ordered.Keys.{Keys}
use Rattle.keys.proofs.Lent.{row-fits}
use Rattle.overlay.proofs.Ruled.{keys-each}
use Rattle.change.specs.Change.{mark_fits, key_fits, entry_fits, entries_fit}

-- a search finds a table exactly where one stands
pub there : (d : Directory) (kind : TableKind) (number : ℕ) → is_some (find_table d kind number) ≡ stands (tables_of d) kind number
unfolding find_table
there d kind number = same (find_table d kind number) ∙ found-stands 0 (tables_of d) kind number
  where
    same : (f : Option (ℕ × TableDescription)) → is_some f ≡ is_found_of f
    same (Some x) = refl
    same None = refl

-- `all`
pub every-all : (f : ℕ → Bool) (l : List ℕ) → list_all f l ≡ every f l
every-all f [] = refl
every-all f (p ∷ l) = ap (λ (b : Bool). f p && b) (every-all f l)

module _ (kind : TableKind) (f : Option (ℕ × TableDescription)) (row : ℕ) (t : TableDescription) (e : f ≡ Some (row, t)) (index mark : ℕ) where
  pub no_index : t.count ≤ index → key_fits kind f index mark ≡ false
  no_index h = rw (e, le-ltb index t.count h)

  pub index-fits : index < t.count → key_fits kind f index mark ≡ mark_fits kind t mark
  index-fits h = rw (e, lt-ltb index t.count h)

pub entry-fits : (d : Directory) (kind : TableKind) (o : Overlay) (p : ℕ) (f : Option (ℕ × TableDescription)) → f ≡ find_table d kind (get_or o.rows (4 * p) 0)
    → key_fits kind f (get_or o.rows (4 * p + 1) 0) (mark_at o.rows p) ≡ entry_fits d kind o p
unfolding entry_fits
entry-fits d kind o p f e = rw e

-- the bytes are not asked
pub fit-keys : (d : Directory) (kind : TableKind) (rows order bytes : List ℕ) (n : ℕ) → entries_fit d kind (lists_of rows order [] n) ≡ entries_fit d kind (lists_of rows order bytes n)
unfolding entries_fit entry_fits
fit-keys d kind rows order bytes n = refl

-- what holds of every place in use holds of the one at j
pub every-at : (f : ℕ → Bool) (l : List ℕ) (j : ℕ) → j < length l → every f l ≡ true → f (get_or l j 0) ≡ true
every-at f [] j h e = absurd (omega arith)
every-at f (p ∷ l) zero h e = left-of (f p) (every f l) e
every-at f (p ∷ l) (suc j) h e = every-at f l j (omega arith) (right_of (f p) (every f l) e)

pub used-at : (f : ℕ → Bool) (order : List ℕ) (n j : ℕ) → n ≤ length order → j < n → every f (take n order) ≡ true → f (get_or order j 0) ≡ true
used-at f order n j w h e =
    rw (get_or-take n order j 0) at (every-at f (take n order) j (rw (length-take-le n order w) h) e)

-- a key's table has "a 16-bit number", and its mark is one of the kind
pub row_small : (kind : TableKind) (rows : List ℕ) (p : ℕ) → row_ruled kind rows p ≡ true → get_or rows (4 * p) 0 < 65536
unfolding row_ruled
row_small kind rows p e = ltb-true (get_or rows (4 * p) 0) 65536 (left-of (ltb (get_or rows (4 * p) 0) 65536) _ e)

pub row-mark : (kind : TableKind) (rows : List ℕ) (p : ℕ) → row_ruled kind rows p ≡ true → mark_ruled kind (mark_at rows p) ≡ true
unfolding row_ruled
row-mark kind rows p e = right_of (ltb (get_or rows (4 * p) 0) 65536) _ e

module _ (kind : TableKind) (room : ℕ) (rows order : List ℕ) (n j : ℕ) (w : n ≤ length order) (h : j < n) (ok : keys_ruled kind room rows order n ≡ true) where
  row_at : row_ruled kind rows (get_or order j 0) ≡ true
  row_at = used-at (row_ruled kind rows) order n j w h (keys-each kind room rows order n ok)

  pub table_at : get_or rows (4 * get_or order j 0) 0 < 65536
  table_at = row_small kind rows (get_or order j 0) row_at

  pub mark-at : mark_ruled kind (mark_at rows (get_or order j 0)) ≡ true
  mark-at = row-mark kind rows (get_or order j 0) row_at

-- the row of the place at j is there
pub row_there : (k : Keys) (j : ℕ) → j < length k.order.now → 4 * get_or k.order.now j 0 + 4 ≤ length k.rows.now
row_there k j h = row-fits k j h

-- the places from j on, one by one
pub every-next : (f : ℕ → Bool) (ps : List ℕ) (j : ℕ) → j < length ps → every f (drop j ps) ≡ f (get_or ps j 0) && every f (drop (j + 1) ps)
every-next f ps j h = rw (add-one j, drop-cons ps j 0 h)

pub every-past : (f : ℕ → Bool) (ps : List ℕ) (j : ℕ) → length ps ≤ j → every f (drop j ps) ≡ true
every-past f ps j h = ap (every f) (drop_of_length-le ps h)
