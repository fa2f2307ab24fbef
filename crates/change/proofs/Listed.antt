-- What the rules say of each key in use, and of the keys of one table. Assumes nothing.
use mathlib.Core.Path.{◌≡◌, refl}
use mathlib.Core.Bool.{Bool, true, false}
use mathlib.Core.List.{List}
use Prim.Native.Nat.{ℕ, ◌+◌, ◌*◌, ◌≤◌, ◌<◌}
use native.Mathlib.Omega.{arith}
use lib.Dec.{ltb}
use lib.ListN.{length, get_or}
use borrow.Author.Tests.{ltb-true, ltb-false, lt-ltb, le-ltb}
use Rattle.std.specs.Prelude.{Option, Some, None}
use Rattle.directory.specs.Directory.{find_table, directory_kept}
use Rattle.directory.specs.Table.{length_fits}
use Rattle.directory.specs.declared.table.TableKind.{TableKind}
use Rattle.directory.specs.declared.table.TableDescription.{TableDescription}
use Rattle.directory.specs.declared.directory.Directory.{Directory}
use Rattle.numbers.proofs.Laws.{left-of, right_of}
use Rattle.numbers.specs.Numbers.{spot}
use Rattle.keys.specs.Keys.{rank, key_at, mark_at, keys_of, ruled}
use Rattle.keys.proofs.Places.{in_use, below-spot, not_below-spot}
use Rattle.overlay.specs.Rules.{Overlay, slot_size, stored_length, mark_ruled, row_ruled, overlay_kept}
use Rattle.overlay.proofs.Ruled.{shows, unit-fits}
use Rattle.overlay.proofs.Slots.{slot_in_lem}
use Rattle.memory.specs.declared.span.Holder.TheVariants as holder
use Rattle.memory.specs.Parts.{span_of, of_kind}
use Rattle.memory.proofs.Spans.{all-shows}
use Rattle.change.specs.Change.{Change, mark_fits, key_fits, entry_fits, entries_fit, change_kept}
use Rattle.change.proofs.Rules.{kept-directory, kept-parts, kept-fits}
use Rattle.change.proofs.Fitting.{used-at, row_small, row-mark}
use Rattle.change.proofs.Accepted.{length-kept}

-- the key in place p, of a room: its place, its number, its mark, and where its bytes lie
pub record Placed (kind : TableKind) (room : ℕ) (o : Overlay) (p : ℕ) : Type 0 where
  pub used : p < o.count
  pub low : p < room
  pub row : 4 * p + 4 ≤ length o.rows
  pub small : get_or o.rows (4 * p) 0 < 65536
  pub mark : mark_ruled kind (mark_at o.rows p) ≡ true
  pub short : stored_length kind (mark_at o.rows p) ≤ slot_size kind
  pub slot : slot_size kind * p + slot_size kind ≤ length o.bytes
  pub stored : slot_size kind * p + stored_length kind (mark_at o.rows p) ≤ length o.bytes

pub placed_at : (kind : TableKind) (room : ℕ) (o : Overlay) → overlay_kept kind room o ≡ true → (p : ℕ) → p < o.count → row_ruled kind o.rows p ≡ true → Placed kind room o p
placed_at kind room o ok p u r =
    let k = shows kind room o ok in
    let low : p < room = omega (arith, k.fits) in
    let m = row-mark kind o.rows p r in
    let s : slot_size kind * p + slot_size kind ≤ length o.bytes = omega (arith, slot_in_lem (slot_size kind) p room low, k.bytes-long) in
    record {
      used = u;
      low = low;
      row = omega (arith, k.rows_long);
      small = row_small kind o.rows p r;
      mark = m;
      short = unit-fits kind (mark_at o.rows p) m;
      slot = s;
      stored = omega (arith, unit-fits kind (mark_at o.rows p) m);
    }

-- the one at j of the order
pub placed : (kind : TableKind) (room : ℕ) (o : Overlay) → overlay_kept kind room o ≡ true → (j : ℕ) → j < o.count → Placed kind room o (get_or o.order j 0)
placed kind room o ok j h =
    let k = shows kind room o ok in
    let w : o.count ≤ length o.order = omega (arith, k.fits, k.order-long) in
    placed_at kind room o ok (get_or o.order j 0) (in_use o.rows o.order o.count j k.in_order w h)
    (used-at (row_ruled kind o.rows) o.order o.count j w h k.each)

-- and its table: "Every value of a table has exactly that table's length."
pub record Tabled (d : Directory) (kind : TableKind) (o : Overlay) (p : ℕ) : Type 0 where
  pub row : ℕ
  pub table : TableDescription
  pub found : find_table d kind (get_or o.rows (4 * p) 0) ≡ Some (row, table)
  pub below : get_or o.rows (4 * p + 1) 0 < table.count
  pub size : length_fits kind table.length ≡ true
  pub mark : mark_fits kind table (mark_at o.rows p) ≡ true

tabled-by : (d : Directory) (kind : TableKind) (o : Overlay) (p : ℕ) → directory_kept d ≡ true → entry_fits d kind o p ≡ true → Tabled d kind o p
unfolding entry_fits
tabled-by d kind o p dir e = by (find_table d kind (get_or o.rows (4 * p) 0)) refl e
  where
    by : (f : Option (ℕ × TableDescription)) → find_table d kind (get_or o.rows (4 * p) 0) ≡ f → key_fits kind f (get_or o.rows (4 * p + 1) 0) (mark_at o.rows p) ≡ true → Tabled d kind o p
    by None q h = let z : ◌≡◌ {A = ℕ} 0 1 = cc in absurd (omega arith)
    by (Some (row, t)) q h =
        record {
          row = row;
          table = t;
          found = q;
          below = ltb-true (get_or o.rows (4 * p + 1) 0) t.count (left-of (ltb (get_or o.rows (4 * p + 1) 0) t.count) _ h);
          size = length-kept d kind (get_or o.rows (4 * p) 0) row t dir q;
          mark = right_of (ltb (get_or o.rows (4 * p + 1) 0) t.count) _ h;
        }

pub tabled : (d : Directory) (kind : TableKind) (o : Overlay) → directory_kept d ≡ true → entries_fit d kind o ≡ true → (j : ℕ) → o.count ≤ length o.order → j < o.count
    → Tabled d kind o (get_or o.order j 0)
unfolding entries_fit
tabled d kind o dir e j w h = tabled-by d kind o (get_or o.order j 0) dir (used-at (entry_fits d kind o) o.order o.count j w h e)

-- both of a list that keeps its rules
module _ (d : Directory) (l : Change) (ok : change_kept d l ≡ true) (kind : TableKind) where
  pub list-kept : overlay_kept kind (span_of holder.List kind).room (of_kind kind l.parts) ≡ true
  list-kept = (all-shows holder.List l.parts (kept-parts d l ok)).each kind

  pub key-placed : (j : ℕ) → j < (of_kind kind l.parts).count → Placed kind (span_of holder.List kind).room (of_kind kind l.parts) (get_or (of_kind kind l.parts).order j 0)
  key-placed j h = placed kind (span_of holder.List kind).room (of_kind kind l.parts) list-kept j h

  pub key-tabled : (j : ℕ) → j < (of_kind kind l.parts).count → Tabled d kind (of_kind kind l.parts) (get_or (of_kind kind l.parts).order j 0)
  key-tabled j h =
      let k = shows kind (span_of holder.List kind).room (of_kind kind l.parts) list-kept in
      tabled d kind (of_kind kind l.parts) (kept-directory d l ok) ((kept-fits d l ok).each kind) j (omega (arith, k.fits, k.order-long)) h

-- The keys of one table are a run of the order: what stands from its begin to its end is of the table, and nothing else is.
between : (n t x : ℕ) → x < 18446744073709551616 → rank n 0 ≤ rank t x → rank t x < rank (n + 1) 0 → t ≡ n
between n t x h a b = omega arith

module _ (rows order : List ℕ) (n number j : ℕ) (fits : n ≤ length order) (ok : ruled rows order n ≡ true) (here : j < n)
    (word : get_or rows (4 * get_or order j 0 + 1) 0 < 18446744073709551616) where
  abbrev key : ℕ
  key = key_at rows (get_or order j 0)

  -- where a key stands to the place at j, by the key there
  from_on : (k : ℕ) → spot k (keys_of rows order n) ≤ j → k ≤ key
  from_on k h = by (ltb key k) refl
    where
      by : (b : Bool) → ltb key k ≡ b → k ≤ key
      by true e = absurd (omega (arith, below-spot rows order n k j fits here ok e))
      by false e = ltb-false key k e

  up_to : (k : ℕ) → j < spot k (keys_of rows order n) → key < k
  up_to k h = by (ltb key k) refl
    where
      by : (b : Bool) → ltb key k ≡ b → key < k
      by true e = ltb-true key k e
      by false e = absurd (omega (arith, not_below-spot rows order n k j fits here e))

  pub run_of : spot (rank number 0) (keys_of rows order n) ≤ j → j < spot (rank (number + 1) 0) (keys_of rows order n) → get_or rows (4 * get_or order j 0) 0 ≡ number
  run_of a b = between number (get_or rows (4 * get_or order j 0) 0) (get_or rows (4 * get_or order j 0 + 1) 0) word (from_on (rank number 0) a) (up_to (rank (number + 1) 0) b)

  pub in_run : get_or rows (4 * get_or order j 0) 0 ≡ number → (spot (rank number 0) (keys_of rows order n) ≤ j) × (j < spot (rank (number + 1) 0) (keys_of rows order n))
  in_run e = (
    not_below-spot rows order n (rank number 0) j fits here (le-ltb key (rank number 0) (omega arith)),
    below-spot rows order n (rank (number + 1) 0) j fits here ok (lt-ltb key (rank (number + 1) 0) (omega arith)),
  )
