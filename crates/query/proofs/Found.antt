-- The part that is handed out is what the entry of the key holds. Assumes nothing.
use mathlib.Core.Path.{◌≡◌, refl, sym, ap, ◌∙◌, subst}
use mathlib.Core.Bool.{true}
use mathlib.Core.List.{List, []}
use mathlib.Core.Option.{Option, none, some}
use Prim.Native.Nat.{ℕ, ◌+◌, ◌*◌, ◌≤◌, ◌<◌}
use native.Mathlib.Omega.{arith}
use lib.Dec.{ltb, leb}
use lib.ListN.{get_or, take, drop, length, length-drop}
use lib.Seq.{length-take-le, get_or-take}
use borrow.Author.Tests.{leb-true, lt-ltb}
use Rattle.directory.specs.declared.table.TableKind.{TableKind}
use Rattle.directory.specs.declared.table.TableKind.TheVariants.{Index, Value, RefCount}
use Rattle.numbers.proofs.Laws.{left-of}
use Rattle.keys.specs.Keys.{mark_at}
use Rattle.overlay.specs.Rules.{Overlay, slot_size, stored_length, mark_ruled, overlay_kept, rows_of, overlay_of}
use Rattle.overlay.specs.Overlay.{spot_in_of, stands_in}
use Rattle.overlay.specs.Inner.{seat_in}
use Rattle.overlay.specs.declared.seat.Seat.{Seat}
use Rattle.overlay.specs.declared.seat.Seat.TheVariants.{Over, Next}
use Rattle.overlay.specs.Entries.{Entry, entry_at, entries_of, find_entry, or_else}
use Rattle.overlay.proofs.Ruled.{Kept, shows}
use Rattle.overlay.proofs.Plan.{stands_in_lem}
use Rattle.overlay.proofs.Lookups.{find_entry-there, find_entry-none}
use Rattle.overlay.proofs.Seats.{seated, unseated}
use Rattle.change.proofs.Listed.{Placed, placed}
use Rattle.query.specs.Query.{bytes_of, is_there}
use Rattle.query.specs.Inner.{found_in}

stored_some : (kind : TableKind) (mark : ℕ) → mark_ruled kind mark ≡ true → 0 < stored_length kind mark
stored_some Index mark e = omega arith
stored_some Value mark e = leb-true 1 mark (left-of (leb 1 mark) _ e)
stored_some RefCount mark e = omega arith

module _ (kind : TableKind) (room : ℕ) (o : Overlay) (ok : overlay_kept kind room o ≡ true) (key : ℕ) where
  k : Kept kind room o
  k = shows kind room o ok

  few : o.count ≤ length o.order
  few = omega (arith, k.fits, k.order-long)

  -- a key that stands there: its row, its bytes within the memory, and that they are the entry's
  pub record FoundAt (p : ℕ) : Type 0 where
    pub at : Placed kind room o p
    pub some : 0 < stored_length kind (mark_at o.rows p)
    pub bytes : take (stored_length kind (mark_at o.rows p)) (drop (slot_size kind * p) o.bytes) ≡ found_in kind o key

  pub found : (p : ℕ) → seat_in o key ≡ Over p → FoundAt p
  unfolding found_in stands_in spot_in_of entry_at
  found p e =
      let s = seated kind room o ok key p e in
      let j = spot_in_of o key in
      let at : Placed kind room o p = subst (λ (q : ℕ). Placed kind room o q) s.at (placed kind room o ok j (stands_in_lem o key j refl few s.there)) in
      record {
        at = at;
        some = stored_some kind (mark_at o.rows p) at.mark;
        bytes = sym (ap bytes_of (find_entry-there kind o few key j refl s.there) ∙ ap (λ (q : ℕ). take (stored_length kind (mark_at o.rows q)) (drop (slot_size kind * q) o.bytes)) s.at);
      }

  none-there : (j : ℕ) → seat_in o key ≡ Next j → find_entry key (entries_of kind o) ≡ none
  unfolding stands_in spot_in_of
  none-there j e = find_entry-none kind o few key (spot_in_of o key) refl k.in_order (unseated kind room o ok key j e).lacks

  pub not_found : (j : ℕ) → seat_in o key ≡ Next j → [] ≡ found_in kind o key
  unfolding found_in
  not_found j e = sym (ap bytes_of (none-there j e))

  some-there : (p : ℕ) → seat_in o key ≡ Over p → 0 < length (found_in kind o key)
  some-there p e =
      let f = found p e in
      let u = stored_length kind (mark_at o.rows p) in
      let l : length (take u (drop (slot_size kind * p) o.bytes)) ≡ u = length-take-le u (drop (slot_size kind * p) o.bytes) (rw length-drop (omega (arith, f.at.stored))) in
      rw (sym f.bytes) (omega (arith, l, f.some))

  -- there are some bytes exactly if there is an entry
  pub some_bytes : ltb 0 (length (bytes_of (find_entry key (entries_of kind o)))) ≡ is_there (find_entry key (entries_of kind o))
  unfolding found_in
  some_bytes = by (seat_in o key) refl (find_entry key (entries_of kind o)) refl
    where
      by : (s : Seat) → seat_in o key ≡ s → (x : Option Entry) → find_entry key (entries_of kind o) ≡ x → ltb 0 (length (bytes_of x)) ≡ is_there x
      by (Next j) e none f = refl
      by (Over p) e none f = refl
      by (Over p) e (some x) f = lt-ltb 0 (length x.bytes) (subst (λ (y : Option Entry). 0 < length (bytes_of y)) f (some-there p e))
      by (Next j) e (some x) f = let z : none ≡ some x = sym (none-there j e) ∙ f in let y : ◌≡◌ {A = ℕ} 0 1 = cc in absurd (omega arith)

  -- where the list has none, the shared entry
  pub first-all : (all : Option Entry) → (0 < length (found_in kind o key) → ⊥) → bytes_of all ≡ bytes_of (or_else (find_entry key (entries_of kind o)) all)
  first-all all never = by (seat_in o key) refl
    where
      by : (s : Seat) → seat_in o key ≡ s → bytes_of all ≡ bytes_of (or_else (find_entry key (entries_of kind o)) all)
      by (Over p) e = absurd (never (some-there p e))
      by (Next j) e = sym (ap (λ (x : Option Entry). bytes_of (or_else x all)) (none-there j e))

pub first-own : (kind : TableKind) (own : Overlay) (all : Option Entry) (key : ℕ) → 0 < length (found_in kind own key) → found_in kind own key ≡ bytes_of (or_else (find_entry key (entries_of kind own)) all)
unfolding found_in
first-own kind own all key h = by (find_entry key (entries_of kind own)) h
  where
    by : (x : Option Entry) → 0 < length (bytes_of x) → bytes_of x ≡ bytes_of (or_else x all)
    by none h = absurd (omega arith)
    by (some e) h = refl

pub some_first : (a b : Option Entry) → ltb 0 (length (bytes_of a)) ≡ is_there a → ltb 0 (length (bytes_of b)) ≡ is_there b → ltb 0 (length (bytes_of (or_else a b))) ≡ is_there (or_else a b)
some_first none b p q = q
some_first (some e) b p q = p

-- a slot's start, and as many bytes as the row says: within the memory
module _ (kind : TableKind) (room : ℕ) (words bytes : List ℕ) (n : ℕ) (ok : overlay_kept kind room (overlay_of room words bytes n) ≡ true) (key p : ℕ) (e : seat_in (overlay_of room words bytes n) key ≡ Over p)
    (s u : ℕ) (size : s ≡ slot_size kind) (un : u ≡ stored_length kind (get_or words (4 * p + 3) 0)) where
  f : FoundAt kind room (overlay_of room words bytes n) ok key p
  f = found kind room (overlay_of room words bytes n) ok key p e

  as_marked : u ≡ stored_length kind (mark_at (rows_of room words) p)
  as_marked = un ∙ ap (stored_length kind) (sym (get_or-take (4 * room) words (4 * p + 3) 0 (omega (arith, f.at.low))))

  pub part-fits : s * p + u ≤ length bytes
  part-fits = rw (size, as_marked) f.at.stored
