-- An entry taken out of an overlay that keeps its rules: the record's own entry goes and a newer one stays, the rules are kept.
-- Assumes nothing.
use mathlib.Core.Path.{◌≡◌, refl, sym, ap, ◌∙◌, subst}
use mathlib.Core.Bool.{Bool, true, false}
use mathlib.Core.List.{List, ◌++◌, map}
use mathlib.Core.Option.{none, some}
use Prim.Native.Nat.{ℕ, suc, ◌+◌, ◌-◌, ◌*◌, ◌<◌, ◌≤◌}
use native.Mathlib.Omega.{arith}
use lib.Dec.{eqb}
use lib.ListN.{get_or, take, drop, length, length-append, length-drop, length-set, length-map}
use lib.Seq.{length-paste, length-take-le, take-take}
use borrow.Author.Tests.{eqb-true, eqb-false, eq-eqb, ne_eqb}
use Rattle.std.specs.Prelude.{if◌then◌else◌}
use Rattle.directory.specs.declared.table.TableKind.{TableKind}
use Rattle.numbers.specs.Numbers.{ascends, spot}
use Rattle.keys.specs.Keys.{key_at, id_at, mark_at, keys_of, every, holds, cut_out, renamed, rename_all}
use Rattle.keys.proofs.Places.{rule-under, rule-rises, rule_make}
use Rattle.keys.proofs.Kept.{key_here, key-other, table_here, mark-here}
use Rattle.overlay.specs.Rules.{stored_length, Overlay, slot_size, row_ruled, overlay_kept, lists_of}
use Rattle.overlay.specs.Overlay.{row_moved, slot_moved, freed, removed_from}
use Rattle.overlay.specs.Entries.{Entry, entry_at, entries_of, find_entry, remove_entry}
use Rattle.overlay.proofs.Slots.{slot_in_lem, slot-length}
use Rattle.overlay.proofs.Ruled.{Kept, shows, makes}
use Rattle.overlay.proofs.Entries.{unless, find_entry_remove, there-at, none-at}
use Rattle.overlay.proofs.Order.{left-reads, left-under, all, every-all, ascends-cut, all-cut}
use Rattle.overlay.proofs.Memory.{keys_are, in_use_lem, use_fits, used, rising, rule-other, slot-fits, entry_here, entry_other}
use Rattle.overlay.proofs.Lookups.{entry-there}
use Rattle.overlay.proofs.Plan.{stands_in_lem, place_in_lem, leaves-own, newer_leaves_not, none-leaves}
use Rattle.overlay.proofs.Leaves.{gone-is, left_is}

length_cut : (j n : ℕ) (l : List ℕ) → j ≤ n → n < length l → length (cut_out j n l) ≡ length l
unfolding cut_out
length_cut j n l h k =
    let a : length (take j l) ≡ j = length-take-le j l (omega arith) in
    let b : length (take (n - j) (drop (j + 1) l)) ≡ n - j = length-take-le (n - j) (drop (j + 1) l) (rw length-drop (omega arith)) in
    simp (length-append, length-drop) (omega (arith, a, b))

length_rename : (n from to : ℕ) (l : List ℕ) → n ≤ length l → length (rename_all n from to l) ≡ length l
unfolding rename_all
length_rename n from to l h =
    let a : length (take n l) ≡ n = length-take-le n l h in
    simp (length-append, length-map, length-drop) (omega (arith, a))

-- place m named p, read anew
moved : {B : Type 0} (g h : ℕ → B) (m p q : ℕ) → (q ≡ m → g p ≡ h q) → g q ≡ h q → g (renamed m p q) ≡ h q
moved g h m p q here other = by (eqb q m) refl
  where
    by : (b : Bool) → eqb q m ≡ b → g (if b then p else q) ≡ h q
    by true e = here (eqb-true q m e)
    by false e = other

rule_moved : (kind : TableKind) (rows : List ℕ) (p m : ℕ) → 4 * p + 4 ≤ length rows → row_ruled kind (row_moved rows m p) p ≡ row_ruled kind rows m
unfolding row_ruled
rule_moved kind rows p m fits =
    rw (table_here rows p (get_or rows (4 * m) 0) (get_or rows (4 * m + 1) 0) (id_at rows m) (mark_at rows m) fits, mark-here rows p (get_or rows (4 * m) 0) (get_or rows (4 * m + 1) 0) (id_at rows m) (mark_at rows m) fits)

module _ (kind : TableKind) (room : ℕ) (o : Overlay) (ok : overlay_kept kind room o ≡ true) where
  k : Kept kind room o
  k = shows kind room o ok

  w : o.count ≤ length o.order
  w = omega (arith, k.fits, k.order-long)

  -- place p, which stands at j of the order, freed
  module _ (j : ℕ) (h : j < o.count) (low : get_or o.order j 0 < o.count) where
    abbrev p : ℕ
    p = get_or o.order j 0

    abbrev m : ℕ
    m = o.count - 1

    abbrev slot : List ℕ
    slot = take (slot_size kind) (drop (slot_size kind * m) o.bytes)

    abbrev order : List ℕ
    order = rename_all m m p (cut_out j m o.order)

    abbrev after : Overlay
    after = lists_of (row_moved o.rows m p) order (slot_moved (slot_size kind) o.bytes m p) m

    fits : 4 * p + 4 ≤ length o.rows
    fits = omega (arith, k.rows_long, k.fits)

    long : length slot ≡ slot_size kind
    long = slot-length (slot_size kind) (slot_size kind * m) o.bytes (omega (arith, k.bytes-long, slot_in_lem (slot_size kind) m room (omega (arith, k.fits))))

    -- what the places read to that are left
    reads : {B : Type 0} (g f : ℕ → B) → ((q : ℕ) → in_use_lem kind o q ≡ true → q ≡ m → g p ≡ f q) → ((q : ℕ) → in_use_lem kind o q ≡ true → (q ≡ p → ⊥) → g q ≡ f q)
        → map g (take m order) ≡ take j (map f (take o.count o.order)) ++ drop (suc j) (map f (take o.count o.order))
    reads g f here other =
        left-reads (in_use_lem kind o) (key_at o.rows) o.order o.count w (used kind room o k) (rising kind room o k) j h g f (λ q u ne. moved g f m p q (here q u) (other q u ne))

    here : (q : ℕ) → in_use_lem kind o q ≡ true → q ≡ m → entry_at kind after p ≡ entry_at kind o q
    unfolding entry_at
    here q u e =
        let l : stored_length kind (mark_at o.rows m) ≤ slot_size kind = subst (λ (x : ℕ). stored_length kind (mark_at o.rows x) ≤ slot_size kind) e (use_fits kind o q u).1 in
        entry_here kind room o k p (get_or o.rows (4 * m) 0) (get_or o.rows (4 * m + 1) 0) (id_at o.rows m) (mark_at o.rows m) slot (slot_size kind) (omega (arith, k.fits)) (omega arith) (omega (arith, long)) order m l
        ∙ ap (λ (b : List ℕ). record { key = key_at o.rows m; id = id_at o.rows m; mark = mark_at o.rows m; bytes = b }) (take-take (stored_length kind (mark_at o.rows m)) (slot_size kind) (drop (slot_size kind * m) o.bytes) l)
        ∙ ap (entry_at kind o) (sym e)

    others : (q : ℕ) → in_use_lem kind o q ≡ true → (q ≡ p → ⊥) → entry_at kind after q ≡ entry_at kind o q
    others q u ne =
        entry_other kind room o k p (get_or o.rows (4 * m) 0) (get_or o.rows (4 * m + 1) 0) (id_at o.rows m) (mark_at o.rows m) slot (slot_size kind) (omega (arith, k.fits)) (omega arith) (omega (arith, long)) order m q (use_fits kind o q u).1 ne

    freed-entries : entries_of kind (freed kind o j p) ≡ take j (entries_of kind o) ++ drop (suc j) (entries_of kind o)
    unfolding entries_of freed
    freed-entries = reads (entry_at kind after) (entry_at kind o) here others

    key-moved : (q : ℕ) → in_use_lem kind o q ≡ true → q ≡ m → key_at (row_moved o.rows m p) p ≡ key_at o.rows q
    key-moved q u e = key_here o.rows p (get_or o.rows (4 * m) 0) (get_or o.rows (4 * m + 1) 0) (id_at o.rows m) (mark_at o.rows m) fits ∙ ap (key_at o.rows) (sym e)

    freed-keys : keys_of (row_moved o.rows m p) order m ≡ take j (keys_of o.rows o.order o.count) ++ drop (suc j) (keys_of o.rows o.order o.count)
    unfolding keys_of
    freed-keys =
        reads (key_at (row_moved o.rows m p)) (key_at o.rows) key-moved
        (λ q u ne. key-other o.rows p (get_or o.rows (4 * m) 0) (get_or o.rows (4 * m + 1) 0) (id_at o.rows m) (mark_at o.rows m) fits q ne)

    freed-each : every (row_ruled kind (row_moved o.rows m p)) (take m order) ≡ true
    freed-each =
        sym (every-all (row_ruled kind (row_moved o.rows m p)) (take m order))
        ∙ ap all (reads (row_ruled kind (row_moved o.rows m p)) (row_ruled kind o.rows) (λ q u e. rule_moved kind o.rows p m fits ∙ ap (row_ruled kind o.rows) (sym e))
        (λ q u ne. rule-other kind o.rows p (get_or o.rows (4 * m) 0) (get_or o.rows (4 * m + 1) 0) (id_at o.rows m) (mark_at o.rows m) fits q ne))
        ∙ all-cut j (map (row_ruled kind o.rows) (take o.count o.order)) (every-all (row_ruled kind o.rows) (take o.count o.order) ∙ k.each)

    freed-kept : overlay_kept kind room (freed kind o j p) ≡ true
    unfolding freed
    freed-kept =
        makes kind room after
        (record {
          rows_long = simp length-set k.rows_long;
          order-long = length_rename m m p (cut_out j m o.order) (rw (length_cut j m o.order (omega arith) (omega (arith, w))) (omega (arith, w))) ∙ length_cut j m o.order (omega arith) (omega (arith, w)) ∙ k.order-long;
          bytes-long = length-paste o.bytes (slot_size kind * p) slot (slot_size kind) (slot-fits kind room o k p 0 0 0 0 slot (slot_size kind) (omega (arith, k.fits)) (omega arith) (omega (arith, long)) order m) (omega (arith, long)) ∙ k.bytes-long;
          fits = omega (arith, k.fits);
          in_order = rule_make (row_moved o.rows m p) order m
              (left-under (in_use_lem kind o) (key_at o.rows) o.order o.count w (used kind room o k) (rising kind room o k) j h (rule-under o.rows o.order o.count k.in_order) low)
              (ap ascends freed-keys ∙ ascends-cut j (keys_of o.rows o.order o.count) (rule-rises o.rows o.order o.count k.in_order));
          each = freed-each;
        })

  module _ (key id : ℕ) where
    abbrev at : ℕ
    at = spot key (keys_of o.rows o.order o.count)

    abbrev there : Bool
    there = holds key at (keys_of o.rows o.order o.count)

    inside : there ≡ true → at < o.count
    inside h = stands_in_lem o key at refl w h

    place-low : there ≡ true → get_or o.order at 0 < o.count
    place-low h = place_in_lem o key at refl w k.in_order h

    id-there : there ≡ true → (get_or (entries_of kind o) at (entry_at kind o 0)).id ≡ id_at o.rows (get_or o.order at 0)
    unfolding entry_at
    id-there h = ap (λ (e : Entry). e.id) (entry-there kind o w key at refl h)

    own : (b : Bool) → there ≡ true → eqb (id_at o.rows (get_or o.order at 0)) id ≡ b
        → remove_entry key id (entries_of kind o) ≡ (if b then take at (entries_of kind o) ++ drop (suc at) (entries_of kind o) else entries_of kind o)
    own b h e =
        (there-at (entries_of kind o) (keys_of o.rows o.order o.count) (keys_are kind o) key id (entry_at kind o 0) h).1
        ∙ ap (λ (i : ℕ). if eqb i id then take at (entries_of kind o) ++ drop (suc at) (entries_of kind o) else entries_of kind o) (id-there h)
        ∙ ap (λ (t : Bool). if t then take at (entries_of kind o) ++ drop (suc at) (entries_of kind o) else entries_of kind o) e

    -- "An entry goes only if its stored id equals the record's; a newer one stays."
    pub remove_entries : entries_of kind (removed_from kind o key id) ≡ remove_entry key id (entries_of kind o)
    remove_entries = by there refl (eqb (id_at o.rows (get_or o.order at 0)) id) refl
      where
        by : (b : Bool) → there ≡ b → (d : Bool) → eqb (id_at o.rows (get_or o.order at 0)) id ≡ d → entries_of kind (removed_from kind o key id) ≡ remove_entry key id (entries_of kind o)
        by true h true e =
            ap (entries_of kind) (sym (gone-is kind o key id at (get_or o.order at 0) (leaves-own o key at refl id h (eqb-true (id_at o.rows (get_or o.order at 0)) id e)))) ∙ freed-entries at (inside h) (place-low h) ∙ sym (own true h e)
        by true h false e = ap (entries_of kind) (sym (left_is kind o key id (newer_leaves_not o key at refl id h (eqb-false (id_at o.rows (get_or o.order at 0)) id e)))) ∙ sym (own false h e)
        by false h d e =
            ap (entries_of kind) (sym (left_is kind o key id (none-leaves o key at refl id h)))
            ∙ sym (none-at (entries_of kind o) (keys_of o.rows o.order o.count) (keys_are kind o) key id (rule-rises o.rows o.order o.count k.in_order) h).1

    -- a removal keeps the rules, whatever the key and the id
    pub removed-kept : overlay_kept kind room (removed_from kind o key id) ≡ true
    removed-kept = by there refl (eqb (id_at o.rows (get_or o.order at 0)) id) refl
      where
        by : (b : Bool) → there ≡ b → (d : Bool) → eqb (id_at o.rows (get_or o.order at 0)) id ≡ d → overlay_kept kind room (removed_from kind o key id) ≡ true
        by true h true e = ap (overlay_kept kind room) (sym (gone-is kind o key id at (get_or o.order at 0) (leaves-own o key at refl id h (eqb-true (id_at o.rows (get_or o.order at 0)) id e)))) ∙ freed-kept at (inside h) (place-low h)
        by true h false e = ap (overlay_kept kind room) (sym (left_is kind o key id (newer_leaves_not o key at refl id h (eqb-false (id_at o.rows (get_or o.order at 0)) id e)))) ∙ ok
        by false h d e = ap (overlay_kept kind room) (sym (left_is kind o key id (none-leaves o key at refl id h))) ∙ ok

    -- what a lookup finds after a removal: under its key what is left of the entry, under any other what it found before
    pub find_entry-after_remove : (k' : ℕ) → find_entry k' (entries_of kind (removed_from kind o key id)) ≡ (if eqb key k' then unless id (find_entry key (entries_of kind o)) else find_entry k' (entries_of kind o))
    find_entry-after_remove k' =
        ap (find_entry k') remove_entries
        ∙ find_entry_remove key id k' (entries_of kind o) (ap ascends (keys_are kind o) ∙ rule-rises o.rows o.order o.count k.in_order)

    -- the record's own entry is gone
    pub own-goes : (e : Entry) → find_entry key (entries_of kind o) ≡ some e → e.id ≡ id → find_entry key (entries_of kind (removed_from kind o key id)) ≡ none
    own-goes e f i = find_entry-after_remove key ∙ rw (eq-eqb key key refl, f, eq-eqb e.id id i)

    -- another record's entry stays
    pub newer_stays : (e : Entry) → find_entry key (entries_of kind o) ≡ some e → (e.id ≡ id → ⊥) → find_entry key (entries_of kind (removed_from kind o key id)) ≡ some e
    newer_stays e f i = find_entry-after_remove key ∙ rw (eq-eqb key key refl, f, ne_eqb e.id id i)

    -- and so does the entry of any other key
    pub others_stay : (k' : ℕ) → (key ≡ k' → ⊥) → find_entry k' (entries_of kind (removed_from kind o key id)) ≡ find_entry k' (entries_of kind o)
    others_stay k' n = find_entry-after_remove k' ∙ rw (ne_eqb key k' n)
