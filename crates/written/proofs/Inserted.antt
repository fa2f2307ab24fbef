-- FROM AN INSERT TO THE TABLES: what a lookup finds in a list is what the tables hold once the list was written and replayed, so what was
-- inserted is there. Assumes nothing.
use Rattle.std.specs.Prelude.{Ok}
use mathlib.Core.Path.{◌≡◌, refl, sym, ap, ap₂, ◌∙◌}
use mathlib.Core.Bool.{Bool, true, false}
use mathlib.Core.List.{List, [], ◌∷◌, map}
use mathlib.Core.Option.{some}
use Prim.Native.Nat.{ℕ, zero, suc, ◌+◌, ◌*◌, ◌^◌, ◌/◌, ◌%◌, ◌<◌}
use native.Mathlib.Nat.{add_assoc, pow-suc}
use native.Mathlib.Omega.{arith}
use lib.Bits.{bit_or, or_shr, or_mod}
use lib.Dec.{eqb}
use lib.ListN.{length, drop, get_or}
use lib.Seq.{get_or-take, get_or-drop}
use borrow.Author.Tests.{eqb-true, eq-eqb}
use Rattle.words.proofs.Choices.{if_true}
use Rattle.directory.specs.Directory.{find_table, image_length}
use Rattle.directory.specs.declared.table.TableKind.{TableKind}
use Rattle.directory.specs.declared.table.TableKind.TheVariants.{Value}
use Rattle.directory.specs.declared.directory.Directory.{Directory}
use Rattle.effect.specs.Meaning.{bit}
use Rattle.numbers.specs.Numbers.{has}
use Rattle.keys.specs.Keys.{rank, key_at, mark_at}
use Rattle.keys.proofs.Rank.{rank_same}
use Rattle.overlay.specs.Rules.{Overlay, slot_size, stored_length}
use Rattle.overlay.specs.Entries.{Entry, entry_at, entries_of, find_entry}
use Rattle.memory.specs.Parts.{of_kind}
use Rattle.change.specs.Change.{Change, change_kept}
use Rattle.change.specs.Insert.{mark_of, plan_in, inserted, new_entry}
use Rattle.change.proofs.Kept.{insert-kept}
use Rattle.change.proofs.Meaning.{insert_lookup}
use Rattle.writer.specs.Typed.{Typed}
use Rattle.written.specs.Tables.{places_of, dropped_of, table_at, index_at, place_mark, start_under, key_start, image_left, Width, eight, sixteen}
use Rattle.written.proofs.Lists.{has_more, not_none}
use Rattle.written.proofs.Replayed.{each-slot, each-value}

-- the place of an entry that a lookup finds
record FoundAt (kind : TableKind) (o : Overlay) (ps : List ℕ) (k : ℕ) (e : Entry) : Type 0 where
  q : ℕ
  listed : has q ps ≡ true
  is : entry_at kind o q ≡ e
  key : key_at o.rows q ≡ k

found_at : (kind : TableKind) (o : Overlay) (ps : List ℕ) (k : ℕ) (e : Entry) → find_entry k (map (entry_at kind o) ps) ≡ some e → FoundAt kind o ps k e
unfolding entry_at
found_at kind o [] k e h = absurd (not_none h refl)
found_at kind o (p ∷ ps) k e h = by (eqb (key_at o.rows p) k) refl (found_at kind o ps k e)
  where
    by : (b : Bool) → eqb (key_at o.rows p) k ≡ b → (find_entry k (map (entry_at kind o) ps) ≡ some e → FoundAt kind o ps k e) → FoundAt kind o (p ∷ ps) k e
    by true g ih = record { q = p; listed = rw (eq-eqb p p refl); is = cc (rw g at h); key = eqb-true (key_at o.rows p) k g }
    by false g ih =
        let r = ih (rw g at h) in
        record { q = r.q; listed = has_more r.q p ps r.listed; is = r.is; key = r.key }

stored_at : (kind : TableKind) (o : Overlay) (q i : ℕ) → i < stored_length kind (mark_at o.rows q) → get_or (entry_at kind o q).bytes i 0 ≡ get_or o.bytes (slot_size kind * q + i) 0
unfolding entry_at
stored_at kind o q i h = get_or-take (stored_length kind (mark_at o.rows q)) (drop (slot_size kind * q) o.bytes) i 0 h ∙ get_or-drop (slot_size kind * q) o.bytes i 0

whole : {kind : TableKind} {w : ℕ} → Width kind w → (m s j : ℕ) → s < 64 → j < w → s * w + j < stored_length kind m
whole eight m s j h k = omega arith
whole sixteen m s j h k = omega arith

module _
    (d : Directory) (l : Change) (more image : List ℕ)
    (kept : change_kept d l ≡ true)  -- directory and list keep their rules: any other gives 13
    (words : Typed l)  -- the list's numbers are those of its types
    (long : length image ≡ image_length d)  -- the image has the directory's length: any other gives 13
    (number index : ℕ) (word : index < 18446744073709551616)
  where
    found : (kind : TableKind) (e : Entry) → find_entry (rank number index) (entries_of kind (of_kind kind l.parts)) ≡ some e → FoundAt kind (of_kind kind l.parts) (places_of kind l) (rank number index) e
    unfolding entries_of
    found kind e h = found_at kind (of_kind kind l.parts) (places_of kind l) (rank number index) e h

    named : (kind : TableKind) (q : ℕ) → key_at (of_kind kind l.parts).rows q ≡ rank number index → (table_at kind l q ≡ number) × (index_at kind l q ≡ index)
    named kind q e = rank_same (table_at kind l q) (index_at kind l q) number index (words.rows kind (4 * q + 1)) word e

    begins : (kind : TableKind) (q : ℕ) → (table_at kind l q ≡ number) × (index_at kind l q ≡ index) → key_start d kind l q ≡ start_under d kind number index
    begins kind q e = ap₂ (start_under d kind) e.0 e.1

    marked : (kind : TableKind) (q : ℕ) (e : Entry) → entry_at kind (of_kind kind l.parts) q ≡ e → place_mark kind l q ≡ e.mark
    unfolding entry_at
    marked kind q e h = ap (λ (x : Entry). x.mark) h

    -- Each slot that the mask of an entry of the list names holds the entry's bytes, unless its table is dropped.
    pub entry-slot : {kind : TableKind} {w : ℕ} → Width kind w → (e : Entry)
        → find_entry (rank number index) (entries_of kind (of_kind kind l.parts)) ≡ some e  -- the list has it under the table and the index
        → has number (dropped_of kind l) ≡ false  -- no listed drop names its table
        → (s j : ℕ) → s < 64 → bit e.mark s ≡ true → j < w
        → get_or (image_left d l more image) (start_under d kind number index + s * w + j) 0 ≡ get_or e.bytes (s * w + j) 0
    entry-slot {kind} {w} width e h free s j low set small =
        let f = found kind e h in
        let n = named kind f.q f.key in
        let m = marked kind f.q e f.is in
        let o : Overlay = of_kind kind l.parts in
        ap (λ (x : ℕ). get_or (image_left d l more image) (x + s * w + j) 0) (sym (begins kind f.q n))
        ∙ each-slot d l more image kept words long width f.q s j f.listed low (ap (λ (x : ℕ). bit x s) m ∙ set) small (ap (λ (t : ℕ). has t (dropped_of kind l)) n.0 ∙ free)
        ∙ ap (λ (x : ℕ). get_or o.bytes x 0) (add_assoc (slot_size kind * f.q) (s * w) j)
        ∙ sym (stored_at kind o f.q (s * w + j) (whole width (place_mark kind l f.q) s j low small))
        ∙ ap (λ (x : Entry). get_or x.bytes (s * w + j) 0) f.is

    -- Each value of the list stands under its table and index.
    pub entry_value : (e : Entry) → find_entry (rank number index) (entries_of Value l.parts.value) ≡ some e → (j : ℕ) → j < e.mark
        → get_or (image_left d l more image) (start_under d Value number index + j) 0 ≡ get_or e.bytes j 0
    entry_value e h j small =
        let f = found Value e h in
        let m = marked Value f.q e f.is in
        ap (λ (x : ℕ). get_or (image_left d l more image) (x + j) 0) (sym (begins Value f.q (named Value f.q f.key)))
        ∙ each-value d l more image kept words long f.q j f.listed (omega arith)
        ∙ sym (stored_at Value l.parts.value f.q j (omega arith))
        ∙ ap (λ (x : Entry). get_or x.bytes j 0) f.is

-- ---- what was inserted

odd_or : (b : ℕ) → b < 2 → bit_or b 1 % 2 ≡ 1
odd_or zero h = refl
odd_or (suc zero) h = refl
odd_or (suc (suc b)) h = absurd (omega arith)

bit-set : (m s : ℕ) → bit (bit_or m (2 ^ s)) s ≡ true
unfolding bit
bit-set m zero =
    let e : bit_or m 1 % 2 ≡ 1 = omega (arith, or_mod m 1 1, odd_or (m % 2) (omega arith)) in
    eq-eqb (bit_or m 1 % 2) 1 e
bit-set m (suc s) =
    let p : 2 ^ suc s / 2 ≡ 2 ^ s = omega (arith, pow-suc 2 s) in
    ap (λ (x : ℕ). bit x s) (or_shr m (2 ^ suc s) 1 ∙ ap (bit_or (m / 2)) p) ∙ bit-set (m / 2) s

module _
    (kind : TableKind) (d : Directory) (l : Change) (more image : List ℕ)
    (kept : change_kept d l ≡ true)  -- directory and list keep their rules
    (long : length image ≡ image_length d)  -- the image has the directory's length
    (number index sub : ℕ) (bytes : List ℕ) (small : number < 65536) (word : index < 18446744073709551616) (old : ℕ)
    (go : plan_in kind (of_kind kind l.parts) (find_table d kind number) number index sub bytes ≡ Ok old)  -- the insert is refused nothing
  where
    abbrev after : Change
    after = (inserted kind d l number index sub bytes).change

    abbrev entry : Entry
    entry = new_entry kind l number index sub bytes

    here : find_entry (rank number index) (entries_of kind (of_kind kind after.parts)) ≡ some entry
    here = insert_lookup kind d l kept number index sub bytes old go (rank number index) ∙ if_true _ _ _ (eq-eqb (rank number index) (rank number index) refl)

    names : {k : TableKind} {w : ℕ} → Width k w → (m : ℕ) → bit (mark_of k m sub bytes) sub ≡ true
    names eight m = bit-set m sub
    names sixteen m = bit-set m sub

    -- A slot that was inserted, written and replayed stands in the tables.
    pub inserted-slot : {w : ℕ} → Width kind w
        → (let after : Change = (inserted kind d l number index sub bytes).change in
        Typed after → sub < 64 → has number (dropped_of kind after) ≡ false → (j : ℕ) → j < w
        → get_or (image_left d after more image) (start_under d kind number index + sub * w + j) 0 ≡ get_or bytes (sub * w + j) 0)
    inserted-slot width words low free j h =
        entry-slot d after more image (insert-kept kind d l kept number index sub bytes small) words long number index word width entry here free sub j low (names width _) h

-- A value that was inserted, written and replayed stands in the tables.
pub inserted-value : (d : Directory) (l : Change) (more image : List ℕ) (kept : change_kept d l ≡ true) (long : length image ≡ image_length d)
    (number index : ℕ) (bytes : List ℕ) (small : number < 65536) (word : index < 18446744073709551616) (old : ℕ)
    (go : plan_in Value l.parts.value (find_table d Value number) number index 0 bytes ≡ Ok old)  -- the insert is refused nothing
    → (let after : Change = (inserted Value d l number index 0 bytes).change in
    Typed after → (j : ℕ) → j < length bytes → get_or (image_left d after more image) (start_under d Value number index + j) 0 ≡ get_or bytes j 0)
inserted-value d l more image kept long number index bytes small word old go words j h =
    entry_value d (inserted Value d l number index 0 bytes).change more image (insert-kept Value d l kept number index 0 bytes small) words long number index word
    (entry Value d l more image kept long number index 0 bytes small word old go) (here Value d l more image kept long number index 0 bytes small word old go) j h
