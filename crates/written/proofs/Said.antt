-- What each action that a list is written as says of a byte of the image. Assumes nothing.
use mathlib.Core.Path.{◌≡◌, refl, sym, ap, ap₂, ◌∙◌}
use mathlib.Core.Bool.{Bool, true, false, ◌&&◌}
use mathlib.Core.List.{List, [], ◌∷◌, ◌++◌}
use mathlib.Core.Option.{Option, none, some, or_else}
use Prim.Native.Nat.{ℕ, zero, suc, ◌+◌, ◌-◌, ◌*◌, ◌/◌, ◌%◌, ◌≤◌, ◌<◌}
use native.Mathlib.Nat.{mul-le-mul_right, div-eq_of_lt-le, div-add-mod', div-lt_iff_lt-mul, mod-lt}
use native.Mathlib.Omega.{arith}
use lib.Count.{ones_in, ones}
use lib.Dec.{eqb, leb}
use lib.ListN.{length, take, drop, get_or, length-append, length-drop, get_or-append}
use lib.Seq.{take_at, drop_at, get_or-take, get_or-drop, get_or-append-add, length-take-le}
use borrow.Author.Tests.{ltb-true, leb-true, lt-ltb, le-leb, eqb-true, eqb-false, ne_eqb}
use Rattle.std.specs.Prelude.{if◌then◌else◌}
use Rattle.words.specs.Words.{little}
use Rattle.words.proofs.Choices.{if_true}
use Rattle.directory.specs.Table.{unit_of, slot_length}
use Rattle.directory.specs.Directory.{start_of, find_table}
use Rattle.directory.specs.declared.table.TableKind.{TableKind}
use Rattle.directory.specs.declared.table.TableKind.TheVariants.{Index, Value, RefCount}
use Rattle.directory.specs.declared.directory.Directory.{Directory}
use Rattle.record.specs.Record.{insert_of, value_length}
use Rattle.effect.specs.Effect.{Written, written, mask_in, entries_in, Place, place_of, strokes}
use Rattle.effect.specs.Meaning.{bit, lies_in, by_mask, by_value, of_index, says_of, says, last_said, Entries, SizedBy, Sized}
use Rattle.effect.specs.Order.{if_masked, target}
use Rattle.effect.proofs.Bytes.{last_at, record_at}
use Rattle.effect.proofs.Exact.{record_said}
use Rattle.effect.proofs.Places.{stands}
use Rattle.effect.proofs.Reach.{Under, write_in}
use Rattle.effect.proofs.Spots.{place_at}
use Rattle.numbers.proofs.Laws.{both, left-of, right_of}
use Rattle.output.specs.Put.{le}
use Rattle.output.proofs.Laws.{length-le, little-le}
use Rattle.writer.specs.Bytes.{set_slots, masked_bytes, payload_of}
use Rattle.writer.proofs.Sizes.{ones_in_lem, length-slots}
use Rattle.written.specs.Tables.{slot_in, table_start, Width, eight, sixteen}
use Rattle.written.proofs.Entries.{Fitting, unit_kept}
use Rattle.written.proofs.Placed.{placed-found}

-- ---- a chunk's slots, and a value

-- byte j of slot s is in the payload behind the slots below it that are set
pub slot_of : (n w m : ℕ) (chunk : List ℕ) (s j : ℕ) → s < n → j < w → n * w ≤ length chunk → bit m s ≡ true
    → get_or (set_slots n w m chunk) (ones_in s m * w + j) 0 ≡ get_or chunk (s * w + j) 0
unfolding set_slots ones_in bit
slot_of zero w m chunk s j h k l e = absurd (omega arith)
slot_of (suc n) w m chunk zero j h k l e =
    let z : zero * w + j ≡ j = omega arith in
    rw (e, z) (get_or-append (take w chunk) _ 0 j (rw (length-take-le w chunk (omega arith)) k) ∙ get_or-take w chunk j 0 k)
slot_of (suc n) w m chunk (suc s) j h k l e = by (eqb (m % 2) 1) refl (slot_of n w (m / 2) (drop w chunk) s j (omega arith) k (simp length-drop (omega arith)) e)
  where
    o : ℕ
    o = ones_in s (m / 2) * w + j

    rest : List ℕ
    rest = set_slots n w (m / 2) (drop w chunk)

    there : get_or (drop w chunk) (s * w + j) 0 ≡ get_or chunk (suc s * w + j) 0
    there = get_or-drop w chunk (s * w + j) 0 ∙ ap (λ (x : ℕ). get_or chunk x 0) (omega arith)

    by : (b : Bool) → eqb (m % 2) 1 ≡ b → get_or rest o 0 ≡ get_or (drop w chunk) (s * w + j) 0
        → get_or ((if b then take w chunk else []) ++ rest) ((m % 2 + ones_in s (m / 2)) * w + j) 0 ≡ get_or chunk (suc s * w + j) 0
    by true g ih =
        let q : m % 2 ≡ 1 = eqb-true (m % 2) 1 g in
        let c : (1 + ones_in s (m / 2)) * w + j ≡ length (take w chunk) + o = omega (arith, length-take-le w chunk (omega arith)) in
        rw (q, c) (get_or-append-add (take w chunk) rest o 0 ∙ ih ∙ there)
    by false g ih =
        let ne = eqb-false (m % 2) 1 g in
        let q : m % 2 ≡ 0 = omega arith in
        let c : (0 + ones_in s (m / 2)) * w + j ≡ o = omega arith in
        rw (q, c) (ih ∙ there)

pub in_within : (at n p : ℕ) → at ≤ p → p < at + n → lies_in at n p ≡ true
unfolding lies_in
in_within at n p h k = both (le-leb at p h) (lt-ltb p (at + n) k)

within_in : (at n p : ℕ) → lies_in at n p ≡ true → (at ≤ p) × (p < at + n)
unfolding lies_in
within_in at n p e = (leb-true at p (left-of (leb at p) _ e), ltb-true p (at + n) (right_of (leb at p) _ e))

-- where an answer is given by a test, the test holds
tested : (b : Bool) (x c : ℕ) → (if b then some x else none) ≡ some c → b ≡ true
tested true x c e = refl
tested false x c e = let z : ◌≡◌ {A = ℕ} 0 1 = cc in absurd (omega arith)

-- p is byte j of slot s, which the mask names
pub record SlotOf (w at m p : ℕ) : Type 0 where
  pub s : ℕ
  pub j : ℕ
  pub low : s < 64
  pub small : j < w
  pub set : bit m s ≡ true
  pub is : p ≡ at + s * w + j

module _ (w at m : ℕ) (es : List ℕ) (pos : 0 < w) where
  pub masked_hit : (s j : ℕ) → s < 64 → j < w → bit m s ≡ true → by_mask w at m es (at + s * w + j) ≡ some (get_or es (ones_in s m * w + j) 0)
  unfolding by_mask
  masked_hit s j h k e =
      let x : at + s * w + j - at ≡ s * w + j = omega arith in
      let q : (s * w + j) / w ≡ s = div-eq_of_lt-le w (omega arith) (omega arith) in
      let r : (s * w + j) % w ≡ j = omega (arith, div-add-mod' (s * w + j) w, ap (λ (n : ℕ). n * w) q) in
      rw (x, q, r) (if_true _ _ _ (both (in_within at (64 * w) (at + s * w + j) (omega arith) (omega (arith, mul-le-mul_right w h))) e))

  pub masked_only : (p c : ℕ) → by_mask w at m es p ≡ some c → SlotOf w at m p
  unfolding by_mask
  masked_only p c e =
      let t = tested (lies_in at (64 * w) p && bit m ((p - at) / w)) _ c e in
      let r = within_in at (64 * w) p (left-of (lies_in at (64 * w) p) _ t) in
      record {
        s = (p - at) / w;
        j = (p - at) % w;
        low = (div-lt_iff_lt-mul pos).1 (omega (arith, r.0, r.1));
        small = mod-lt (p - at) pos;
        set = right_of (lies_in at (64 * w) p) _ t;
        is = omega (arith, r.0, div-add-mod' (p - at) w);
      }

module _ (at n : ℕ) (bs : List ℕ) where
  pub valued_hit : (j : ℕ) → j < n → by_value at n bs (at + j) ≡ some (get_or bs j 0)
  unfolding by_value
  valued_hit j h =
      let x : at + j - at ≡ j = omega arith in
      rw x (if_true _ _ _ (in_within at n (at + j) (omega arith) (omega arith)))

  pub valued_only : (p c : ℕ) → by_value at n bs p ≡ some c → (at ≤ p) × (p < at + n)
  unfolding by_value
  valued_only p c e = within_in at n p (tested (lies_in at n p) _ c e)

-- ---- an insert

module _ (w m : ℕ) (bytes : List ℕ) (bits : m < 18446744073709551616) where
  abbrev payload : List ℕ
  payload = le 8 m ++ set_slots 64 w m bytes

  mask_is : mask_in payload ≡ m
  mask_is = ap little (take_at (le 8 m) (set_slots 64 w m bytes) 8 (length-le 8 m)) ∙ little-le 8 m (omega arith)

  entries_are : entries_in payload ≡ set_slots 64 w m bytes
  entries_are = drop_at (le 8 m) (set_slots 64 w m bytes) 8 (length-le 8 m)

  sized : 64 * w ≤ length bytes → Entries w payload
  sized h =
      length-append (le 8 m) (set_slots 64 w m bytes)
      ∙ ap₂ ◌+◌ (length-le 8 m) (length-slots 64 w m bytes h ∙ ap (λ (x : ℕ). x * w) (ones_in_lem 64 m bits ∙ ap ones (sym mask_is)))

module _ (d : Directory) (kind : TableKind) (t i m : ℕ) (f : Fitting d kind t i m) where
  abbrev place : Place
  place = record { at = start_of d f.row; table = f.table }

  pub place_is : place_of d kind t ≡ some place
  place_is = place_at d kind t (start_of d f.row) f.table (placed-found d kind t f.row f.table f.found)

  unit-is : slot_length f.table ≡ unit_of kind m
  unit-is = ap (λ (k : TableKind). unit_of k f.table.length) (stands d kind t place place_is).of ∙ unit_kept kind f.table m f.mark

  -- where it begins
  abbrev pub begin : ℕ
  begin = table_start d kind t + i * slot_in (find_table d kind t)

  of-index : (g : ℕ → ℕ → Option ℕ) → of_index (place_of d kind t) i g ≡ g begin (unit_of kind m)
  unfolding of_index
  of-index g = rw (place_is, lt-ltb i f.table.count f.below, f.found, unit-is)

-- what it says
pub slot-says : (d : Directory) (kind : TableKind) (w t i m : ℕ) (f : Fitting d kind t i m) (bytes : List ℕ) (bits : m < 18446744073709551616) → Width kind w → (p : ℕ)
    → says d (written (insert_of kind t i) (payload_of kind m bytes)) p ≡ by_mask w (begin d kind t i m f) m (set_slots 64 w m bytes) p
unfolding says_of masked_bytes
slot-says d Index w t i m f bytes bits eight p = of-index d Index t i m f _ ∙ rw (mask_is 8 m bytes bits, entries_are 8 m bytes bits)
slot-says d Value w t i m f bytes bits width p = elim width [ ]
slot-says d RefCount w t i m f bytes bits sixteen p = of-index d RefCount t i m f _ ∙ rw (mask_is 16 m bytes bits, entries_are 16 m bytes bits)

pub value-says : (d : Directory) (t i m : ℕ) (f : Fitting d Value t i m) (bytes : List ℕ) (p : ℕ)
    → says d (written (insert_of Value t i) (payload_of Value m bytes)) p ≡ by_value (begin d Value t i m f) m (take m bytes) p
unfolding says_of
value-says d t i m f bytes p = of-index d Value t i m f _

-- its payload has the length that is due
pub insert-sized : (d : Directory) (kind : TableKind) (t i m : ℕ) (f : Fitting d kind t i m) (bytes : List ℕ) (bits : m < 18446744073709551616) → unit_of kind m ≤ length bytes
    → Sized d (written (insert_of kind t i) (payload_of kind m bytes))
unfolding SizedBy masked_bytes
insert-sized d Index t i m f bytes bits h = sized 8 m bytes bits h
insert-sized d Value t i m f bytes bits h = λ P e.
    let s : place d Value t i m f ≡ P = cc (place_is d Value t i m f) in
    length-take-le m bytes h ∙ eqb-true m f.table.length f.mark ∙ ap (λ (P : Place). value_length P.table) s
insert-sized d RefCount t i m f bytes bits h = sized 16 m bytes bits h

-- it says something only of what lies under its index
pub exactly : (d : Directory) (w : Written) (p : ℕ) → Sized d w → last_at (strokes d w.action w.payload) p ≡ says d w p
unfolding record_at last_said or_else
exactly d w p h = record_said d (w ∷ []) p (h, tt)

set-mask : (kind : TableKind) (t i w m : ℕ) (bytes : List ℕ) → m < 18446744073709551616 → 0 < m → if_masked (le 8 m ++ set_slots 64 w m bytes) (target kind t i) ≡ some (target kind t i)
set-mask kind t i w m bytes bits h = rw (mask_is w m bytes bits, ne_eqb m 0 (λ q. omega arith))

pub insert-under : (d : Directory) (kind : TableKind) (t i m : ℕ) (f : Fitting d kind t i m) (bytes : List ℕ) (bits : m < 18446744073709551616) → unit_of kind m ≤ length bytes
    → (p c : ℕ) → says d (written (insert_of kind t i) (payload_of kind m bytes)) p ≡ some c → Under d kind t i p
unfolding masked_bytes
insert-under d Index t i m f bytes bits h p c e =
    write_in d (insert_of Index t i) (payload_of Index m bytes) p c (target Index t i) (set-mask Index t i 8 m bytes bits (ltb-true 0 m f.ruled)) (exactly d _ p (insert-sized d Index t i m f bytes bits h) ∙ e)
insert-under d Value t i m f bytes bits h p c e =
    write_in d (insert_of Value t i) (payload_of Value m bytes) p c (target Value t i) refl (exactly d _ p (insert-sized d Value t i m f bytes bits h) ∙ e)
insert-under d RefCount t i m f bytes bits h p c e =
    write_in d (insert_of RefCount t i) (payload_of RefCount m bytes) p c (target RefCount t i) (set-mask RefCount t i 16 m bytes bits (ltb-true 0 m f.ruled)) (exactly d _ p (insert-sized d RefCount t i m f bytes bits h) ∙ e)
