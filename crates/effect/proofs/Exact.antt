-- An action's strokes put at each position what the action says of it, and nothing else. Assumes nothing.
use mathlib.Core.Path.{◌≡◌, refl, ap, ◌∙◌}
use mathlib.Core.Logic.{◌≢◌}
use mathlib.Core.Bool.{Bool, true, false, ◌&&◌, and-eq-true_iff}
use mathlib.Core.List.{List, [], ◌∷◌}
use mathlib.Core.Option.{Option, none, some, or_else}
use Prim.Native.Nat.{ℕ, zero, suc, ◌+◌, ◌-◌, ◌*◌, ◌/◌, ◌%◌, ◌<◌, ◌≤◌}
use native.Mathlib.Nat.{div-add-mod', mod-lt, div-lt_iff_lt-mul}
use native.Mathlib.Omega.{arith}
use lib.Count.{ones_in}
use lib.Dec.{eqb, leb, ltb}
use lib.ListN.{length, get_or, take, drop, replicate, length-take, length-drop, length-replicate, get_or-replicate}
use lib.Seq.{get_or-take, get_or-drop, take_all}
use borrow.Author.Tests.{eqb-true, eqb-false, ne_eqb, eq-eqb, leb-true, ltb-true, lt-ltb, le-leb}
use Rattle.std.specs.Prelude.{if◌then◌else◌}
use Rattle.directory.specs.Table.{slot_length, size_of}
use Rattle.directory.specs.declared.table.TableKind.TheVariants.{Index, Value, RefCount}
use Rattle.directory.specs.declared.directory.Directory.{Directory}
use Rattle.record.specs.declared.action.LogAction.{LogAction}
use Rattle.record.specs.declared.action.LogAction.TheVariants.{BeginRecord, InsertIndex, InsertValue, InsertRefCount, EndRecord, DropTable, DropRefCountTable}
use Rattle.effect.specs.Effect.{Written, mask_in, entries_in, Place, place_of, Stroke, stroke, slot_strokes, under_index, zeroed, strokes}
use Rattle.effect.specs.Meaning.{bit, lies_in, by_mask, by_value, of_index, of_drop, says_of, last_said, Entries, SizedBy, Sized}
use Rattle.effect.specs.Order.{Each}
use Rattle.effect.proofs.Bytes.{or_else-none, byte_at, last_at, record_at}
use Rattle.effect.proofs.Masks.{entries-room}
use Rattle.effect.proofs.Places.{value-slot}
use Rattle.effect.proofs.Reach.{byte_at_in, slots_in}

none_of : (o : Option ℕ) → ((b : ℕ) → o ≡ some b → ⊥) → o ≡ none
none_of none h = refl
none_of (some b) h = absurd (h b refl)

-- bytes stored from `at` on: in reach
byte_at-hit : (bs : List ℕ) (at j : ℕ) → j < length bs → byte_at at bs (at + j) ≡ some (get_or bs j 0)
unfolding byte_at
byte_at-hit [] at j h = absurd (omega arith)
byte_at-hit (b ∷ bs) at zero h = rw (eq-eqb (at + zero) at (omega arith))
byte_at-hit (b ∷ bs) at (suc j) h =
    let e : at + suc j ≡ suc at + j = omega arith in
    rw (ne_eqb (at + suc j) at (λ q. omega arith), e) (byte_at-hit bs (suc at) j (omega arith))

-- byte j of slot s
slot-byte : (n w at m : ℕ) (bs : List ℕ) (s j : ℕ) → s < n → j < w → ones_in n m * w ≤ length bs
    → last_at (slot_strokes n w at m bs) (at + s * w + j) ≡ (if bit m s then some (get_or bs (ones_in s m * w + j) 0) else none)
unfolding slot_strokes last_at bit ones_in or_else
slot-byte zero w at m bs s j h k l = absurd (omega arith)
slot-byte (suc n) w at m bs zero j h k l = go (eqb (m % 2) 1) refl
  where
    a : at + zero * w + j ≡ at + j
    a = omega arith

    out : (cs : List ℕ) → last_at (slot_strokes n w (at + w) (m / 2) cs) (at + j) ≡ none
    out cs =
        none_of (last_at (slot_strokes n w (at + w) (m / 2) cs) (at + j)) (λ b e. let r = slots_in n w (at + w) (m / 2) cs (at + j) b e in omega arith)

    go : (t : Bool) → eqb (m % 2) 1 ≡ t
        → last_at (slot_strokes (suc n) w at m bs) (at + zero * w + j) ≡ (if bit m zero then some (get_or bs (ones_in zero m * w + j) 0) else none)
    go true e =
        let q : m % 2 ≡ 1 = eqb-true (m % 2) 1 e in
        let l' : (1 + ones_in n (m / 2)) * w ≤ length bs = rw q at l in
        let c : zero * w + j ≡ j = omega arith in
        rw (e, a, out (drop w bs), c) (byte_at-hit (take w bs) at j (simp length-take (omega arith)) ∙ ap {B = Option ℕ} some (get_or-take w bs j 0 k))
    go false e = rw (e, a) (out bs)
slot-byte (suc n) w at m bs (suc s) j h k l =
    go (λ cs. slot-byte n w (at + w) (m / 2) cs s j (omega arith) k) (eqb (m % 2) 1) refl
  where
    Next : Type 0
    Next = (cs : List ℕ) → ones_in n (m / 2) * w ≤ length cs
        → last_at (slot_strokes n w (at + w) (m / 2) cs) (at + w + s * w + j) ≡ (if bit (m / 2) s then some (get_or cs (ones_in s (m / 2) * w + j) 0) else none)

    a : at + suc s * w + j ≡ at + w + s * w + j
    a = omega arith

    first : byte_at at (take w bs) (at + w + s * w + j) ≡ none
    first =
        none_of (byte_at at (take w bs) (at + w + s * w + j))
        (λ b f. let r = byte_at_in (take w bs) at (at + w + s * w + j) b f in omega (arith, length-take w bs))

    go : Next → (t : Bool) → eqb (m % 2) 1 ≡ t
        → last_at (slot_strokes (suc n) w at m bs) (at + suc s * w + j) ≡ (if bit m (suc s) then some (get_or bs (ones_in (suc s) m * w + j) 0) else none)
    go ih true e =
        let q : m % 2 ≡ 1 = eqb-true (m % 2) 1 e in
        let l' : (1 + ones_in n (m / 2)) * w ≤ length bs = rw q at l in
        let c : (1 + ones_in s (m / 2)) * w + j ≡ w + (ones_in s (m / 2) * w + j) = omega arith in
        rw (e, a, first, q, c)
        (or_else-none (last_at (slot_strokes n w (at + w) (m / 2) (drop w bs)) (at + w + s * w + j)) ∙ ih (drop w bs) (simp length-drop (omega arith)) ∙ rw get_or-drop)
    go ih false e =
        let ne : m % 2 ≢ 1 = eqb-false (m % 2) 1 e in
        let q : m % 2 ≡ 0 = omega arith in
        let l' : (0 + ones_in n (m / 2)) * w ≤ length bs = rw q at l in
        let c : (0 + ones_in s (m / 2)) * w + j ≡ ones_in s (m / 2) * w + j = omega arith in
        rw (e, a, q, c) (ih bs (omega arith))

-- ---- in closed form

within_in : (at n p : ℕ) → lies_in at n p ≡ true → (at ≤ p) × (p < at + n)
unfolding lies_in
within_in at n p e =
    let r = (and-eq-true_iff (leb at p) (ltb p (at + n))).0 e in
    (leb-true at p r.0, ltb-true p (at + n) r.1)

in_within : (at n p : ℕ) → at ≤ p → p < at + n → lies_in at n p ≡ true
unfolding lies_in
in_within at n p h k = rw (le-leb at p h, lt-ltb p (at + n) k)

-- what reaches exactly the n positions from `at` on, in closed form
closed : (at n p : ℕ) (o x : Option ℕ) → ((b : ℕ) → o ≡ some b → (at ≤ p) × (p < at + n)) → (at ≤ p → p < at + n → o ≡ x)
    → o ≡ (if lies_in at n p then x else none)
closed at n p o x h k = go (lies_in at n p) refl
  where
    go : (t : Bool) → lies_in at n p ≡ t → o ≡ (if t then x else none)
    go true e = let r = within_in at n p e in k r.0 r.1
    go false e = none_of o (λ b f. let r = h b f in let z : ◌≡◌ {A = ℕ} 0 1 = cc (in_within at n p r.0 r.1) in omega arith)

byte_at_valued : (bs : List ℕ) (at p : ℕ) → byte_at at bs p ≡ by_value at (length bs) bs p
unfolding by_value
byte_at_valued bs at p = closed at (length bs) p (byte_at at bs p) (some (get_or bs (p - at) 0)) (byte_at_in bs at p) hit
  where
    hit : at ≤ p → p < at + length bs → byte_at at bs p ≡ some (get_or bs (p - at) 0)
    hit h k =
        let e : at + (p - at) ≡ p = omega arith in
        rw e at (byte_at-hit bs at (p - at) (omega arith))

if_and : (a b : Bool) (x : Option ℕ) → (if a then (if b then x else none) else none) ≡ (if a && b then x else none)
if_and true b x = refl
if_and false b x = refl

slots_masked : (w at m : ℕ) (bs : List ℕ) (p : ℕ) → 0 < w → ones_in 64 m * w ≤ length bs → last_at (slot_strokes 64 w at m bs) p ≡ by_mask w at m bs p
unfolding by_mask
slots_masked w at m bs p w₀ l =
    closed at (64 * w) p (last_at (slot_strokes 64 w at m bs) p) (if bit m s then some (get_or bs (ones_in s m * w + j) 0) else none) (slots_in 64 w at m bs p) hit
    ∙ if_and (lies_in at (64 * w) p) (bit m s) (some (get_or bs (ones_in s m * w + j) 0))
  where
    s : ℕ
    s = (p - at) / w

    j : ℕ
    j = (p - at) % w

    hit : at ≤ p → p < at + 64 * w → last_at (slot_strokes 64 w at m bs) p ≡ (if bit m s then some (get_or bs (ones_in s m * w + j) 0) else none)
    hit h k =
        let e : p ≡ at + s * w + j = omega (arith, div-add-mod' (p - at) w) in
        let f : s < 64 = (div-lt_iff_lt-mul w₀).1 (omega arith) in
        ap (last_at (slot_strokes 64 w at m bs)) e ∙ slot-byte 64 w at m bs s j f (mod-lt (p - at) w₀) l

zeros_within : (n at p : ℕ) → byte_at at (replicate n 0) p ≡ (if lies_in at n p then some 0 else none)
zeros_within n at p = closed at n p (byte_at at (replicate n 0) p) (some 0) (λ b e. rw length-replicate at (byte_at_in (replicate n 0) at p b e)) hit
  where
    hit : at ≤ p → p < at + n → byte_at at (replicate n 0) p ≡ some 0
    hit h k =
        let e : at + (p - at) ≡ p = omega arith in
        rw e at (byte_at-hit (replicate n 0) at (p - at) (rw length-replicate (omega arith)) ∙ ap {B = Option ℕ} some (get_or-replicate n (p - at) 0 0 (omega arith)))

-- ---- an action

under_said : (o : Option Place) (i : ℕ) (f : ℕ → ℕ → List Stroke) (g : ℕ → ℕ → Option ℕ) (p : ℕ)
    → ((P : Place) → o ≡ some P → (at : ℕ) → last_at (f at (slot_length P.table)) p ≡ g at (slot_length P.table))
    → last_at (under_index o i f) p ≡ of_index o i g
unfolding under_index of_index last_at
under_said none i f g p h = refl
under_said (some P) i f g p h = go (ltb i P.table.count) refl
  where
    go : (t : Bool) → ltb i P.table.count ≡ t → last_at (under_index (some P) i f) p ≡ of_index (some P) i g
    go true q = rw q (h P refl (P.at + i * slot_length P.table))
    go false q = rw q

zeroed_said : (o : Option Place) (p : ℕ) → last_at (zeroed o) p ≡ of_drop o p
unfolding zeroed of_drop last_at or_else
zeroed_said none p = refl
zeroed_said (some P) p = zeros_within (size_of P.table) P.at p

chunk_said : (o : Option Place) (i w : ℕ) (payload : List ℕ) (p : ℕ) → 0 < w → Entries w payload
    → last_at (under_index o i (λ at u. slot_strokes 64 w at (mask_in payload) (entries_in payload))) p ≡ of_index o i (λ at u. by_mask w at (mask_in payload) (entries_in payload) p)
chunk_said o i w payload p w₀ h =
    under_said o i (λ at u. slot_strokes 64 w at (mask_in payload) (entries_in payload)) (λ at u. by_mask w at (mask_in payload) (entries_in payload) p) p
    (λ P e at.
    let r : 8 + ones_in 64 (mask_in payload) * w ≤ length payload = entries-room w (mask_in payload) payload refl h in
    slots_masked w at (mask_in payload) (entries_in payload) p w₀ (simp length-drop (omega arith)))

exactly : (d : Directory) (a : LogAction) (payload : List ℕ) (p : ℕ) → SizedBy d a payload → last_at (strokes d a payload) p ≡ says_of d a payload p
unfolding strokes says_of SizedBy last_at or_else
exactly d (InsertIndex a) payload p h = chunk_said (place_of d Index a.table.0) a.index 8 payload p (omega arith) h
exactly d (InsertValue a) payload p h =
    under_said (place_of d Value a.table.0) a.index (λ at u. stroke at (take u payload) ∷ []) (λ at u. by_value at u payload p) p
    (λ P e at.
    let l : length payload ≡ slot_length P.table = h P e ∙ value-slot d a.table.0 P e in
    rw (take_all (slot_length P.table) payload (omega arith), ← l) (byte_at_valued payload at p))
exactly d (InsertRefCount a) payload p h = chunk_said (place_of d RefCount a.table.0) a.index 16 payload p (omega arith) h
exactly d (DropTable t) payload p h = zeroed_said (place_of d Index t.0) p
exactly d (DropRefCountTable t) payload p h = zeroed_said (place_of d RefCount t.0) p
exactly d BeginRecord payload p h = refl
exactly d EndRecord payload p h = refl

-- a record's actions put at p what the record says of it
pub record_said : (d : Directory) (s : List Written) (p : ℕ) → Each (Sized d) s → record_at d s p ≡ last_said d s p
unfolding record_at last_said
record_said d [] p h = refl
record_said d (w ∷ s) p h = rw (record_said d s p h.1, exactly d w.action w.payload p h.0)
