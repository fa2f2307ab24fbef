-- Where an action reaches: within its table, and a write under its own index. So two actions that reach one byte have one table.
-- Assumes nothing.
use mathlib.Core.Path.{◌≡◌, refl, sym, ap, ◌∙◌}
use mathlib.Core.Logic.{◌⊎◌, inl, inr, ⊎_elim}
use mathlib.Core.Bool.{Bool, true, false}
use mathlib.Core.List.{List, [], ◌∷◌}
use mathlib.Core.Option.{Option, none, some, or_else}
use Prim.Native.Nat.{ℕ, zero, suc, ◌+◌, ◌-◌, ◌*◌, ◌/◌, ◌%◌, ◌<◌, ◌≤◌}
use native.Mathlib.Nat.{mul-le-mul_right, div-eq_of_lt-le}
use native.Mathlib.Omega.{arith}
use lib.Dec.{eqb, ltb}
use lib.ListN.{length, take, drop, replicate, length-take, length-replicate}
use borrow.Author.Tests.{eqb-true, ltb-true}
use Rattle.std.specs.Prelude.{if◌then◌else◌}
use Rattle.directory.specs.Table.{unit_of, slot_length, size_of}
use Rattle.directory.specs.Directory.{tables_of}
use Rattle.directory.specs.declared.table.TableKind.{TableKind}
use Rattle.directory.specs.declared.table.TableKind.TheVariants.{Index, Value, RefCount}
use Rattle.directory.specs.declared.directory.Directory.{Directory}
use Rattle.record.specs.declared.action.LogAction.{LogAction}
use Rattle.record.specs.declared.action.LogAction.TheVariants.{BeginRecord, InsertIndex, InsertValue, InsertRefCount, EndRecord, DropTable, DropRefCountTable}
use Rattle.effect.specs.Effect.{mask_in, entries_in, Place, place_of, Stroke, stroke, slot_strokes, under_index, zeroed, strokes}
use Rattle.effect.specs.Order.{NamedTable, Target, target, if_masked, written_by, dropped_by}
use Rattle.effect.proofs.Bytes.{byte_at, last_at}
use Rattle.effect.proofs.Places.{home, stands}

never : {b : ℕ} → ◌≡◌ {A = Option ℕ} none (some b) → ⊥
never e = let z : ◌≡◌ {A = ℕ} 0 1 = cc in omega arith

no_target : {t : Target} → ◌≡◌ {A = Option Target} none (some t) → ⊥
no_target e = let z : ◌≡◌ {A = ℕ} 0 1 = cc in omega arith

no_table : {t : NamedTable} → ◌≡◌ {A = Option NamedTable} none (some t) → ⊥
no_table e = let z : ◌≡◌ {A = ℕ} 0 1 = cc in omega arith

-- what a mask says of where is written
masked_to : (payload : List ℕ) (s t : Target) → if_masked payload s ≡ some t → s ≡ t
masked_to payload s t e = go (eqb (mask_in payload) 0) e
  where
    go : (b : Bool) → (if b then none else some s) ≡ some t → s ≡ t
    go true q = absurd (no_target q)
    go false q = cc

no-mask : (payload : List ℕ) (s : Target) → if_masked payload s ≡ none → eqb (mask_in payload) 0 ≡ true
no-mask payload s e = go (eqb (mask_in payload) 0) e
  where
    go : (b : Bool) → (if b then none else some s) ≡ none → b ≡ true
    go true q = refl
    go false q = absurd (no_target (sym q))

or_else-some : (a b : Option ℕ) (x : ℕ) → or_else a b ≡ some x → (a ≡ some x) ⊎ (b ≡ some x)
unfolding or_else
or_else-some none b x e = inr e
or_else-some (some a) b x e = inl e

pub byte_at_in : (bs : List ℕ) (at p b : ℕ) → byte_at at bs p ≡ some b → (at ≤ p) × (p < at + length bs)
unfolding byte_at
byte_at_in [] at p b e = absurd (never e)
byte_at_in (c ∷ bs) at p b e = go (byte_at_in bs (suc at) p b) (eqb p at) refl
  where
    go : (byte_at (suc at) bs p ≡ some b → (suc at ≤ p) × (p < suc at + length bs)) → (t : Bool) → eqb p at ≡ t → (at ≤ p) × (p < at + suc (length bs))
    go ih true q = let r : p ≡ at = eqb-true p at q in omega arith
    go ih false q = let r = ih (rw q at e) in omega arith

pub slots_in : (n w at m : ℕ) (bs : List ℕ) (p b : ℕ) → last_at (slot_strokes n w at m bs) p ≡ some b → (at ≤ p) × (p < at + n * w)
unfolding slot_strokes last_at
slots_in zero w at m bs p b e = absurd (never e)
slots_in (suc n) w at m bs p b e = go (slots_in n w (at + w) (m / 2)) (eqb (m % 2) 1) refl
  where
    Next : Type 0
    Next = (cs : List ℕ) (p b : ℕ) → last_at (slot_strokes n w (at + w) (m / 2) cs) p ≡ some b → (at + w ≤ p) × (p < at + w + n * w)

    go : Next → (t : Bool) → eqb (m % 2) 1 ≡ t → (at ≤ p) × (p < at + suc n * w)
    go ih true q =
        ⊎_elim (λ f. let r = ih (drop w bs) p b f in omega arith) (λ f. let r = byte_at_in (take w bs) at p b f in omega (arith, length-take w bs))
        (or_else-some (last_at (slot_strokes n w (at + w) (m / 2) (drop w bs)) p) (byte_at at (take w bs) p) b (rw q at e))
    go ih false q = let r = ih bs p b (rw q at e) in omega arith

-- zeros are all that a drop stores
zeros_byte : (n at p b : ℕ) → byte_at at (replicate n 0) p ≡ some b → b ≡ 0
unfolding byte_at
zeros_byte zero at p b e = absurd (never e)
zeros_byte (suc n) at p b e = go (zeros_byte n (suc at) p b) (eqb p at) refl
  where
    go : (byte_at (suc at) (replicate n 0) p ≡ some b → b ≡ 0) → (t : Bool) → eqb p at ≡ t → b ≡ 0
    go ih true q = cc (rw q at e)
    go ih false q = ih (rw q at e)

zeroed-all : (o : Option Place) (p b : ℕ) → last_at (zeroed o) p ≡ some b → b ≡ 0
unfolding zeroed last_at or_else
zeroed-all none p b e = absurd (never e)
zeroed-all (some P) p b e = zeros_byte (size_of P.table) P.at p b e

module _ (d : Directory) where
  -- p lies in the table of that kind and number
  pub record In (kind : TableKind) (number p : ℕ) : Type 0 where
    pub place : Place
    pub is : place_of d kind number ≡ some place
    pub from : place.at ≤ p
    pub to : p < place.at + size_of place.table

  -- two that reach one byte have one table
  pub one_table : (k j : TableKind) (n m p : ℕ) (x : In k n p) (y : In j m p) → (k ≡ j) × (n ≡ m) × (x.place ≡ y.place)
  one_table k j n m p x y =
      let f = stands d k n x.place x.is in
      let g = stands d j m y.place y.is in
      let h : home 0 (tables_of d) p ≡ some x.place = f.homes p x.from x.to in
      let i : home 0 (tables_of d) p ≡ some y.place = g.homes p y.from y.to in
      let s : x.place ≡ y.place = cc (h, i) in
      (sym f.of ∙ ap (λ (P : Place). P.table.kind) s ∙ g.of, sym f.called ∙ ap (λ (P : Place). P.table.number) s ∙ g.called, s)

  -- and under an index of it
  pub record Under (kind : TableKind) (number i p : ℕ) : Type 0 where
    pub inside : In kind number p
    pub under : (p - inside.place.at) / slot_length inside.place.table ≡ i

  under_in : (kind : TableKind) (number i : ℕ) (f : ℕ → ℕ → List Stroke) (p b : ℕ)
      → ((at u len : ℕ) → u ≡ unit_of kind len → last_at (f at u) p ≡ some b → (at ≤ p) × (p < at + u))
      → last_at (under_index (place_of d kind number) i f) p ≡ some b → Under kind number i p
  unfolding under_index last_at size_of
  under_in kind number i f p b h e = go (place_of d kind number) refl
    where
      low : (P : Place) → place_of d kind number ≡ some P → (t : Bool) → ltb i P.table.count ≡ t → Under kind number i p
      low P q true c =
          let u : ℕ = slot_length P.table in
          let k : u ≡ unit_of kind P.table.length = ap (λ (x : TableKind). unit_of x P.table.length) (stands d kind number P q).of in
          let r : (P.at + i * u ≤ p) × (p < P.at + i * u + u) = h (P.at + i * u) u P.table.length k (rw (q, c) at e) in
          let l : suc i * u ≤ P.table.count * u = mul-le-mul_right u (ltb-true i P.table.count c) in
          record {
            inside = record { place = P; is = q; from = omega arith; to = omega arith };
            under = div-eq_of_lt-le u (omega arith) (omega arith);
          }
      low P q false c = absurd (never (rw (q, c) at e))

      go : (o : Option Place) → place_of d kind number ≡ o → Under kind number i p
      go none q = absurd (never (rw q at e))
      go (some P) q = low P q (ltb i P.table.count) refl

  zeroed_in : (kind : TableKind) (number p b : ℕ) → last_at (zeroed (place_of d kind number)) p ≡ some b → In kind number p
  unfolding zeroed last_at or_else
  zeroed_in kind number p b e = go (place_of d kind number) refl
    where
      go : (o : Option Place) → place_of d kind number ≡ o → In kind number p
      go none q = absurd (never (rw q at e))
      go (some P) q =
          let r = byte_at_in (replicate (size_of P.table) 0) P.at p b (rw q at e) in
          record { place = P; is = q; from = omega arith; to = omega (arith, length-replicate {A = ℕ} (size_of P.table) 0) }

  -- a write reaches only what lies under its index
  pub write_in : (a : LogAction) (payload : List ℕ) (p b : ℕ) (t : Target) → written_by a payload ≡ some t → last_at (strokes d a payload) p ≡ some b
      → Under t.table.kind t.table.number t.index p
  unfolding strokes last_at or_else
  write_in (InsertIndex a) payload p b t w e =
      rw (← masked_to payload (target Index a.table.0 a.index) t w)
      (under_in Index a.table.0 a.index (λ at u. slot_strokes 64 8 at (mask_in payload) (entries_in payload)) p b
      (λ at u len q g. let r = slots_in 64 8 at (mask_in payload) (entries_in payload) p b g in omega arith) e)
  write_in (InsertValue a) payload p b t w e =
      let s : target Value a.table.0 a.index ≡ t = cc in
      rw (← s)
      (under_in Value a.table.0 a.index (λ at u. stroke at (take u payload) ∷ []) p b
      (λ at u len q g. let r = byte_at_in (take u payload) at p b g in omega (arith, length-take u payload)) e)
  write_in (InsertRefCount a) payload p b t w e =
      rw (← masked_to payload (target RefCount a.table.0 a.index) t w)
      (under_in RefCount a.table.0 a.index (λ at u. slot_strokes 64 16 at (mask_in payload) (entries_in payload)) p b
      (λ at u len q g. let r = slots_in 64 16 at (mask_in payload) (entries_in payload) p b g in omega arith) e)
  write_in (DropTable n) payload p b t w e = absurd (no_target w)
  write_in (DropRefCountTable n) payload p b t w e = absurd (no_target w)
  write_in BeginRecord payload p b t w e = absurd (no_target w)
  write_in EndRecord payload p b t w e = absurd (no_target w)

  -- a drop reaches only its table, and puts zeros there
  pub drop_in : (a : LogAction) (payload : List ℕ) (p b : ℕ) (n : NamedTable) → dropped_by a ≡ some n → last_at (strokes d a payload) p ≡ some b
      → In n.kind n.number p × (b ≡ 0)
  unfolding strokes
  drop_in (InsertIndex a) payload p b n w e = absurd (no_table w)
  drop_in (InsertValue a) payload p b n w e = absurd (no_table w)
  drop_in (InsertRefCount a) payload p b n w e = absurd (no_table w)
  drop_in (DropTable t) payload p b n w e =
      let s : record { kind = Index; number = t.0 } ≡ n = cc in
      rw (← s) (zeroed_in Index t.0 p b e, zeroed-all (place_of d Index t.0) p b e)
  drop_in (DropRefCountTable t) payload p b n w e =
      let s : record { kind = RefCount; number = t.0 } ≡ n = cc in
      rw (← s) (zeroed_in RefCount t.0 p b e, zeroed-all (place_of d RefCount t.0) p b e)
  drop_in BeginRecord payload p b n w e = absurd (no_table w)
  drop_in EndRecord payload p b n w e = absurd (no_table w)

-- ---- an action that neither writes nor drops stores nothing

slots-none : (n w at : ℕ) (bs : List ℕ) → slot_strokes n w at 0 bs ≡ []
unfolding slot_strokes
slots-none zero w at bs = refl
slots-none (suc n) w at bs = slots-none n w (at + w) bs

under_none : (o : Option Place) (i : ℕ) (f : ℕ → ℕ → List Stroke) → ((at u : ℕ) → f at u ≡ []) → under_index o i f ≡ []
unfolding under_index
under_none none i f h = refl
under_none (some P) i f h = go (ltb i P.table.count) refl
  where
    go : (t : Bool) → ltb i P.table.count ≡ t → under_index (some P) i f ≡ []
    go true q = rw q (h (P.at + i * slot_length P.table) (slot_length P.table))
    go false q = rw q

-- a mask of 0
empty_mask : (o : Option Place) (i w : ℕ) (payload : List ℕ) → eqb (mask_in payload) 0 ≡ true
    → under_index o i (λ at u. slot_strokes 64 w at (mask_in payload) (entries_in payload)) ≡ []
empty_mask o i w payload e =
    let z : mask_in payload ≡ 0 = eqb-true (mask_in payload) 0 e in
    under_none o i (λ at u. slot_strokes 64 w at (mask_in payload) (entries_in payload)) (λ at u. rw z (slots-none 64 w at (entries_in payload)))

pub idle : (d : Directory) (a : LogAction) (payload : List ℕ) → written_by a payload ≡ none → dropped_by a ≡ none → strokes d a payload ≡ []
unfolding strokes
idle d (InsertIndex a) payload w e = empty_mask (place_of d Index a.table.0) a.index 8 payload (no-mask payload _ w)
idle d (InsertValue a) payload w e = absurd (no_target (sym w))
idle d (InsertRefCount a) payload w e = empty_mask (place_of d RefCount a.table.0) a.index 16 payload (no-mask payload _ w)
idle d (DropTable t) payload w e = absurd (no_table (sym e))
idle d (DropRefCountTable t) payload w e = absurd (no_table (sym e))
idle d BeginRecord payload w e = refl
idle d EndRecord payload w e = refl
