-- Where a table that is found lies: within the image, and apart from every other. Assumes nothing.
use mathlib.Core.Path.{◌≡◌, refl, ap, subst}
use mathlib.Core.Bool.{Bool, true, false, and-eq-true_iff}
use mathlib.Core.List.{List, [], ◌∷◌}
use mathlib.Core.Option.{Option, none, some}
use Prim.Native.Nat.{ℕ, suc, ◌+◌, ◌≤◌, ◌<◌}
use native.Mathlib.Nat.{zero-add, add-zero, add_assoc}
use native.Mathlib.Omega.{arith}
use lib.Dec.{eqb, ltb}
use lib.ListN.{take}
use borrow.Author.Tests.{eqb-true, lt-ltb, le-ltb}
use Rattle.std.specs.Prelude.{if◌then◌else◌}
use Rattle.directory.specs.Table.{same_kind_of, is_table, slot_length, size_of}
use Rattle.directory.specs.Directory.{tables_of, find_from, find_table, sizes_of, start_of, image_length}
use Rattle.directory.specs.declared.table.TableKind.{TableKind}
use Rattle.directory.specs.declared.table.TableKind.TheVariants.{Value}
use Rattle.directory.specs.declared.table.TableDescription.{TableDescription}
use Rattle.directory.specs.declared.directory.Directory.{Directory}
use Rattle.std.specs.Prelude as std
use Rattle.std.specs.Prelude.{Some, None}
use Rattle.std.proofs.lemmas.Option.{same_Some}
use Rattle.record.specs.Record.{value_length}
use Rattle.directory.proofs.Tables.{same_kind}
use Rattle.effect.specs.Effect.{Place, place_of}

-- the table in which position p lies, where the first table begins at `base`
unfoldable pub home : ℕ → List TableDescription → ℕ → Option Place
home base [] p = none
home base (t ∷ ts) p = if ltb p (base + size_of t) then some (record { at = base; table = t }) else home (base + size_of t) ts p

-- table n of a list has the name that was asked for, and each of its bytes has its home there
record Nth (kind : TableKind) (number base : ℕ) (ts : List TableDescription) (n : ℕ) (t : TableDescription) : Type 0 where
  of : t.kind ≡ kind
  called : t.number ≡ number
  room : sizes_of (take n ts) + size_of t ≤ sizes_of ts
  homes : (p : ℕ) → base + sizes_of (take n ts) ≤ p → p < base + sizes_of (take n ts) + size_of t
      → home base ts p ≡ some (record { at = base + sizes_of (take n ts); table = t })

nth : (kind : TableKind) (number from base : ℕ) (ts : List TableDescription) (row : ℕ) (u : TableDescription) → find_from from ts kind number ≡ Some (row, u)
    → (n : ℕ) × (row ≡ from + n) × Nth kind number base ts n u
unfolding find_from home sizes_of is_table
nth kind number from base [] row u e = let z : ◌≡◌ {A = ℕ} 0 1 = cc in absurd (omega arith)
nth kind number from base (t ∷ ts) row u e = go (nth kind number (from + 1) (base + size_of t) ts row u) (is_table t kind number) refl
  where
    go : (find_from (from + 1) ts kind number ≡ Some (row, u) → (n : ℕ) × (row ≡ from + 1 + n) × Nth kind number (base + size_of t) ts n u)
        → (b : Bool) → is_table t kind number ≡ b → (n : ℕ) × (row ≡ from + n) × Nth kind number base (t ∷ ts) n u
    go ih true q =
        let x = same_Some (from, t) (row, u) (rw q at e) in
        let s : t ≡ u = ap (λ (p : ℕ × TableDescription). p.1) x in
        let f : from ≡ row = ap (λ (p : ℕ × TableDescription). p.0) x in
        let r = (and-eq-true_iff (same_kind_of t.kind kind) (eqb t.number number)).0 q in (
          0,
          omega arith,
          subst (λ (x : TableDescription). Nth kind number base (t ∷ ts) 0 x) s
              (record {
                of = same_kind t.kind kind r.0;
                called = eqb-true t.number number r.1;
                room = omega arith;
                homes = λ p h j. rw (lt-ltb p (base + size_of t) (omega arith), add-zero);
              }),
        )
    go ih false q =
        let r = ih (rw q at e) in
        let n : ℕ = r.0 in (
          suc n,
          omega (arith, r.1),
          record {
            of = r.2.of;
            called = r.2.called;
            room = omega (arith, r.2.room);
            homes = λ p h j. rw (le-ltb p (base + size_of t) (omega arith), ← add_assoc) (r.2.homes p (omega arith) (omega arith));
          },
        )

-- THE LAW: what is found has the name that was asked for, lies within the image, and is the home of each of its bytes
pub record Stands (d : Directory) (kind : TableKind) (number : ℕ) (P : Place) : Type 0 where
  pub of : P.table.kind ≡ kind
  pub called : P.table.number ≡ number
  pub room : P.at + size_of P.table ≤ image_length d
  pub homes : (p : ℕ) → P.at ≤ p → p < P.at + size_of P.table → home 0 (tables_of d) p ≡ some P

pub stands : (d : Directory) (kind : TableKind) (number : ℕ) (P : Place) → place_of d kind number ≡ some P → Stands d kind number P
unfolding place_of find_table start_of image_length
stands d kind number P e = go (find_table d kind number) refl
  where
    go : (f : std.Option (ℕ × TableDescription)) → find_table d kind number ≡ f → Stands d kind number P
    go None q = let z : ◌≡◌ {A = ℕ} 0 1 = cc (rw q at e) in absurd (omega arith)
    go (Some (row, t)) q =
        let s : record { at = start_of d row; table = t } ≡ P = cc (rw q at e) in
        let r = nth kind number 0 0 (tables_of d) row t q in
        let f : r.0 ≡ row = omega (arith, r.1) in
        let x : Nth kind number 0 (tables_of d) row t = subst (λ (n : ℕ). Nth kind number 0 (tables_of d) n t) f r.2 in
        subst (λ (P : Place). Stands d kind number P) s (record { of = x.of; called = x.called; room = x.room; homes = simp zero-add at x.homes })

-- a value in a record is as long as its slot in the image
pub value-slot : (d : Directory) (number : ℕ) (P : Place) → place_of d Value number ≡ some P → value_length P.table ≡ slot_length P.table
value-slot d number P e = rw (stands d Value number P e).of
