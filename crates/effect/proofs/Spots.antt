-- What lies under an index of a table: the search in the code, and the place that it finds. Assumes nothing.
use mathlib.Core.Path.{◌≡◌, refl, sym, ap, ◌∙◌}
use mathlib.Core.Bool.{Bool, true, false}
use mathlib.Core.List.{List, [], ◌∷◌}
use mathlib.Core.Option.{Option, none, some}
use Prim.Native.Nat.{ℕ, ◌+◌, ◌*◌, ◌≤◌, ◌<◌}
use native.Mathlib.Nat.{mul-le-mul_right}
use native.Mathlib.Omega.{arith}
use lib.Dec.{ltb}
use lib.ListN.{take, drop, replicate}
use lib.Seq.{sets}
use borrow.Author.Tests.{ltb-true, lt-ltb, le-ltb}
use Rattle.words.specs.Words.{little_at}
use Rattle.directory.specs.Table.{slot_length, size_of}
use Rattle.directory.specs.Directory.{find_table, start_of, image_length}
use Rattle.directory.specs.declared.table.TableKind.{TableKind}
use Rattle.directory.specs.declared.table.TableDescription.{TableDescription}
use Rattle.directory.specs.declared.directory.Directory.{Directory}
use Rattle.std.specs.Prelude as std
use Rattle.std.specs.Prelude.{Some, None, option_map}
use Rattle.std.proofs.lemmas.Option.{same_Some}
use Rattle.directory.specs.Inner.{placed_table}
use Rattle.effect.specs.Effect.{mask_in, entries_in, Place, placed, place_of, Stroke, stroke, slot_strokes, under_index, zeroed, puts}
use Rattle.effect.specs.Inner.{spot_under}
use Rattle.effect.proofs.Places.{stands}

-- what lies under an index lies within its table
pub under-room : (t : TableDescription) (i : ℕ) → i < t.count → i * slot_length t + slot_length t ≤ size_of t
unfolding size_of
under-room t i h = omega (arith, mul-le-mul_right (slot_length t) h)

-- a place that was found, as the definition has it
abbrev from_std : std.Option (ℕ × TableDescription) → Option Place
from_std None = none
from_std (Some x) = some (record { at = x.0; table = x.1 })

module _ (d : Directory) (kind : TableKind) (number : ℕ) where
  -- the place that the code finds is the definition's
  by_place : (f : std.Option (ℕ × TableDescription)) → placed d f ≡ from_std (option_map (λ (x : ℕ × TableDescription). (start_of d x.0, x.1)) f)
  by_place None = refl
  by_place (Some x) = refl

  pub place_at : (at : ℕ) (t : TableDescription) → placed_table d kind number ≡ Some (at, t) → place_of d kind number ≡ some (record { at = at; table = t })
  unfolding place_of
  place_at at t e = by_place (find_table d kind number) ∙ ap from_std e

  pub place_none : placed_table d kind number ≡ None → place_of d kind number ≡ none
  unfolding place_of
  place_none e = by_place (find_table d kind number) ∙ ap from_std e

  module _ (at : ℕ) (t : TableDescription) (e : placed_table d kind number ≡ Some (at, t)) where
    -- a found table lies within the image
    pub table_room : at + size_of t ≤ image_length d
    table_room = (stands d kind number (record { at = at; table = t }) (place_at at t e)).room

    module _ (i : ℕ) (h : i < t.count) (u : ℕ) (l : u ≡ slot_length t) where
      pub spot-room : at + i * u + u ≤ image_length d
      spot-room = rw l (omega (arith, table_room, under-room t i h))

      pub spot-at : Some (at + i * u, u) ≡ spot_under (place_of d kind number) i
      unfolding spot_under
      spot-at = rw (place_at at t e, lt-ltb i t.count h, l)

    pub spot_past : (i : ℕ) → t.count ≤ i → None ≡ spot_under (place_of d kind number) i
    unfolding spot_under
    spot_past i h = rw (place_at at t e, le-ltb i t.count h)

  pub spot-none : (i : ℕ) → placed_table d kind number ≡ None → None ≡ spot_under (place_of d kind number) i
  unfolding spot_under
  spot-none i e = rw (place_none e)

  -- of a spot: whose it is, that it lies within the image, and that it is what `under_index` speaks of
  pub record Spotted (i at u : ℕ) : Type 0 where
    pub place : Place
    pub is : place_of d kind number ≡ some place
    pub long : u ≡ slot_length place.table
    pub kinds : place.table.kind ≡ kind
    pub room : at + u ≤ image_length d
    pub strokes : (f : ℕ → ℕ → List Stroke) → under_index (place_of d kind number) i f ≡ f at u

  pub spotted : (i at u : ℕ) → spot_under (place_of d kind number) i ≡ Some (at, u) → Spotted i at u
  unfolding spot_under under_index
  spotted i at u e = go (place_of d kind number) refl
    where
      low : (P : Place) → place_of d kind number ≡ some P → (t : Bool) → ltb i P.table.count ≡ t → Spotted i at u
      low P q true c =
          let x = same_Some (P.at + i * slot_length P.table, slot_length P.table) (at, u) (rw (q, c) at e) in
          let a : P.at + i * slot_length P.table ≡ at = ap (λ (p : ℕ × ℕ). p.0) x in
          let b : slot_length P.table ≡ u = ap (λ (p : ℕ × ℕ). p.1) x in
          let s = stands d kind number P q in
          record {
            place = P;
            is = q;
            long = sym b;
            kinds = s.of;
            room = omega (arith, s.room, under-room P.table i (ltb-true i P.table.count c));
            strokes = λ f. rw (q, c, a, b);
          }
      low P q false c = let z : ◌≡◌ {A = ℕ} 0 1 = cc (rw (q, c) at e) in absurd (omega arith)

      go : (o : Option Place) → place_of d kind number ≡ o → Spotted i at u
      go none q = let z : ◌≡◌ {A = ℕ} 0 1 = cc (rw q at e) in absurd (omega arith)
      go (some P) q = low P q (ltb i P.table.count) refl

  pub unspotted : (i : ℕ) (f : ℕ → ℕ → List Stroke) → spot_under (place_of d kind number) i ≡ None → under_index (place_of d kind number) i f ≡ []
  unfolding spot_under under_index
  unspotted i f e = go (place_of d kind number) refl
    where
      low : (P : Place) → place_of d kind number ≡ some P → (t : Bool) → ltb i P.table.count ≡ t → under_index (place_of d kind number) i f ≡ []
      low P q true c = let z : ◌≡◌ {A = ℕ} 0 1 = cc (rw (q, c) at e) in absurd (omega arith)
      low P q false c = rw (q, c)

      go : (o : Option Place) → place_of d kind number ≡ o → under_index (place_of d kind number) i f ≡ []
      go none q = rw q
      go (some P) q = low P q (ltb i P.table.count) refl

-- ---- what is put where a spot is, and where there is none

module _ (d : Directory) (kind : TableKind) (number i : ℕ) (image : List ℕ) where
  pub puts-nowhere : spot_under (place_of d kind number) i ≡ None → (f : ℕ → ℕ → List Stroke) → image ≡ puts (under_index (place_of d kind number) i f) image
  unfolding puts
  puts-nowhere e f = rw (unspotted d kind number i f e)

  module _ (at u : ℕ) (e : spot_under (place_of d kind number) i ≡ Some (at, u)) (payload : List ℕ) where
    pub puts-chunk : (width mask : ℕ) → mask ≡ little_at 8 payload 0
        → puts (slot_strokes 64 width at mask (drop 8 payload)) image
        ≡ puts (under_index (place_of d kind number) i (λ at u. slot_strokes 64 width at (mask_in payload) (entries_in payload))) image
    puts-chunk width mask m = rw (m, (spotted d kind number i at u e).strokes (λ at u. slot_strokes 64 width at (mask_in payload) (entries_in payload)))

    pub puts-value : sets image at (take u payload) ≡ puts (under_index (place_of d kind number) i (λ at u. stroke at (take u payload) ∷ [])) image
    unfolding puts
    puts-value = rw ((spotted d kind number i at u e).strokes (λ at u. stroke at (take u payload) ∷ []))

module _ (d : Directory) (kind : TableKind) (number : ℕ) (image : List ℕ) where
  pub puts_undropped : placed_table d kind number ≡ None → image ≡ puts (zeroed (place_of d kind number)) image
  unfolding puts zeroed
  puts_undropped e = rw (place_none d kind number e)

  pub puts-dropped : (at : ℕ) (t : TableDescription) → placed_table d kind number ≡ Some (at, t) → (n : ℕ) → n ≡ size_of t
      → sets image at (replicate n 0) ≡ puts (zeroed (place_of d kind number)) image
  unfolding puts zeroed
  puts-dropped at t e n l = rw (place_at d kind number at t e, l)
