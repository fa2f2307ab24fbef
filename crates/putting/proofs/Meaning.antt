-- What putting a list means: the rules are kept, and a lookup finds the list's entry first, then what was there. Assumes nothing.
use mathlib.Core.Path.{◌≡◌, refl, sym, ap, ◌∙◌}
use mathlib.Core.Bool.{Bool, true, false}
use mathlib.Core.List.{List, [], ◌∷◌, map, map-map}
use mathlib.Core.Option.{Option, none, some}
use Prim.Native.Nat.{ℕ, zero, suc, ◌≤◌, ◌<◌}
use native.Mathlib.Omega.{arith}
use native.Mathlib.Nat.{not-suc-le-zero, le_of_suc-le-suc}
use lib.Dec.{ltb, eqb}
use lib.ListN.{length, get_or, take}
use lib.Seq.{get_or-take, length-take-le}
use borrow.Author.Tests.{ltb-true, eq-eqb, ne_eqb, eqb-true}
use Rattle.std.specs.Prelude.{if◌then◌else◌}
use Rattle.directory.specs.declared.table.TableKind.{TableKind}
use Rattle.numbers.proofs.Spots.{above-lacks}
use Rattle.numbers.proofs.Sort.{above-ascends}
use Rattle.numbers.proofs.Laws.{left-of, right_of}
use Rattle.numbers.specs.Numbers.{above, ascends, has}
use Rattle.keys.specs.Keys.{key_at, keys_of}
use Rattle.keys.proofs.Places.{rule-rises}
use Rattle.overlay.specs.Rules.{Overlay, overlay_kept}
use Rattle.overlay.specs.Entries.{Entry, entries_of, find_entry, or_else}
use Rattle.overlay.proofs.Entries.{key_of}
use Rattle.overlay.proofs.Ruled.{shows}
use Rattle.memory.specs.Parts.{span_of}
use Rattle.memory.specs.declared.span.Holder.TheVariants as holder
use Rattle.putting.specs.Listed.{passes, put_place, put_places, put_listed, listed_entry, listed_entries}
use Rattle.change.proofs.Listed.{Placed, placed}
use Rattle.putting.proofs.Places.{order-holds}
use Rattle.putting.proofs.Puts.{is_some, has-found, Going, found-placed, goes_on, going-first}

not_some : (v : Option Entry) → is_some v ≡ false → v ≡ none
not_some none e = refl
not_some (some a) e = let z : ◌≡◌ {A = ℕ} 0 1 = cc in absurd (omega arith)

above-own : (f : ℕ → ℕ) (a : ℕ) (ps : List ℕ) (j : ℕ) → above a (map f ps) ≡ true → j < length ps → a < f (get_or ps j 0)
above-own f a [] j e h = absurd (not-suc-le-zero h)
above-own f a (p ∷ ps) zero e h = ltb-true a (f p) (left-of (ltb a (f p)) _ e)
above-own f a (p ∷ ps) (suc j) e h =
    omega (arith, ltb-true a (f p) (left-of (ltb a (f p)) _ e), above-own f (f p) ps j (right_of (ltb a (f p)) _ e) (le_of_suc-le-suc h))

-- entries put one after the other
module _ (kind : TableKind) (id room : ℕ) (list : Overlay) where
  abbrev E : ℕ → Entry
  E = listed_entry kind id list

  abbrev key : ℕ → ℕ
  key = key_at list.rows

  all-kept : (ps : List ℕ) → ((i : ℕ) → i < length ps → Placed kind room list (get_or ps i 0)) → (o : Overlay) → Going kind list.rows ps o → overlay_kept kind (span_of holder.Shared kind).room (put_places kind id list ps o) ≡ true
  unfolding put_places
  all-kept [] f o g = g.kept
  all-kept (p ∷ ps) f o g = all-kept ps (λ i h. f (suc i) (omega arith)) (put_place kind id list p o) (goes_on kind list ps p o g id room (f 0 (omega arith)))

  absent : (a x : ℕ) (ps : List ℕ) → above a (map key ps) ≡ true → a ≡ x → find_entry x (map E ps) ≡ none
  absent a x ps e z =
      not_some (find_entry x (map E ps)) (sym (has-found x (map E ps)) ∙ ap (has x) (map-map key_of E ps) ∙ above-lacks a x (map key ps) e (omega arith))

  first : (p : ℕ) (ps : List ℕ) → above (key p) (map key ps) ≡ true → (x : ℕ) (v : Option Entry) (b : Bool) → eqb (key p) x ≡ b
      → or_else (find_entry x (map E ps)) (if b then some (E p) else v) ≡ or_else (if b then some (E p) else find_entry x (map E ps)) v
  first p ps e x v true z = rw (absent (key p) x ps e (eqb-true (key p) x z))
  first p ps e x v false z = refl

  all_found : (ps : List ℕ) → ((i : ℕ) → i < length ps → Placed kind room list (get_or ps i 0)) → ascends (map key ps) ≡ true → (o : Overlay) → Going kind list.rows ps o → (x : ℕ)
      → find_entry x (entries_of kind (put_places kind id list ps o)) ≡ or_else (find_entry x (map E ps)) (find_entry x (entries_of kind o))
  unfolding put_places
  all_found [] f e o g x = refl
  all_found (p ∷ ps) f e o g x =
      all_found ps (λ i h. f (suc i) (omega arith)) (above-ascends (key p) (map key ps) e) (put_place kind id list p o) (goes_on kind list ps p o g id room (f 0 (omega arith))) x
      ∙ ap (or_else (find_entry x (map E ps))) (found-placed kind list ps p o g id room (f 0 (omega arith)) x)
      ∙ first p ps e x (find_entry x (entries_of kind o)) (eqb (key p) x) refl

  own : (ps : List ℕ) → ascends (map key ps) ≡ true → (j : ℕ) → j < length ps → find_entry (key (get_or ps j 0)) (map E ps) ≡ some (E (get_or ps j 0))
  own [] e j h = absurd (not-suc-le-zero h)
  own (p ∷ ps) e zero h = rw (eq-eqb (key p) (key p) refl)
  own (p ∷ ps) e (suc j) h =
      let u = above-own key (key p) ps j e (le_of_suc-le-suc h) in
      rw (ne_eqb (key p) (key (get_or ps j 0)) (λ z. omega arith)) (own ps (above-ascends (key p) (map key ps) e) j (le_of_suc-le-suc h))

-- the entries of a kind over shared ones that have room for them
module _ (kind : TableKind) (id room : ℕ) (list o : Overlay) (ok : overlay_kept kind room list ≡ true) (kept : overlay_kept kind (span_of holder.Shared kind).room o ≡ true) (free : passes list o ≡ false) where
  abbrev used : List ℕ
  used = take list.count list.order

  within : list.count ≤ length list.order
  within = order-holds kind room list ok

  places : (i : ℕ) → i < length used → Placed kind room list (get_or used i 0)
  places i h =
      let u : i < list.count = omega (arith, length-take-le list.count list.order within) in
      rw (get_or-take list.count list.order i 0 u) (placed kind room list ok i u)

  rises : ascends (map (key_at list.rows) used) ≡ true
  unfolding keys_of
  rises = rule-rises list.rows list.order list.count (shows kind room list ok).in_order

  going : Going kind list.rows used o
  going = going-first kind list o kept free

  -- "Rules of a state: room kept, no key twice, no mask 0": they keep theirs
  pub put-kept : overlay_kept kind (span_of holder.Shared kind).room (put_listed kind id list o) ≡ true
  put-kept = all-kept kind id room list used places o going

  -- "puts each entry, id, mask and chunk, over the shared one; masks aren't joined there": first the list's, then what was there
  pub found-put : (x : ℕ) → find_entry x (entries_of kind (put_listed kind id list o)) ≡ or_else (find_entry x (listed_entries kind id list)) (find_entry x (entries_of kind o))
  found-put = all_found kind id room list used places rises o going

  -- the j-th listed key is found with the list's own mask and bytes, under the record's id
  pub listed_found : (j : ℕ) → j < list.count → find_entry (key_at list.rows (get_or list.order j 0)) (entries_of kind (put_listed kind id list o)) ≡ some (listed_entry kind id list (get_or list.order j 0))
  listed_found j h =
      let q = own kind id room list used rises j (rw (length-take-le list.count list.order within) h) in
      found-put (key_at list.rows (get_or list.order j 0))
      ∙ ap (λ (v : Option Entry). or_else v (find_entry (key_at list.rows (get_or list.order j 0)) (entries_of kind o))) (rw (get_or-take list.count list.order j 0 h) at q)
