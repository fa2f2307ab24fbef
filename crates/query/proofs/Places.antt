-- A place is where the entry's bytes lie, and the places of many keys are those of each. Assumes nothing.
use mathlib.Core.Path.{◌≡◌, refl, sym, ap, ◌∙◌}
use mathlib.Core.Bool.{true, false}
use mathlib.Core.List.{List, [], ◌∷◌}
use Prim.Native.Nat.{ℕ, zero, suc, ◌+◌, ◌-◌, ◌*◌, ◌/◌, ◌<◌}
use native.Mathlib.Omega.{arith}
use native.Mathlib.Numerals.{add-one}
use borrow.Author.Tests.{eqb-true}
use lib.Dec.{eqb}
use lib.ListN.{length, take, drop, get_or}
use lib.Seq.{get_or-take}
use Rattle.std.specs.Prelude.{Option, Some, None, Ok, Err}
use Rattle.std.specs.Option.{unwrap_or}
use Rattle.answer.specs.declared.answer.Answer.TheVariants.{BadState, BadArgument}
use Rattle.directory.specs.declared.table.TableKind.{TableKind}
use Rattle.numbers.proofs.Laws.{left-of, right_of}
use Rattle.keys.specs.Keys.{rank, mark_at}
use Rattle.overlay.specs.Rules.{Overlay, slot_size, stored_length, overlay_of, overlay_kept}
use Rattle.overlay.specs.Inner.{seat_in}
use Rattle.overlay.specs.declared.seat.Seat.{Seat}
use Rattle.overlay.specs.declared.seat.Seat.TheVariants.{Over, Next}
use Rattle.query.specs.Query.{shared_look, bytes_of}
use Rattle.query.specs.Places.{place_by, stored_place, spot_of, places_of, paired, told_places, several_look}
use Rattle.query.specs.Inner.{found_in}
use Rattle.query.proofs.Found.{found, not_found}
use Rattle.query.proofs.Looks.{shared_found}

-- the bytes in the place are the entry's; where there is none, there is no entry
pub place-bytes : (kind : TableKind) (room : ℕ) (o : Overlay) → overlay_kept kind room o ≡ true → (key : ℕ) → take (spot_of kind o key).1 (drop (spot_of kind o key).0 o.bytes) ≡ found_in kind o key
unfolding stored_place
place-bytes kind room o ok key = by (seat_in o key) refl
  where
    by : (s : Seat) → seat_in o key ≡ s → take (unwrap_or (place_by kind o (seat_in o key)) (0, 0)).1 (drop (unwrap_or (place_by kind o (seat_in o key)) (0, 0)).0 o.bytes) ≡ found_in kind o key
    by (Over p) e = rw e (found kind room o ok key p e).bytes
    by (Next j) e = rw e (not_found kind room o ok key j e)

-- the place that the code has
pub place-over : (kind : TableKind) (room : ℕ) (words bytes : List ℕ) (n key p s u : ℕ) → p < room → seat_in (overlay_of room words bytes n) key ≡ Over p → s ≡ slot_size kind
    → u ≡ stored_length kind (get_or words (4 * p + 3) 0) → Some (s * p, u) ≡ stored_place kind (overlay_of room words bytes n) key
unfolding stored_place
place-over kind room words bytes n key p s u low e d q =
    let m : u ≡ stored_length kind (mark_at (take (4 * room) words) p) = q ∙ ap (stored_length kind) (sym (get_or-take (4 * room) words (4 * p + 3) 0 (omega arith))) in
    rw (e, d, m)

pub place_none : (kind : TableKind) (o : Overlay) (key j : ℕ) → seat_in o key ≡ Next j → None ≡ stored_place kind o key
unfolding stored_place
place_none kind o key j e = rw e

-- the part that the code takes there
pub part_of : (kind : TableKind) (room : ℕ) (words bytes : List ℕ) (n : ℕ) → overlay_kept kind room (overlay_of room words bytes n) ≡ true → (key at long : ℕ)
    → Some (at, long) ≡ stored_place kind (overlay_of room words bytes n) key → take (at + long - at) (drop at bytes) ≡ found_in kind (overlay_of room words bytes n) key
part_of kind room words bytes n ok key at long e =
    let d : at + long - at ≡ long = omega arith in
    ap (λ (k : ℕ). take k (drop at bytes)) d
    ∙ ap (λ (x : Option (ℕ × ℕ)). take (unwrap_or x (0, 0)).1 (drop (unwrap_or x (0, 0)).0 bytes)) e ∙ place-bytes kind room (overlay_of room words bytes n) ok key

pub no_part : (kind : TableKind) (room : ℕ) (words bytes : List ℕ) (n : ℕ) → overlay_kept kind room (overlay_of room words bytes n) ≡ true → (key : ℕ)
    → None ≡ stored_place kind (overlay_of room words bytes n) key → [] ≡ found_in kind (overlay_of room words bytes n) key
no_part kind room words bytes n ok key e =
    ap (λ (x : Option (ℕ × ℕ)). take (unwrap_or x (0, 0)).1 (drop (unwrap_or x (0, 0)).0 bytes)) e ∙ place-bytes kind room (overlay_of room words bytes n) ok key

-- words in pairs, by the test
pub pairs : (keys places : ℕ) → paired keys places ≡ true → (keys / 2 * 2 ≡ keys) × (places ≡ keys)
pairs keys places e = (eqb-true _ _ (left-of (eqb (keys / 2 * 2) keys) _ e), eqb-true _ _ (right_of (eqb (keys / 2 * 2) keys) _ e))

module _ (kind : TableKind) (o : Overlay) where
  -- the place of the pair at k
  abbrev at : List ℕ → ℕ → ℕ
  at keys k = (spot_of kind o (rank (get_or keys k 0) (get_or keys (suc k) 0))).0

  abbrev long : List ℕ → ℕ → ℕ
  long keys k = (spot_of kind o (rank (get_or keys k 0) (get_or keys (suc k) 0))).1

  told_at : (keys : List ℕ) (i k : ℕ) → k ≡ 2 * i → suc k < length keys → (get_or (places_of kind o keys) k 0 ≡ at keys k) × (get_or (places_of kind o keys) (suc k) 0 ≡ long keys k)
  told_at [] i k e h = absurd (omega arith)
  told_at (t ∷ []) i k e h = absurd (omega arith)
  told_at (t ∷ x ∷ keys) zero k e h = rw e (refl, refl)
  told_at (t ∷ x ∷ keys) (suc i) k e h =
      let f : k ≡ suc (suc (2 * i)) = omega (arith, e) in
      rw f (told_at keys i (2 * i) refl (omega (arith, f, h)))

  -- the bytes at the i-th place are what the lookup of the i-th key hands out
  pub each-place : overlay_kept kind 256 o ≡ true → (keys : List ℕ) (i : ℕ) → 2 * i + 1 < length keys
      → take (get_or (places_of kind o keys) (2 * i + 1) 0) (drop (get_or (places_of kind o keys) (2 * i) 0) o.bytes)
      ≡ bytes_of (shared_look kind o (rank (get_or keys (2 * i) 0) (get_or keys (2 * i + 1) 0))).entry
  each-place ok keys i h =
      let k = rank (get_or keys (2 * i) 0) (get_or keys (suc (2 * i)) 0) in
      let t = told_at keys i (2 * i) refl (omega (arith, h)) in
      rw (add-one (2 * i), t.0, t.1) (place-bytes kind 256 o ok k ∙ shared_found kind o k ok)

  -- the answers, a return of the code at a time
  module _ (keys places : List ℕ) where
    pub several_broken : overlay_kept kind 256 o ≡ false → told_places (Err BadState) places ≡ several_look kind o keys places
    unfolding several_look
    several_broken e = rw e

    module _ (ok : overlay_kept kind 256 o ≡ true) where
      pub several_unpaired : paired (length keys) (length places) ≡ false → told_places (Err BadArgument) places ≡ several_look kind o keys places
      unfolding several_look
      several_unpaired e = rw (ok, e)

      pub several_told : paired (length keys) (length places) ≡ true → (after : List ℕ) → after ≡ places_of kind o keys → told_places (Ok tt) after ≡ several_look kind o keys places
      unfolding several_look
      several_told e after f = rw (ok, e, f)
