-- The rules of a list, taken apart and put together. Assumes nothing.
use mathlib.Core.Path.{◌≡◌, refl, sym}
use mathlib.Core.Bool.{Bool, true, false, ◌&&◌}
use Prim.Native.Nat.{◌≤◌}
use lib.Dec.{leb}
use borrow.Author.Tests.{leb-true, le-leb}
use Rattle.directory.specs.Directory.{directory_kept}
use Rattle.directory.specs.declared.table.TableKind.{TableKind}
use Rattle.directory.specs.declared.table.TableKind.TheVariants.{Index, Value, RefCount}
use Rattle.directory.specs.declared.directory.Directory.{Directory}
use Rattle.numbers.proofs.Laws.{both, left-of, right_of}
use Rattle.memory.specs.Parts.{of_kind, parts_kept}
use Rattle.memory.specs.declared.span.Holder.TheVariants as holder
use Rattle.change.specs.Change.{Change, drop_room, change_ruled, entries_fit, keys_fit, drops_fit, change_fits, change_kept}

-- a test of several rules, a return at a time
pub stops : {a : Bool} (b : Bool) → a ≡ false → false ≡ (a && b)
stops b e = rw e

pub goes_on : {a b r : Bool} → a ≡ true → r ≡ b → r ≡ (a && b)
goes_on e h = rw e h

-- those that need no directory
pub record RuledList (l : Change) : Type 0 where
  pub parts : parts_kept holder.List l.parts ≡ true
  pub drops : l.drops.count ≤ drop_room
  pub count-drops : l.count_drops.count ≤ drop_room

module _ (l : Change) where
  pub ruled-shows : change_ruled l ≡ true → RuledList l
  unfolding change_ruled
  ruled-shows e =
      let r = right_of (parts_kept holder.List l.parts) _ e in
      record {
        parts = left-of (parts_kept holder.List l.parts) _ e;
        drops = leb-true l.drops.count drop_room (left-of (leb l.drops.count drop_room) _ r);
        count-drops = leb-true l.count_drops.count drop_room (right_of (leb l.drops.count drop_room) _ r);
      }

  pub ruled-makes : RuledList l → change_ruled l ≡ true
  unfolding change_ruled
  ruled-makes r = both r.parts (both (le-leb l.drops.count drop_room r.drops) (le-leb l.count_drops.count drop_room r.count-drops))

  -- too many of either kind
  pub ruled-stops : (l.drops.count ≤ drop_room → l.count_drops.count ≤ drop_room → ⊥) → false ≡ change_ruled l
  unfolding change_ruled
  ruled-stops h = by (parts_kept holder.List l.parts) (leb l.drops.count drop_room) refl (leb l.count_drops.count drop_room) refl
    where
      by : (p a : Bool) → leb l.drops.count drop_room ≡ a → (b : Bool) → leb l.count_drops.count drop_room ≡ b → false ≡ (p && (leb l.drops.count drop_room && leb l.count_drops.count drop_room))
      by false a e b f = refl
      by true false e b f = rw e
      by true true e false f = rw (e, f)
      by true true e true f = absurd (h (leb-true _ _ e) (leb-true _ _ f))

  pub ruled-goes : (p : Bool) → p ≡ parts_kept holder.List l.parts → l.drops.count ≤ drop_room → l.count_drops.count ≤ drop_room → p ≡ change_ruled l
  unfolding change_ruled
  ruled-goes p e few some = rw (sym e, le-leb l.drops.count drop_room few, le-leb l.count_drops.count drop_room some) (alone p)
    where
      alone : (b : Bool) → b ≡ (b && true)
      alone true = refl
      alone false = refl

  pub ruled-parts : change_ruled l ≡ true → parts_kept holder.List l.parts ≡ true
  ruled-parts e = (ruled-shows e).parts

-- all that is listed fits the directory
pub record FitList (d : Directory) (l : Change) : Type 0 where
  pub each : (kind : TableKind) → entries_fit d kind (of_kind kind l.parts) ≡ true
  pub drops : drops_fit d Index l.drops ≡ true
  pub count-drops : drops_fit d RefCount l.count_drops ≡ true

module _ (d : Directory) (l : Change) where
  pub fits-shows : change_fits d l ≡ true → FitList d l
  unfolding change_fits
  fits-shows e =
      let k = left-of (keys_fit d l) _ e in
      let a = right_of (entries_fit d Index l.parts.index) _ k in
      let r = right_of (keys_fit d l) _ e in
      record {
        each = by (left-of (entries_fit d Index l.parts.index) _ k) (left-of (entries_fit d Value l.parts.value) _ a) (right_of (entries_fit d Value l.parts.value) _ a);
        drops = left-of (drops_fit d Index l.drops) _ r;
        count-drops = right_of (drops_fit d Index l.drops) _ r;
      }
    where
      by : entries_fit d Index l.parts.index ≡ true → entries_fit d Value l.parts.value ≡ true → entries_fit d RefCount l.parts.ref_count ≡ true
          → (kind : TableKind) → entries_fit d kind (of_kind kind l.parts) ≡ true
      by i v r Index = i
      by i v r Value = v
      by i v r RefCount = r

  pub fits-makes : FitList d l → change_fits d l ≡ true
  unfolding change_fits
  fits-makes f = both (both (f.each Index) (both (f.each Value) (f.each RefCount))) (both f.drops f.count-drops)

  -- directory, list and both together
  pub kept-directory : change_kept d l ≡ true → directory_kept d ≡ true
  unfolding change_kept
  kept-directory e = left-of (directory_kept d) _ e

  pub kept-ruled : change_kept d l ≡ true → change_ruled l ≡ true
  unfolding change_kept
  kept-ruled e = left-of (change_ruled l) _ (right_of (directory_kept d) _ e)

  pub kept-fits : change_kept d l ≡ true → FitList d l
  unfolding change_kept
  kept-fits e = fits-shows (right_of (change_ruled l) _ (right_of (directory_kept d) _ e))

  pub kept-makes : directory_kept d ≡ true → change_ruled l ≡ true → FitList d l → change_kept d l ≡ true
  unfolding change_kept
  kept-makes a b f = both a (both b (fits-makes f))

  -- a return at a time
  pub kept-stops : directory_kept d ≡ false → false ≡ change_kept d l
  unfolding change_kept
  kept-stops a = stops _ a

  pub kept-stops-ruled : directory_kept d ≡ true → change_ruled l ≡ false → false ≡ change_kept d l
  unfolding change_kept
  kept-stops-ruled a b = goes_on a (stops _ b)

  pub kept-goes-on : (r : Bool) → directory_kept d ≡ true → change_ruled l ≡ true → r ≡ change_fits d l → r ≡ change_kept d l
  unfolding change_kept
  kept-goes-on r a b h = goes_on a (goes_on b h)

  pub kept-parts : change_kept d l ≡ true → parts_kept holder.List l.parts ≡ true
  kept-parts e = ruled-parts l (kept-ruled e)
