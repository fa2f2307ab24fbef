-- Actions that are stopped and taken again from the first: "stopping and starting any number of times changes nothing". Nothing is used of
-- what an action is. Assumes nothing.
use mathlib.Core.Path.{◌≡◌, refl, sym, ap, ◌∙◌}
use mathlib.Core.List.{List, [], ◌∷◌, ◌++◌}
use mathlib.Core.Option
use mathlib.Core.Option.{Option, none, some, or_else}
use Prim.Native.Nat.{ℕ, ◌<◌}
use lib.ListN.{length, get_or, take, drop, take-append-drop}
use Rattle.directory.specs.declared.directory.Directory.{Directory}
use Rattle.effect.specs.Effect.{Written, strokes, apply, stopped_at}
use Rattle.effect.proofs.Bytes.{or_else-none, last_at, record_at, apply_at, apply-agree, length-apply}

or_else_assoc : (a b c : Option ℕ) → or_else (or_else a b) c ≡ or_else a (or_else b c)
unfolding or_else
or_else_assoc none b c = refl
or_else_assoc (some a) b c = refl

-- where neither reaches, the second does not
or_else_right : (a b : Option ℕ) → or_else a b ≡ none → b ≡ none
unfolding or_else
or_else_right none b e = e
or_else_right (some a) b e = cc

record_append : (d : Directory) (s t : List Written) (p : ℕ) → record_at d (s ++ t) p ≡ or_else (record_at d t p) (record_at d s p)
unfolding record_at
record_append d [] t p = sym (or_else-none (record_at d t p))
record_append d (w ∷ s) t p =
    rw (record_append d s t p) (or_else_assoc (record_at d t p) (record_at d s p) (last_at (strokes d w.action w.payload) p))

-- The first actions, and then all of them: as all of them alone.
pub again : (d : Directory) (s t : List Written) (image : List ℕ) → apply d (s ++ t) (apply d s image) ≡ apply d (s ++ t) image
again d s t image = apply-agree d (s ++ t) (apply d s image) image (length-apply d s image) agree
  where
    agree : (p : ℕ) → p < length (apply d s image) → record_at d (s ++ t) p ≡ none → get_or (apply d s image) p 0 ≡ get_or image p 0
    agree p k e =
        let none_here : record_at d s p ≡ none = or_else_right (record_at d t p) (record_at d s p) (rw record_append at e) in
        apply_at d s image p (rw length-apply at k) ∙ ap (λ (o : Option ℕ). Option.get_or o (get_or image p 0)) none_here

-- Whatever the stops were, all the actions then leave what they would have left without them.
pub stopped-again : (d : Directory) (s : List Written) (stops image : List ℕ) → apply d s (stopped_at d s stops image) ≡ apply d s image
unfolding stopped_at
stopped-again d s [] image = refl
stopped-again d s (n ∷ stops) image = stopped-again d s stops (apply d (take n s) image) ∙ once
  where
    once : apply d s (apply d (take n s) image) ≡ apply d s image
    once = rw take-append-drop at (again d (take n s) (drop n s) image)
