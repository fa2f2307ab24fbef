-- The byte at each position after a run of strokes. Assumes nothing.
use mathlib.Core.Path.{◌≡◌, refl, sym, ap, ◌∙◌}
use mathlib.Core.Bool.{Bool, true, false}
use mathlib.Core.List.{List, [], ◌∷◌}
use mathlib.Core.Option
use mathlib.Core.Option.{Option, none, some, or_else}
use Prim.Native.Nat.{ℕ, suc, ◌<◌}
use native.Mathlib.Omega.{arith}
use lib.Dec.{eqb}
use lib.ListN.{length, get_or, set, length-set}
use lib.Seq.{sets, length-sets, get_or-set_same, get_or-set_other, ext_get_or}
use borrow.Author.Tests.{eqb-true, eqb-false, ne_eqb}
use Rattle.std.specs.Prelude.{if◌then◌else◌}
use Rattle.directory.specs.declared.directory.Directory.{Directory}
use Rattle.effect.specs.Effect.{Written, Stroke, stroke, strokes, puts, done, apply}

-- the byte that `bytes`, stored from `at` on, puts at p
unfoldable pub byte_at : ℕ → List ℕ → ℕ → Option ℕ
byte_at at [] p = none
byte_at at (b ∷ bs) p = if eqb p at then some b else byte_at (suc at) bs p

pub below : (bs : List ℕ) (at p : ℕ) → p < at → byte_at at bs p ≡ none
unfolding byte_at
below [] at p h = refl
below (b ∷ bs) at p h = rw (ne_eqb p at (λ e. omega arith)) (below bs (suc at) p (omega arith))

pub sets_at : (bs l : List ℕ) (at p : ℕ) → p < length l → get_or (sets l at bs) p 0 ≡ Option.get_or (byte_at at bs p) (get_or l p 0)
unfolding byte_at
sets_at [] l at p h = refl
sets_at (b ∷ bs) l at p h = go (eqb p at) refl (sets_at bs (set l at b) (suc at) p (rw length-set h))
  where
    go : (t : Bool) → eqb p at ≡ t → get_or (sets (set l at b) (suc at) bs) p 0 ≡ Option.get_or (byte_at (suc at) bs p) (get_or (set l at b) p 0)
        → get_or (sets (set l at b) (suc at) bs) p 0 ≡ Option.get_or (byte_at at (b ∷ bs) p) (get_or l p 0)
    go true e ih =
        let q : p ≡ at = eqb-true p at e in
        let k : at < length l = omega arith in
        ih ∙ rw (e, below bs (suc at) p (omega arith)) (rw (q, get_or-set_same))
    go false e ih = ih ∙ rw (e, get_or-set_other l at p b 0 (eqb-false p at e))

-- the byte that the last of the strokes which reach p puts there
unfoldable pub last_at : List Stroke → ℕ → Option ℕ
last_at [] p = none
last_at (stroke at bs ∷ ss) p = or_else (last_at ss p) (byte_at at bs p)

-- the same over the actions of a record
unfoldable pub record_at : Directory → List Written → ℕ → Option ℕ
record_at d [] p = none
record_at d (w ∷ ws) p = or_else (record_at d ws p) (last_at (strokes d w.action w.payload) p)

pub or_else-none : (a : Option ℕ) → or_else a none ≡ a
unfolding or_else
or_else-none none = refl
or_else-none (some a) = refl

pub or_else_get_d : (a b : Option ℕ) (x : ℕ) → Option.get_or (or_else a b) x ≡ Option.get_or a (Option.get_or b x)
unfolding or_else
or_else_get_d none b x = refl
or_else_get_d (some a) b x = refl

pub length-puts : (ss : List Stroke) (l : List ℕ) → length (puts ss l) ≡ length l
unfolding puts
length-puts [] l = refl
length-puts (stroke at bs ∷ ss) l = length-puts ss (sets l at bs) ∙ length-sets l at bs

pub length-done : (d : Directory) (w : Written) (l : List ℕ) → length (done d w l) ≡ length l
unfolding done
length-done d w l = length-puts (strokes d w.action w.payload) l

pub length-apply : (d : Directory) (s : List Written) (l : List ℕ) → length (apply d s l) ≡ length l
unfolding apply
length-apply d [] l = refl
length-apply d (w ∷ ws) l = length-apply d ws (done d w l) ∙ length-done d w l

pub puts-at : (ss : List Stroke) (l : List ℕ) (p : ℕ) → p < length l → get_or (puts ss l) p 0 ≡ Option.get_or (last_at ss p) (get_or l p 0)
unfolding puts last_at
puts-at [] l p h = refl
puts-at (stroke at bs ∷ ss) l p h = puts-at ss (sets l at bs) p (rw length-sets h) ∙ rw (sets_at bs l at p h, or_else_get_d)

-- THE POINTWISE LAW: a record leaves at p what the last of its actions that reaches p puts there, and the old byte where none does
pub apply_at : (d : Directory) (s : List Written) (l : List ℕ) (p : ℕ) → p < length l
    → get_or (apply d s l) p 0 ≡ Option.get_or (record_at d s p) (get_or l p 0)
unfolding apply done record_at
apply_at d [] l p h = refl
apply_at d (w ∷ ws) l p h =
    let j : p < length (done d w l) = rw length-done h in
    apply_at d ws (done d w l) p j ∙ rw (puts-at (strokes d w.action w.payload) l p h, or_else_get_d)

-- two images of one length that agree wherever the record reaches nothing: the record leaves the same in both
pub apply-agree : (d : Directory) (s : List Written) (l m : List ℕ) → length l ≡ length m
    → ((p : ℕ) → p < length l → record_at d s p ≡ none → get_or l p 0 ≡ get_or m p 0) → apply d s l ≡ apply d s m
apply-agree d s l m e h = ext_get_or 0 (apply d s l) (apply d s m) (simp length-apply e) each
  where
    pick : (p : ℕ) (o : Option ℕ) → record_at d s p ≡ o → p < length l → Option.get_or o (get_or l p 0) ≡ Option.get_or o (get_or m p 0)
    pick p none q k = h p k q
    pick p (some b) q k = refl

    each : (p : ℕ) → p < length (apply d s l) → get_or (apply d s l) p 0 ≡ get_or (apply d s m) p 0
    each p k =
        let j : p < length l = rw length-apply at k in
        apply_at d s l p j ∙ pick p (record_at d s p) refl j ∙ sym (apply_at d s m p (rw e at j))

-- two records that put the same at each position leave the same image
pub apply-same : (d : Directory) (s t : List Written) (l : List ℕ) → ((p : ℕ) → record_at d s p ≡ record_at d t p) → apply d s l ≡ apply d t l
apply-same d s t l h = ext_get_or 0 (apply d s l) (apply d t l) (simp length-apply) each
  where
    each : (p : ℕ) → p < length (apply d s l) → get_or (apply d s l) p 0 ≡ get_or (apply d t l) p 0
    each p k =
        let j : p < length l = rw length-apply at k in
        apply_at d s l p j ∙ ap (λ (o : Option ℕ). Option.get_or o (get_or l p 0)) (h p) ∙ sym (apply_at d t l p j)
