-- The list of a log covers it once and in order, none of its lines empty and no two stretches left out adjoining; each record kept is one that
-- replay takes, and in what is left out none begins (document 02, "Eight"). Assumes nothing.
use mathlib.Core.Path.{◌≡◌, refl}
use mathlib.Core.Bool.{Bool, true, false}
use mathlib.Core.List.{List, [], ◌∷◌}
use mathlib.Core.Option.{Option, none, some}
use Prim.Native.Nat.{ℕ, zero, suc, ◌+◌, ◌-◌, ◌≤◌, ◌<◌}
use native.Mathlib.Omega.{arith}
use lib.Dec.{ltb}
use lib.ListN.{length}
use borrow.Author.Tests.{ltb-true, ltb-false}
use Rattle.directory.specs.declared.directory.Directory.{Directory}
use Rattle.salvaging.specs.declared.lines.Line.{Line}
use Rattle.salvaging.specs.declared.lines.Line.TheVariants.{Kept}
use Rattle.salvaging.specs.Salvage.{found_at, by_found, found_from, left_out, lines_between, lines_of}
use Rattle.salvaging.specs.Meaning.{NoneBegins, NotLost, Covers, covers_end, covers_kept, covers_lost}
use Rattle.salvaging.specs.declared.search.Found.{Found}
use Rattle.salvaging.proofs.Accepted.{Accepted, found-accepted, none-accepted}
use Rattle.salvaging.proofs.Records.{past}

module _ (d : Directory) (log : List ℕ) where
  -- where nothing is found one position longer
  one_more : (at n : ℕ) → NoneBegins d log at n → found_at d log (at + n) ≡ none → NoneBegins d log at (n + 1)
  one_more at n h e p id ws end l k r = by (ltb p (at + n)) refl
    where
      by : (b : Bool) → ltb p (at + n) ≡ b → ⊥
      by true q = h p id ws end l (ltb-true p (at + n) q) r
      by false q =
          let s : p ≡ at + n = omega (arith, ltb-false p (at + n) q) in
          none-accepted d log (at + n) e id ws end (rw s at r)

  -- what was passed from `from` up to a place, in front of what follows there
  passed : (from at : ℕ) (ls : List Line) → from ≤ at → NoneBegins d log from (at - from) → NotLost ls → Covers d log at ls → Covers d log from (left_out from at ls)
  passed from at ls l h t c = by (ltb from at) refl
    where
      by : (b : Bool) → ltb from at ≡ b → Covers d log from (left_out from at ls)
      by true q =
          let k : from < at = ltb-true from at q in
          let e : from + (at - from) ≡ at = omega arith in
          rw q (covers_lost {n = at - from} {ls = ls} (omega arith) h t (rw e c))
      by false q =
          let e : from ≡ at = omega (arith, ltb-false from at q) in
          rw q (rw e c)

  -- from a place on up to which nothing was found
  from-here : (n from at : ℕ) → from ≤ at → at ≤ length log → length log - at < n → NoneBegins d log from (at - from) → Covers d log from (lines_between from (found_from n d log at) (length log))
  unfolding found_from lines_between
  from-here zero from at l k m h = absurd (omega arith)
  from-here (suc n) from at l k m h = by (found_at d log at) refl (from-here n from (at + 1)) (λ x. from-here n x x)
    where
      Goal : Option Found → Type 0
      Goal o = Covers d log from (lines_between from (by_found (found_from n d log) at o) (length log))

      nothing : (b : Bool) → ltb at (length log) ≡ b → found_at d log at ≡ none
          → (from ≤ at + 1 → at + 1 ≤ length log → length log - (at + 1) < n → NoneBegins d log from (at + 1 - from) → Covers d log from (lines_between from (found_from n d log (at + 1)) (length log)))
          → Goal none
      nothing true q e ih =
          let b : at < length log = ltb-true at (length log) q in
          let s : from + (at - from) ≡ at = omega arith in
          let z : at - from + 1 ≡ at + 1 - from = omega arith in
          ih (omega arith) (omega arith) (omega arith) (rw z at (one_more from (at - from) h (rw s e)))
      nothing false q e ih =
          let z : at ≡ length log = omega (arith, ltb-false at (length log) q) in
          rw (past d log n (at + 1) (omega arith)) (passed from (length log) [] (omega arith) (rw z at h) tt (covers_end refl))

      by : (o : Option Found) → found_at d log at ≡ o
          → (from ≤ at + 1 → at + 1 ≤ length log → length log - (at + 1) < n → NoneBegins d log from (at + 1 - from) → Covers d log from (lines_between from (found_from n d log (at + 1)) (length log)))
          → ((x : ℕ) → x ≤ x → x ≤ length log → length log - x < n → NoneBegins d log x (x - x) → Covers d log x (lines_between x (found_from n d log x) (length log)))
          → Goal o
      by none e ih₁ ih₂ = nothing (ltb at (length log)) refl e ih₁
      by (some f) e ih₁ ih₂ =
          let a : Accepted d log at f = found-accepted d log at f e in
          let s : at + (f.end - at) ≡ f.end = omega (arith, a.forward) in
          let r : Covers d log f.end (lines_between f.end (found_from n d log f.end) (length log)) =
          ih₂ f.end (omega arith) a.inside (omega (arith, a.forward, a.inside)) (λ p id ws end l k r. omega arith) in
          rw a.here
          (passed from at (Kept at (f.end - at) f.id ∷ lines_between f.end (found_from n d log f.end) (length log)) l h tt
          (covers_kept {n = f.end - at} a.actions (omega (arith, a.forward)) (rw s a.taken) (rw s r)))

  -- THE LIST
  pub lines_cover : Covers d log 0 (lines_of d log)
  unfolding lines_of
  lines_cover = from-here (suc (length log)) 0 0 (omega arith) (omega arith) (omega arith) (λ p id ws end l k r. omega arith)
