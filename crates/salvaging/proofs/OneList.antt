-- There is one list of a log: any two lists of lines that cover it as 02 says are equal. Assumes nothing.
use mathlib.Core.Path.{◌≡◌, refl, sym, ap, ◌∙◌, subst}
use mathlib.Core.Bool.{Bool, true, false}
use mathlib.Core.List.{List, ◌∷◌}
use Prim.Native.Nat.{ℕ, ◌+◌, ◌≤◌, ◌<◌}
use native.Mathlib.Omega.{arith}
use lib.Dec.{ltb}
use lib.ListN.{length}
use borrow.Author.Tests.{ltb-true, ltb-false}
use Rattle.directory.specs.declared.directory.Directory.{Directory}
use Rattle.effect.specs.Effect.{Written}
use Rattle.replay.specs.Replay.{walked, record_at}
use Rattle.salvaging.specs.declared.lines.Line.{Line}
use Rattle.salvaging.specs.declared.lines.Line.TheVariants.{Kept, Lost}
use Rattle.salvaging.specs.Salvage.{lines_of}
use Rattle.salvaging.specs.Meaning.{NoneBegins, NotLost, Covers, covers_end, covers_kept, covers_lost}
use Rattle.salvaging.specs.declared.search.Found.{Found}
use Rattle.salvaging.proofs.Accepted.{accepted-found}
use Rattle.salvaging.proofs.Listed.{lines_cover}

module _ (d : Directory) (log : List ℕ) where
  -- what is covered lies in the log
  covered : {at : ℕ} {ls : List Line} → Covers d log at ls → at ≤ length log
  covered (covers_end e) = omega arith
  covered (covers_kept {at = at} {n = n} ws h e c) = omega (arith, covered c)
  covered (covers_lost {at = at} {n = n} h k t c) = omega (arith, covered c)

  -- a stretch doesn't go on where another that begins with it ends
  no_longer : (at n m : ℕ) {ls : List Line} → n < m → at + m ≤ length log → NoneBegins d log at m → NotLost ls → Covers d log (at + n) ls → ⊥
  no_longer at n m l k h t (covers_end e) = omega arith
  no_longer at n m l k h t (covers_kept {n = j} {id = id} ws q e c) = h (at + n) id ws (at + n + j) (omega arith) (omega arith) e
  no_longer at n m l k h t (covers_lost q e u c) = t

  -- a record has one id and one length
  one_record : (at n m i j : ℕ) (ws vs : List Written) → record_at d log at i ≡ walked ws (at + n) → record_at d log at j ≡ walked vs (at + m) → (i ≡ j) × (n ≡ m)
  one_record at n m i j ws vs e f =
      let x : Found = record { position = at; id = i; end = at + n } in
      let y : Found = record { position = at; id = j; end = at + m } in
      let q : x ≡ y = cc (sym (accepted-found d log at i ws (at + n) e) ∙ accepted-found d log at j vs (at + m) f) in
      (ap (λ (x : Found). x.id) q, omega (arith, ap (λ (x : Found). x.end) q))

  one-stretch : (at n m : ℕ) (ls ms : List Line) → NoneBegins d log at n → NoneBegins d log at m → NotLost ls → NotLost ms → Covers d log (at + n) ls → Covers d log (at + m) ms → n ≡ m
  one-stretch at n m ls ms h k t u b c = by (ltb n m) refl
    where
      more : (b : Bool) → ltb m n ≡ b → m ≤ n → n ≡ m
      more true q l = absurd (no_longer at m n (ltb-true m n q) (covered b) h u c)
      more false q l = omega (arith, ltb-false m n q)

      by : (b : Bool) → ltb n m ≡ b → n ≡ m
      by true q = absurd (no_longer at n m (ltb-true n m q) (covered c) k t b)
      by false q = more (ltb m n) refl (ltb-false n m q)

  same : {at : ℕ} {ls ms : List Line} → Covers d log at ls → Covers d log at ms → ls ≡ ms
  same (covers_end e) (covers_end f) = refl
  same (covers_end e) (covers_kept ws h f c) = absurd (omega (arith, covered c))
  same (covers_end e) (covers_lost h k t c) = absurd (omega (arith, covered c))
  same (covers_kept ws h f c) (covers_end e) = absurd (omega (arith, covered c))
  same (covers_kept {at = at} {n = n} {id = i} {ls = ls} ws h e c) (covers_kept {n = m} {id = j} {ls = ms} vs k f b) =
      let o = one_record at n m i j ws vs e f in
      let s : ls ≡ ms = same c (subst (λ (x : ℕ). Covers d log (at + x) ms) (sym o.1) b) in
      rw (o.0, o.1) (ap (λ (l : List Line). Kept at m j ∷ l) s)
  same (covers_kept {at = at} {n = n} {id = i} ws h e c) (covers_lost {n = m} k t u b) = absurd (t at i ws (at + n) (omega arith) (omega arith) e)
  same (covers_lost h k t c) (covers_end e) = absurd (omega (arith, covered c))
  same (covers_lost {n = m} k t u b) (covers_kept {at = at} {n = n} {id = i} ws h e c) = absurd (t at i ws (at + n) (omega arith) (omega arith) e)
  same (covers_lost {at = at} {n = n} {ls = ls} h k t c) (covers_lost {n = m} {ls = ms} j l u b) =
      let o : n ≡ m = one-stretch at n m ls ms k l t u c b in
      let s : ls ≡ ms = same c (subst (λ (x : ℕ). Covers d log (at + x) ms) (sym o) b) in
      rw o (ap (λ (x : List Line). Lost at m ∷ x) s)

  -- THE ONE LIST
  pub one_list : (ls : List Line) → Covers d log 0 ls → ls ≡ lines_of d log
  one_list ls c = same c (lines_cover d log)
