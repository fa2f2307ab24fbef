-- The search for the next record, a position at a time; and that it finds the first of the log's records. Assumes nothing.
use mathlib.Core.Path.{◌≡◌, refl, sym, ap, ◌∙◌}
use mathlib.Core.Bool.{Bool, true, false}
use mathlib.Core.List.{List, [], ◌∷◌}
use mathlib.Core.Option.{Option, none, some}
use Prim.Native.Nat.{ℕ, zero, suc, ◌+◌, ◌-◌, ◌≤◌, ◌<◌}
use native.Mathlib.Nat.{add-zero}
use native.Mathlib.Omega.{arith}
use lib.Dec.{eqb, ltb}
use lib.ListN.{length, get_or, get_or-eq_default}
use borrow.Author.Tests.{ltb-true, ltb-false, eq-eqb, ne_eqb, eqb-false}
use Rattle.std.specs.Prelude.{if◌then◌else◌}
use Rattle.words.proofs.Choices.{if_true, if_false}
use Rattle.answer.specs.declared.answer.Refusal.{Refusal}
use Rattle.directory.specs.declared.directory.Directory.{Directory}
use Rattle.record.specs.Next.{reader_at, step_of}
use Rattle.replay.specs.Replay.{rest_in, whole_of}
use Rattle.replay.specs.declared.whole.WholeRecord.{WholeRecord}
use Rattle.salvaging.specs.Salvage.{found_by, found_at, by_found, found_from, found_on}
use Rattle.salvaging.specs.Inner.{Begins, undecided, seen, search_from, search_in, first_found_of, Inside}
use Rattle.salvaging.specs.declared.search.Found.{Found}
use Rattle.salvaging.specs.declared.search.Search.{Search}
use Rattle.salvaging.specs.declared.search.Search.TheVariants.{Record, Open, Nothing}
use Rattle.salvaging.proofs.Accepted.{found-accepted}
use Rattle.salvaging.proofs.Begins.{untagged-none}
use Rattle.salvaging.proofs.Records.{past, enough}
use Rattle.std.specs.Prelude.{Result, Ok, Err}

-- what the check of a position comes to
abbrev pub here : Directory → List ℕ → ℕ → Result WholeRecord Refusal
here d log at = whole_of (rest_in d log) (step_of d log (reader_at at true))

module _ (more : Bool) (d : Directory) (log : List ℕ) where
  untagged : (at : ℕ) → (get_or log at 0 ≡ 1 → ⊥) → (n : ℕ) → search_from (suc n) more d log at ≡ search_from n more d log (at + 1)
  unfolding search_from
  untagged at h n = if_false (eqb (get_or log at 0) 1) _ _ (ne_eqb (get_or log at 0) 1 h)

  seek_past : (n at : ℕ) → length log ≤ at → search_from n more d log at ≡ Nothing
  unfolding search_from
  seek_past zero at h = refl
  seek_past (suc n) at h =
      let z : get_or log at 0 ≡ 0 = get_or-eq_default log 0 {n = at} h in
      untagged at (λ e. omega arith) n ∙ seek_past n (at + 1) (omega arith)

  seek_enough : (n m at : ℕ) → length log - at < n → length log - at < m → search_from n more d log at ≡ search_from m more d log at
  unfolding search_from
  seek_enough zero m at p q = absurd (omega arith)
  seek_enough (suc n) zero at p q = absurd (omega arith)
  seek_enough (suc n) (suc m) at p q = by (ltb at (length log)) refl (seek_enough n m (at + 1))
    where
      by : (b : Bool) → ltb at (length log) ≡ b
          → (length log - (at + 1) < n → length log - (at + 1) < m → search_from n more d log (at + 1) ≡ search_from m more d log (at + 1))
          → search_from (suc n) more d log at ≡ search_from (suc m) more d log at
      by true h ih =
          let l : at < length log = ltb-true at (length log) h in
          ap (λ (x : Search). if eqb (get_or log at 0) 1 then seen more at x (here d log at) else x) (ih (omega arith) (omega arith))
      by false h ih =
          let l : length log ≤ at = ltb-false at (length log) h in
          seek_past (suc n) at l ∙ sym (seek_past (suc m) at l)

  seek_next : (at : ℕ) → search_from (length log) more d log (at + 1) ≡ search_in more d log (at + 1)
  seek_next at = by (ltb at (length log)) refl
    where
      by : (b : Bool) → ltb at (length log) ≡ b → search_from (length log) more d log (at + 1) ≡ search_in more d log (at + 1)
      by true h =
          let l : at < length log = ltb-true at (length log) h in
          seek_enough (length log) (suc (length log)) (at + 1) (omega arith) (omega arith)
      by false h =
          let l : length log ≤ at + 1 = omega (arith, ltb-false at (length log) h) in
          seek_past (length log) (at + 1) l ∙ sym (seek_past (suc (length log)) (at + 1) l)

  -- positions without a begin tag's byte are passed
  seek_run : (k at : ℕ) → ((j : ℕ) → at ≤ j → j < at + k → get_or log j 0 ≡ 1 → ⊥) → search_in more d log at ≡ search_in more d log (at + k)
  seek_run zero at h = ap (search_in more d log) (sym (add-zero at))
  seek_run (suc k) at h =
      let e : at + 1 + k ≡ at + suc k = omega arith in
      untagged at (h at (omega arith) (omega arith)) (length log) ∙ seek_next at
      ∙ seek_run k (at + 1) (λ j a b. h j (omega arith) (omega arith)) ∙ ap (search_in more d log) e

  seek_to : (at r : ℕ) → at ≤ r → ((k : ℕ) → at ≤ k → k < r → get_or log k 0 ≡ 1 → ⊥) → search_in more d log at ≡ search_in more d log r
  seek_to at r l h =
      let e : at + (r - at) ≡ r = omega arith in
      seek_run (r - at) at (λ j a b. h j a (omega arith)) ∙ ap (search_in more d log) e

  seek_nothing : (at : ℕ) → length log ≤ at → Nothing ≡ search_in more d log at
  seek_nothing at l = sym (seek_past (suc (length log)) at l)

  module _ (at : ℕ) (t : get_or log at 0 ≡ 1) where
    at_tag : search_in more d log at ≡ seen more at (search_in more d log (at + 1)) (here d log at)
    unfolding search_from
    at_tag =
        if_true (eqb (get_or log at 0) 1) _ _ (eq-eqb (get_or log at 0) 1 t)
        ∙ ap (λ (x : Search). seen more at x (here d log at)) (seek_next at)

    seek_record : (w : WholeRecord) → Ok w ≡ here d log at → Record (record { position = at; id = w.opened.record_id; end = w.end }) ≡ search_in more d log at
    seek_record w e = sym (at_tag ∙ ap (seen more at (search_in more d log (at + 1))) (sym e))

    module _ (x : Refusal) (e : Err x ≡ here d log at) where
      refused : search_in more d log at ≡ (if undecided more x then Open at else search_in more d log (at + 1))
      refused = at_tag ∙ ap (seen more at (search_in more d log (at + 1))) (sym e)

      seek_open : undecided more x ≡ true → Open at ≡ search_in more d log at
      seek_open b = sym (refused ∙ if_true (undecided more x) _ _ b)

      seek_on : undecided more x ≡ false → search_in more d log at ≡ search_in more d log (at + 1)
      seek_on b = refused ∙ if_false (undecided more x) _ _ b

-- what was seen, by what it is
module _ (s : Search) (at room : ℕ) (i : Inside s at room) where
  pub inside_record : (f : Found) → s ≡ Record f → (at ≤ f.position) × (f.position < f.end) × (f.end ≤ room)
  inside_record f q = rw q at i

  pub inside_open : (p : ℕ) → s ≡ Open p → (at ≤ p) × (p < room)
  inside_open p q = rw q at i

-- where a record that was found ends
module _ (d : Directory) (log : List ℕ) (at : ℕ) where
  whole-inside : (w : WholeRecord) → Ok w ≡ here d log at → (at < w.end) × (w.end ≤ length log)
  unfolding found_at
  whole-inside w e =
      let a = found-accepted d log at (record { position = at; id = w.opened.record_id; end = w.end }) (ap (found_by at) (sym e)) in
      (a.forward, a.inside)

-- ---- a turn of the search

module _ (more : Bool) (d : Directory) (log : List ℕ) (from : ℕ) where
  -- what is answered
  abbrev Answers : Search → Type 0
  Answers r = (r ≡ search_in more d log from) × Inside r from (length log)

  -- what is seen from a place on is what is seen from the first on
  module _ (rest : ℕ) (b : from ≤ rest) (s : search_in more d log from ≡ search_in more d log rest) where
    -- no begin tag is left
    pub seeks_nothing : ((k : ℕ) → rest ≤ k → k < length log → get_or log k 0 ≡ 1 → ⊥) → Answers Nothing
    seeks_nothing h = by (ltb rest (length log)) refl
      where
        by : (t : Bool) → ltb rest (length log) ≡ t → Answers Nothing
        by true q =
            let l : rest < length log = ltb-true rest (length log) q in
            (seek_nothing more d log (length log) (omega arith) ∙ sym (s ∙ seek_to more d log rest (length log) (omega arith) h), tt)
        by false q = (seek_nothing more d log rest (ltb-false rest (length log) q) ∙ sym s, tt)

    -- or the next stands at a place
    module _ (at : ℕ) (n : Begins log rest at) where
      here_too : search_in more d log from ≡ search_in more d log at
      here_too = s ∙ seek_to more d log rest at n.behind n.none

      pub seeks_record : (w : WholeRecord) → Ok w ≡ here d log at → Answers (Record (record { position = at; id = w.opened.record_id; end = w.end }))
      seeks_record w e =
          let i = whole-inside d log at w e in
          (seek_record more d log at n.tag w e ∙ sym here_too, (omega (arith, n.behind), i.0, i.1))

      module _ (x : Refusal) (e : Err x ≡ here d log at) where
        pub seeks_open : undecided more x ≡ true → Answers (Open at)
        seeks_open u = (seek_open more d log at n.tag x e u ∙ sym here_too, (omega (arith, n.behind), n.there))

        pub seeks_on : undecided more x ≡ false → search_in more d log from ≡ search_in more d log (at + 1)
        seeks_on u = here_too ∙ seek_on more d log at n.tag x e u

-- ---- the first of the records

is_found : (d : Directory) (log : List ℕ) (at : ℕ) → found_at d log at ≡ found_by at (here d log at)
unfolding found_at
is_found d log at = refl

module _ (d : Directory) (log : List ℕ) where
  first-from : (n at : ℕ) → search_from n false d log at ≡ first_found_of (found_from n d log at)
  unfolding search_from found_from
  first-from zero at = refl
  first-from (suc n) at = by (eqb (get_or log at 0) 1) refl (first-from n (at + 1))
    where
      checked : (w : Result WholeRecord Refusal) → search_from n false d log (at + 1) ≡ first_found_of (found_from n d log (at + 1))
          → seen false at (search_from n false d log (at + 1)) w ≡ first_found_of (by_found (found_from n d log) at (found_by at w))
      checked (Ok w) ih = refl
      checked (Err x) ih = ih

      tagged : search_from n false d log (at + 1) ≡ first_found_of (found_from n d log (at + 1))
          → seen false at (search_from n false d log (at + 1)) (here d log at) ≡ first_found_of (by_found (found_from n d log) at (found_at d log at))
      tagged ih = checked (here d log at) ih ∙ ap (λ (o : Option Found). first_found_of (by_found (found_from n d log) at o)) (sym (is_found d log at))

      by : (b : Bool) → eqb (get_or log at 0) 1 ≡ b → search_from n false d log (at + 1) ≡ first_found_of (found_from n d log (at + 1))
          → search_from (suc n) false d log at ≡ first_found_of (found_from (suc n) d log at)
      by true q ih = if_true (eqb (get_or log at 0) 1) _ _ q ∙ tagged ih
      by false q ih =
          if_false (eqb (get_or log at 0) 1) _ _ q ∙ ih
          ∙ ap (λ (o : Option Found). first_found_of (by_found (found_from n d log) at o)) (sym (untagged-none d log at (eqb-false (get_or log at 0) 1 q)))

  first_rest : (n at : ℕ) → length log - at < n → (f : Found) (fs : List Found) → found_from n d log at ≡ f ∷ fs → fs ≡ found_on d log f.end
  unfolding found_from
  first_rest zero at p f fs e = absurd (omega arith)
  first_rest (suc n) at p f fs e = by (found_at d log at) refl e (first_rest n (at + 1))
    where
      by : (o : Option Found) → found_at d log at ≡ o → by_found (found_from n d log) at o ≡ f ∷ fs
          → (length log - (at + 1) < n → (f : Found) (fs : List Found) → found_from n d log (at + 1) ≡ f ∷ fs → fs ≡ found_on d log f.end) → fs ≡ found_on d log f.end
      by none q h ih = behind (ltb at (length log)) refl
        where
          behind : (b : Bool) → ltb at (length log) ≡ b → fs ≡ found_on d log f.end
          behind true l = let k : at < length log = ltb-true at (length log) l in ih (omega arith) f fs h
          behind false l =
              let z : ◌≡◌ {A = ℕ} 0 1 = cc (sym (past d log n (at + 1) (omega (arith, ltb-false at (length log) l))) ∙ h) in
              absurd (omega arith)
      by (some g) q h ih =
          let a = found-accepted d log at g q in
          let r : found_from n d log g.end ≡ fs = cc in
          let s : g ≡ f = cc in
          sym r ∙ enough d log n (suc (length log)) g.end (omega (arith, a.forward, a.inside)) (omega (arith, a.forward, a.inside))
          ∙ ap (λ (x : Found). found_on d log x.end) s

  -- THE SEARCH FINDS THE FIRST RECORD, and the others are those behind it
  pub first_found : (at : ℕ) (f : Found) → Record f ≡ search_in false d log at → found_on d log at ≡ f ∷ found_on d log f.end
  first_found at f e = by (found_on d log at) refl (e ∙ first-from (suc (length log)) at)
    where
      by : (fs : List Found) → found_on d log at ≡ fs → Record f ≡ first_found_of fs → found_on d log at ≡ f ∷ found_on d log f.end
      by [] q h = let z : ◌≡◌ {A = ℕ} 0 1 = cc in absurd (omega arith)
      by (g ∷ gs) q h =
          let s : g ≡ f = cc in
          let r : found_on d log at ≡ f ∷ gs = q ∙ ap (λ (x : Found). x ∷ gs) s in
          r ∙ ap (λ (l : List Found). f ∷ l) (first_rest (suc (length log)) at (omega arith) f gs r)

  pub none_found : (at : ℕ) → Nothing ≡ search_in false d log at → found_on d log at ≡ []
  none_found at e = by (found_on d log at) refl (e ∙ first-from (suc (length log)) at)
    where
      by : (fs : List Found) → found_on d log at ≡ fs → Nothing ≡ first_found_of fs → found_on d log at ≡ []
      by [] q h = q
      by (g ∷ gs) q h = let z : ◌≡◌ {A = ℕ} 0 1 = cc in absurd (omega arith)

  -- a log that is whole has no open record
  pub none_open : (at p : ℕ) → Open p ≡ search_in false d log at → ⊥
  none_open at p e = by (found_on d log at) (e ∙ first-from (suc (length log)) at)
    where
      by : (fs : List Found) → Open p ≡ first_found_of fs → ⊥
      by [] h = let z : ◌≡◌ {A = ℕ} 0 1 = cc in omega arith
      by (g ∷ gs) h = let z : ◌≡◌ {A = ℕ} 0 1 = cc in omega arith
