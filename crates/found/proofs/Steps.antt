-- The files found, one at a time. Assumes nothing.
use Prim.Native.Nat.{ℕ, zero, suc, ◌+◌, ◌≤◌, ◌<◌}
use mathlib.Core.Bool.{Bool, true, false, ◌||◌}
use mathlib.Core.List.{List, [], ◌∷◌, ◌++◌}
use mathlib.Core.Path.{◌≡◌, refl, sym, ap, ◌∙◌}
use native.Mathlib.Omega.{arith}
use native.Mathlib.Numerals.{add-one}
use native.Mathlib.Nat.{not-suc-le-zero, le_of_suc-le-suc}
use lib.ListN.{get_or, take, drop, length, length-take}
use lib.Seq.{take_all}
use lib.Dec.{eqb}
use borrow.Author.Tests.{eq-eqb, ne_eqb, eqb-true, eqb-false}
use Rattle.std.specs.Prelude.{if◌then◌else◌, Option, Some, None}
use Rattle.std.specs.List.{list_any}
use Rattle.std.specs.Prelude.{filter}
use Rattle.std.specs.Option.{option_eq, is_some}
use Rattle.numbers.specs.Numbers.{has, some_of}
use Rattle.found.specs.Logs.{total, removed_one, kept_one, in_front, sort_into}
use Rattle.found.specs.Found.{found_files, numbers_in, removed_in, kept_in}
use Rattle.found.specs.declared.sorted.LogFile.{LogFile}
use Rattle.found.specs.Inner.{files_in, files_left}
use Rattle.found.specs.declared.sorted.Sorted.{Sorted}
use Rattle.found.specs.declared.files.FoundFile.{FoundFile}
use Rattle.found.specs.declared.files.FoundFiles.{FoundFiles}
use Rattle.found.proofs.SortLaws.{length_sorted}

-- ---- where the names stand
pub total-next : (l : List ℕ) (i : ℕ) → i < length l → total (take (i + 1) l) ≡ total (take i l) + get_or l i 0
total-next l i h = ap (λ (m : ℕ). total (take m l)) (add-one i) ∙ by l i h
  where
    by : (l : List ℕ) (i : ℕ) → i < length l → total (take (suc i) l) ≡ total (take i l) + get_or l i 0
    by [] i h = absurd (not-suc-le-zero h)
    by (n ∷ l) zero h = omega arith
    by (n ∷ l) (suc i) h = omega (arith, by l i (le_of_suc-le-suc h))

pub total-le : (l : List ℕ) (i : ℕ) → total (take i l) ≤ total l
total-le l zero = omega arith
total-le [] (suc i) = omega arith
total-le (n ∷ l) (suc i) = omega (arith, total-le l i)

-- the lengths make up so many bytes if nothing is left of them
module _ (l : List ℕ) (i left bytes : ℕ) (e : left + total (take i l) ≡ bytes) where
  pub made_up : length l ≤ i → eqb left 0 ≡ eqb (total l) bytes
  made_up h = by (eqb left 0) refl
    where
      all : left + total l ≡ bytes
      all = ap (λ (s : List ℕ). left + total s) (sym (take_all i l h)) ∙ e

      by : (b : Bool) → eqb left 0 ≡ b → b ≡ eqb (total l) bytes
      by true f = sym (eq-eqb (total l) bytes (omega (arith, all, eqb-true left 0 f)))
      by false f = sym (ne_eqb (total l) bytes (λ g. eqb-false left 0 f (omega (arith, all))))

  pub made-short : i < length l → left < get_or l i 0 → eqb (total l) bytes ≡ false
  made-short h k = ne_eqb (total l) bytes (λ g. omega (arith, total-next l i h, total-le l (i + 1)))

-- ---- a name's number among others
abbrev pub says : ℕ → FoundFile → Bool
says n f = option_eq eqb f.number (Some n)

pub any_says : (n : ℕ) (fs : List FoundFile) → list_any (says n) fs ≡ has n (numbers_in fs)
any_says n [] = refl
any_says n (f ∷ fs) = ap (λ (b : Bool). says n f || b) (any_says n fs) ∙ by f.number
  where
    by : (t : Option ℕ) → (option_eq eqb t (Some n) || has n (numbers_in fs)) ≡ has n (some_of t ++ numbers_in fs)
    by None = refl
    by (Some v) = either (eqb v n)
      where
        either : (b : Bool) → (b || has n (numbers_in fs)) ≡ (if b then true else has n (numbers_in fs))
        either true = refl
        either false = refl

-- ---- a file more than there is room for
pub too_many : (l : List LogFile) (f : FoundFile) (k : LogFile) (fs rest all : List FoundFile) → length l ≡ 64 → fs ≡ f ∷ rest → Some k ≡ kept_one f.number f.size f.id
    → sort_into l (kept_in fs) ≡ sort_into [] (kept_in all) → 64 < length (kept_in all)
too_many l f k fs rest all e g h i =
    let a : length (kept_in fs) ≡ suc (length (kept_in rest)) = ap (λ (x : List FoundFile). length (kept_in x)) g ∙ ap (λ (o : Option LogFile). length (in_front o (kept_in rest))) (sym h) in
    omega (arith, e, a, ap length i, length_sorted l (kept_in fs), length_sorted [] (kept_in all))

pub few : (s : Sorted) → length (files_in s) ≤ 64
few s = omega (arith, length-take s.count s.files, s.room)

-- ---- those to remove
abbrev pub goes : FoundFile → Bool
goes f = is_some (removed_one f.number f.size)

pub goes_removed : (fs : List FoundFile) → length (filter goes fs) ≡ length (removed_in fs)
goes_removed [] = refl
goes_removed (f ∷ fs) = by (removed_one f.number f.size) (goes_removed fs)
  where
    by : (o : Option ℕ) → length (filter goes fs) ≡ length (removed_in fs)
        → length (if is_some o then f ∷ filter goes fs else filter goes fs) ≡ length (some_of o ++ removed_in fs)
    by None e = e
    by (Some v) e = ap suc e

found-length : (n m l h : List ℕ) → length (found_files n m l h) ≡ length m
found-length n [] l h = refl
found-length n (k ∷ m) l h = ap suc (found-length (drop k n) m (drop 1 l) (drop 9 h))

pub as_many : (s : FoundFiles) → length (files_left s) ≡ length s.name_lengths.now
as_many s = found-length s.names.now s.name_lengths.now s.lengths.now s.heads.now
