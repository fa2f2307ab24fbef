-- What holds of every format: it is read within the log, it looks at its own bytes alone, and two in a row are the one and then the other.
-- Assumes nothing.
use mathlib.Core.Path.{◌≡◌, refl, sym, ap, ◌∙◌}
use mathlib.Core.Bool.{Bool, true, false}
use mathlib.Core.List.{List, ◌++◌}
use Prim.Native.Nat.{ℕ, ◌+◌, ◌-◌, ◌≤◌, ◌<◌}
use native.Mathlib.Nat.{add_assoc}
use native.Mathlib.Omega.{arith}
use lib.Dec.{ltb, leb}
use lib.ListN.{length, take, drop, length-append, length-drop, take-append-drop}
use lib.Seq.{drop-drop, length-take-le, take-append-le, drop-append-le, take-take}
use borrow.Author.Tests.{ltb-false, lt-ltb, le-ltb, leb-true, leb-false}
use Rattle.words.proofs.Cut.{drop_take}
use Rattle.record.specs.Format.{Format, need, refuse, give, Got, stopped, got, read_at, ◌>>=◌}
use Rattle.answer.specs.declared.answer.Answer.{Answer}

-- ---- a need, met or not

module _ {A : Type 0} (k : ℕ) (short : Answer) (f : List ℕ → Format A) (at : ℕ) (log : List ℕ) where
  pub need-short : length log - at < k → read_at (need k short f) at log ≡ stopped short
  unfolding read_at
  need-short h = rw (lt-ltb (length log - at) k h)

  pub need_met : k ≤ length log - at → read_at (need k short f) at log ≡ read_at (f (take k (drop at log))) (at + k) log
  unfolding read_at
  need_met h = rw (le-ltb (length log - at) k h)

module _ {A : Type 0} where
  pub read-give : (a : A) (at : ℕ) (log : List ℕ) → read_at (give a) at log ≡ got a at
  unfolding read_at
  read-give a at log = refl

  pub read-refuse : (answer : Answer) (at : ℕ) (log : List ℕ) → read_at {A = A} (refuse answer) at log ≡ stopped answer
  unfolding read_at
  read-refuse answer at log = refl

-- ---- one format after the other

abbrev pub onward : {A B : Type 0} → Got A → (A → ℕ → Got B) → Got B
onward (stopped answer) g = stopped answer
onward (got a end) g = g a end

pub read_bind : {A B : Type 0} (f : Format A) (g : A → Format B) (at : ℕ) (log : List ℕ)
    → read_at (f >>= g) at log ≡ onward (read_at f at log) (λ a end. read_at (g a) end log)
unfolding read_at
read_bind (need k short f) g at log = go (read_bind (f (take k (drop at log))) g (at + k) log) (ltb (length log - at) k) refl
  where
    go : read_at (f (take k (drop at log)) >>= g) (at + k) log ≡ onward (read_at (f (take k (drop at log))) (at + k) log) (λ a end. read_at (g a) end log)
        → (t : Bool) → ltb (length log - at) k ≡ t → read_at (need k short f >>= g) at log ≡ onward (read_at (need k short f) at log) (λ a end. read_at (g a) end log)
    go ih true q = rw q
    go ih false q = rw q ih
read_bind (refuse answer) g at log = refl
read_bind (give a) g at log = refl

-- ---- where a format ends

pub record Within (at end : ℕ) (log : List ℕ) : Type 0 where
  pub behind : at ≤ end
  pub inside : end ≤ length log

pub within : {A : Type 0} (f : Format A) (at : ℕ) (log : List ℕ) (a : A) (end : ℕ) → at ≤ length log → read_at f at log ≡ got a end → Within at end log
unfolding read_at
within {A} (need k short f) at log a end h e = go (within (f (take k (drop at log))) (at + k) log a end) (ltb (length log - at) k) refl
  where
    go : (at + k ≤ length log → read_at (f (take k (drop at log))) (at + k) log ≡ got a end → Within (at + k) end log)
        → (t : Bool) → ltb (length log - at) k ≡ t → Within at end log
    go ih true q = let z : ◌≡◌ {A = ℕ} 0 1 = cc (rw q at e) in absurd (omega arith)
    go ih false q =
        let m : k ≤ length log - at = ltb-false (length log - at) k q in
        let w : Within (at + k) end log = ih (omega arith) (rw q at e) in
        record { behind = omega (arith, w.behind); inside = w.inside }
within (refuse answer) at log a end h e = let z : ◌≡◌ {A = ℕ} 0 1 = cc in absurd (omega arith)
within {A} (give b) at log a end h e =
    let q : at ≡ end = cc in
    record { behind = omega arith; inside = omega arith }

-- a first need is behind
pub within-need : {A : Type 0} (k : ℕ) (short : Answer) (f : List ℕ → Format A) (at : ℕ) (log : List ℕ) (a : A) (end : ℕ) → at ≤ length log
    → read_at (need k short f) at log ≡ got a end → at + k ≤ end
unfolding read_at
within-need {A} k short f at log a end h e = go (ltb (length log - at) k) refl
  where
    go : (t : Bool) → ltb (length log - at) k ≡ t → at + k ≤ end
    go true q = let z : ◌≡◌ {A = ℕ} 0 1 = cc (rw q at e) in absurd (omega arith)
    go false q =
        let m : k ≤ length log - at = ltb-false (length log - at) k q in
        (within (f (take k (drop at log))) (at + k) log a end (omega arith) (rw q at e)).behind

-- ---- nothing behind its bytes matters

pub same-part : (k at end : ℕ) (log more : List ℕ) → end ≤ length log → at + k ≤ end → take k (drop at (take end log ++ more)) ≡ take k (drop at log)
same-part k at end log more h m =
    let l : length (take end log) ≡ end = length-take-le end log h in
    let b : at ≤ length (take end log) = omega arith in
    let c : k ≤ length (drop at (take end log)) = rw (length-drop, l) (omega arith) in
    rw (drop-append-le at (take end log) more b, take-append-le k (drop at (take end log)) more c, drop_take, take-take k (end - at) (drop at log) (omega arith))

pub local : {A : Type 0} (f : Format A) (at : ℕ) (log : List ℕ) (a : A) (end : ℕ) → at ≤ length log → read_at f at log ≡ got a end
    → (more : List ℕ) → read_at f at (take end log ++ more) ≡ got a end
unfolding read_at
local {A} (need k short f) at log a end h e more = go (local (f (take k (drop at log))) (at + k) log a end) (ltb (length log - at) k) refl
  where
    go : (at + k ≤ length log → read_at (f (take k (drop at log))) (at + k) log ≡ got a end → (more : List ℕ) → read_at (f (take k (drop at log))) (at + k) (take end log ++ more) ≡ got a end)
        → (t : Bool) → ltb (length log - at) k ≡ t → read_at (need k short f) at (take end log ++ more) ≡ got a end
    go ih true q = let z : ◌≡◌ {A = ℕ} 0 1 = cc (rw q at e) in absurd (omega arith)
    go ih false q =
        let m : k ≤ length log - at = ltb-false (length log - at) k q in
        let e' : read_at (f (take k (drop at log))) (at + k) log ≡ got a end = rw q at e in
        let w : Within (at + k) end log = within (f (take k (drop at log))) (at + k) log a end (omega arith) e' in
        let l : length (take end log) ≡ end = length-take-le end log w.inside in
        let b : at ≤ end = omega (arith, w.behind) in
        let n : ltb (length (take end log ++ more) - at) k ≡ false = le-ltb (length (take end log ++ more) - at) k (simp length-append (omega (arith, w.behind, l))) in
        let s : take k (drop at (take end log ++ more)) ≡ take k (drop at log) = same-part k at end log more w.inside w.behind in
        rw (n, s) (ih (omega arith) e' more)
local (refuse answer) at log a end h e more = let z : ◌≡◌ {A = ℕ} 0 1 = cc in absurd (omega arith)
local {A} (give b) at log a end h e more = e

-- where a format refuses, one that is read with more bytes behind the log ends beyond the log's end
pub unfinished : {A : Type 0} (f : Format A) (at : ℕ) (log : List ℕ) (answer : Answer) → at ≤ length log → read_at f at log ≡ stopped answer
    → (more : List ℕ) (a : A) (end : ℕ) → read_at f at (log ++ more) ≡ got a end → length log < end
unfinished {A} f at log answer h e more a end q = by (leb end (length log)) refl
  where
    again : end ≤ length log → read_at f at log ≡ got a end
    again l =
        let b : at ≤ length (log ++ more) = simp length-append (omega arith) in
        let c : take end (log ++ more) ++ drop end log ≡ log = rw (take-append-le end log more l) (take-append-drop end log) in
        ap (read_at f at) (sym c) ∙ local f at (log ++ more) a end b q (drop end log)

    by : (b : Bool) → leb end (length log) ≡ b → length log < end
    by true t = let z : ◌≡◌ {A = ℕ} 0 1 = cc (sym (again (leb-true end (length log) t)) ∙ e) in absurd (omega arith)
    by false t = leb-false end (length log) t

-- ---- nor anything before its position

abbrev pub moved : {A : Type 0} → ℕ → Got A → Got A
moved n (stopped answer) = stopped answer
moved n (got a end) = got a (n + end)

pub from : {A : Type 0} (f : Format A) (n at : ℕ) (log : List ℕ) → read_at f (n + at) log ≡ moved n (read_at f at (drop n log))
unfolding read_at
from {A} (need k short f) n at log =
    go (from (f (take k (drop at (drop n log)))) n (at + k) log) (ltb (length (drop n log) - at) k) refl
  where
    left : length log - (n + at) ≡ length (drop n log) - at
    left = rw length-drop (omega arith)

    go : read_at (f (take k (drop at (drop n log)))) (n + (at + k)) log ≡ moved n (read_at (f (take k (drop at (drop n log)))) (at + k) (drop n log))
        → (t : Bool) → ltb (length (drop n log) - at) k ≡ t → read_at (need k short f) (n + at) log ≡ moved n (read_at (need k short f) at (drop n log))
    go ih true q = rw (left, q)
    go ih false q = rw (left, q, ← drop-drop at n log, add_assoc) ih
from (refuse answer) n at log = refl
from (give a) n at log = refl

-- ---- the first of two formats refuses, or gives

module _ {A B : Type 0} (f : Format A) (g : A → Format B) (at : ℕ) (log : List ℕ) where
  pub then_stop : (answer : Answer) → stopped answer ≡ read_at f at log → stopped answer ≡ read_at (f >>= g) at log
  then_stop answer e = sym (read_bind f g at log ∙ ap (λ (x : Got A). onward x (λ a end. read_at (g a) end log)) (sym e))

  pub then_got : (a : A) (end : ℕ) → got a end ≡ read_at f at log → read_at (g a) end log ≡ read_at (f >>= g) at log
  then_got a end e = sym (read_bind f g at log ∙ ap (λ (x : Got A). onward x (λ a end. read_at (g a) end log)) (sym e))
