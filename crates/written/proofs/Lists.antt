-- What holds of each action of a list, and of the last that says anything of a byte. Assumes nothing.
use mathlib.Core.Path.{◌≡◌, refl, sym, ap, ◌∙◌}
use mathlib.Core.Bool.{Bool, true, false}
use mathlib.Core.List.{List, [], ◌∷◌, ◌++◌, map}
use mathlib.Core.Option.{Option, none, some, or_else}
use Prim.Native.Nat.{ℕ, ◌<◌}
use native.Mathlib.Omega.{arith}
use lib.Dec.{eqb, ltb}
use borrow.Author.Tests.{ltb-true, eqb-true, eq-eqb}
use Rattle.std.specs.Prelude.{if◌then◌else◌}
use Rattle.directory.specs.declared.directory.Directory.{Directory}
use Rattle.effect.specs.Effect.{Written}
use Rattle.effect.specs.Meaning.{says, last_said}
use Rattle.effect.specs.Order.{Each}
use Rattle.numbers.proofs.Sort.{above-ascends}
use Rattle.numbers.proofs.Laws.{left-of, right_of}
use Rattle.numbers.specs.Numbers.{has, above, ascends}
use Rattle.keys.specs.Keys.{every}

-- ---- members

pub has_more : (q p : ℕ) (ps : List ℕ) → has q ps ≡ true → has q (p ∷ ps) ≡ true
has_more q p ps h = by (eqb p q) refl
  where
    by : (b : Bool) → eqb p q ≡ b → (if b then true else has q ps) ≡ true
    by true e = refl
    by false e = h

pub every-has : (f : ℕ → Bool) (ps : List ℕ) (q : ℕ) → every f ps ≡ true → has q ps ≡ true → f q ≡ true
every-has f [] q e h = let z : ◌≡◌ {A = ℕ} 0 1 = cc in absurd (omega arith)
every-has f (p ∷ ps) q e h = by (eqb p q) refl (every-has f ps q (right_of (f p) _ e))
  where
    by : (b : Bool) → eqb p q ≡ b → (has q ps ≡ true → f q ≡ true) → f q ≡ true
    by true g ih = let z : p ≡ q = eqb-true p q g in rw z at (left-of (f p) _ e)
    by false g ih = ih (rw g at h)

module _ (P : Written → Type 0) where
  pub each_append : (vs ws : List Written) → Each P vs → Each P ws → Each P (vs ++ ws)
  each_append [] ws h k = k
  each_append (v ∷ vs) ws h k = (h.0, each_append vs ws h.1 k)

  pub each_left : (vs ws : List Written) → Each P (vs ++ ws) → Each P vs
  each_left [] ws h = tt
  each_left (v ∷ vs) ws h = (h.0, each_left vs ws h.1)

  pub each_right : (vs ws : List Written) → Each P (vs ++ ws) → Each P ws
  each_right [] ws h = h
  each_right (v ∷ vs) ws h = each_right vs ws h.1

  module _ (f : ℕ → Written) where
    pub each_map : (ps : List ℕ) → ((q : ℕ) → has q ps ≡ true → P (f q)) → Each P (map f ps)
    each_map [] h = tt
    each_map (p ∷ ps) h = (h p (rw (eq-eqb p p refl)), each_map ps (λ q e. h q (has_more q p ps e)))

    pub each_at : (ps : List ℕ) (q : ℕ) → Each P (map f ps) → has q ps ≡ true → P (f q)
    each_at [] q h e = let z : ◌≡◌ {A = ℕ} 0 1 = cc in absurd (omega arith)
    each_at (p ∷ ps) q h e = by (eqb p q) refl (each_at ps q h.1)
      where
        by : (b : Bool) → eqb p q ≡ b → (has q ps ≡ true → P (f q)) → P (f q)
        by true g ih = let z : p ≡ q = eqb-true p q g in rw z at h.0
        by false g ih = ih (rw g at e)

-- ---- "no key twice"

module _ (f : ℕ → ℕ) where
  above-has : (a : ℕ) (ps : List ℕ) (q : ℕ) → above a (map f ps) ≡ true → has q ps ≡ true → a < f q
  above-has a [] q u h = let z : ◌≡◌ {A = ℕ} 0 1 = cc in absurd (omega arith)
  above-has a (p ∷ ps) q u h = by (eqb p q) refl (above-has (f p) ps q (right_of (ltb a (f p)) _ u))
    where
      low : a < f p
      low = ltb-true a (f p) (left-of (ltb a (f p)) _ u)

      by : (b : Bool) → eqb p q ≡ b → (has q ps ≡ true → f p < f q) → a < f q
      by true g ih = let z : p ≡ q = eqb-true p q g in rw z at low
      by false g ih = omega (arith, low, ih (rw g at h))

  pub once : (ps : List ℕ) (q r : ℕ) → ascends (map f ps) ≡ true → has q ps ≡ true → has r ps ≡ true → f q ≡ f r → q ≡ r
  once [] q r u h k e = let z : ◌≡◌ {A = ℕ} 0 1 = cc in absurd (omega arith)
  once (p ∷ ps) q r u h k e = by (eqb p q) refl (eqb p r) refl (once ps q r (above-ascends (f p) (map f ps) u))
    where
      by : (b : Bool) → eqb p q ≡ b → (c : Bool) → eqb p r ≡ c → (has q ps ≡ true → has r ps ≡ true → f q ≡ f r → q ≡ r) → q ≡ r
      by true a true b ih = sym (eqb-true p q a) ∙ eqb-true p r b
      by true a false b ih = let z : p ≡ q = eqb-true p q a in absurd (omega (arith, ap f z, above-has (f p) ps r u (rw b at k)))
      by false a true b ih = let z : p ≡ r = eqb-true p r b in absurd (omega (arith, ap f z, above-has (f p) ps q u (rw a at h)))
      by false a false b ih = ih (rw a at h) (rw b at k) e

-- ---- the last that says anything

module _ (d : Directory) (p : ℕ) where
  pub last-append : (vs ws : List Written) → last_said d (vs ++ ws) p ≡ or_else (last_said d ws p) (last_said d vs p)
  unfolding last_said or_else
  last-append [] ws = by (last_said d ws p)
    where
      by : (o : Option ℕ) → o ≡ or_else o none
      by none = refl
      by (some b) = refl
  last-append (v ∷ vs) ws = ap (λ (o : Option ℕ). or_else o (says d v p)) (last-append vs ws) ∙ by (last_said d ws p)
    where
      by : (o : Option ℕ) → or_else (or_else o (last_said d vs p)) (says d v p) ≡ or_else o (or_else (last_said d vs p) (says d v p))
      by none = refl
      by (some b) = refl

  -- none says anything
  pub silent : (ws : List Written) → Each (λ w. says d w p ≡ none) ws → last_said d ws p ≡ none
  unfolding last_said or_else
  silent [] h = refl
  silent (w ∷ ws) h = rw (silent ws h.1) h.0

  heard : (ws : List Written) → last_said d ws p ≡ none → Each (λ w. says d w p ≡ none) ws
  unfolding last_said or_else
  heard [] e = tt
  heard (w ∷ ws) e = by (last_said d ws p) refl (heard ws)
    where
      by : (o : Option ℕ) → last_said d ws p ≡ o → (last_said d ws p ≡ none → Each (λ w. says d w p ≡ none) ws)
          → (says d w p ≡ none) × Each (λ w. says d w p ≡ none) ws
      by none q ih = (rw q at e, ih q)
      by (some b) q ih = let z : ◌≡◌ {A = ℕ} 0 1 = cc (rw q at e) in absurd (omega arith)

  -- one says something, and each that does says b
  abbrev pub Only : ℕ → Written → Type 0
  Only b w = (c : ℕ) → says d w p ≡ some c → c ≡ b

  last_only : (b : ℕ) (ws : List Written) → Each (Only b) ws → (c : ℕ) → last_said d ws p ≡ some c → c ≡ b
  unfolding last_said or_else
  last_only b [] h c e = let z : ◌≡◌ {A = ℕ} 0 1 = cc in absurd (omega arith)
  last_only b (w ∷ ws) h c e = by (last_said d ws p) refl (last_only b ws h.1)
    where
      by : (o : Option ℕ) → last_said d ws p ≡ o → ((c : ℕ) → last_said d ws p ≡ some c → c ≡ b) → c ≡ b
      by none q ih = h.0 c (rw q at e)
      by (some x) q ih = ih c (q ∙ (rw q at e))

  pub agreed : (b : ℕ) (ws : List Written) → Each (Only b) ws → (Each (λ w. says d w p ≡ none) ws → ⊥) → last_said d ws p ≡ some b
  agreed b ws h k = by (last_said d ws p) refl
    where
      by : (o : Option ℕ) → last_said d ws p ≡ o → o ≡ some b
      by none q = absurd (k (heard ws q))
      by (some c) q = ap {B = Option ℕ} some (last_only b ws h c q)

pub none_of : (o : Option ℕ) → ((c : ℕ) → o ≡ some c → ⊥) → o ≡ none
none_of none h = refl
none_of (some c) h = absurd (h c refl)

pub not_none : {A : Type 0} {o : Option A} {b : A} → o ≡ some b → o ≡ none → ⊥
not_none e q = let z : ◌≡◌ {A = ℕ} 0 1 = cc in omega arith
