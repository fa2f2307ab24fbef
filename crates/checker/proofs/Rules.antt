-- The rules of a checker, one by one. Assumes nothing.
use mathlib.Core.Path.{◌≡◌, refl, sym, ap, ◌∙◌}
use mathlib.Core.Bool.{Bool, true, false, true≢false, ◌||◌}
use Prim.Native.Nat.{ℕ, ◌-◌, ◌≤◌, ◌<◌}
use lib.Dec.{eqb, leb, ltb}
use borrow.Author.Tests.{leb-true, le-leb, ltb-true, lt-ltb, eqb-true, eq-eqb}
use Rattle.std.specs.Prelude.{if◌then◌else◌}
use Rattle.directory.specs.Directory.{directory_kept}
use Rattle.record.specs.Next.{step_of}
use Rattle.numbers.proofs.Laws.{both, left-of, right_of}
use Rattle.checker.specs.Check.{decides, stands_before}
use Rattle.checker.specs.Checker.{unread, waits, open_kept_of, stage_kept, checker_kept}
use Rattle.checker.specs.declared.checker.LogChecker.{LogChecker}
use Rattle.checker.specs.declared.checker.Stage.{Stage}
use Rattle.checker.specs.declared.checker.Stage.TheVariants as stage
use Rattle.replay.specs.declared.many_records.Ran.{Ran}
use Rattle.checker.specs.declared.standing.Standing.{Standing}

-- of two the second, where the first isn't
other : (a b : Bool) → a || b ≡ true → a ≡ false → b ≡ true
other true b e f = absurd (true≢false f)
other false b e f = e

one : (a b : Bool) → (a ≡ false → b ≡ true) → a || b ≡ true
one true b h = refl
one false b h = h refl

-- what holds on both ways of a choice
pub chosen : {A : Type 0} (P : A → Type 0) (b : Bool) (x y : A) → (b ≡ true → P x) → (b ≡ false → P y) → P (if b then x else y)
chosen P true x y h k = h refl
chosen P false x y h k = k refl

-- ---- where an open checker stands

pub record Before (before : ℕ) (s : Standing) : Type 0 where
  pub front : s.reader.position ≡ 0
  pub validates : s.reader.validate ≡ true
  pub counts : s.count ≤ s.start
  pub begins : s.start ≤ before
  pub between : s.reader.inside ≡ false → s.start ≡ before

module _ (before : ℕ) (s : Standing) where
  pub stands_facts : stands_before before s ≡ true → Before before s
  unfolding stands_before
  stands_facts e =
      let e2 = right_of (eqb s.reader.position 0) _ e in
      let e3 = right_of s.reader.validate _ e2 in
      let e4 = right_of (leb s.count s.start) _ e3 in
      record {
        front = eqb-true s.reader.position 0 (left-of (eqb s.reader.position 0) _ e);
        validates = left-of s.reader.validate _ e2;
        counts = leb-true s.count s.start (left-of (leb s.count s.start) _ e3);
        begins = leb-true s.start before (left-of (leb s.start before) _ e4);
        between = λ f. eqb-true s.start before (other s.reader.inside _ (right_of (leb s.start before) _ e4) f);
      }

  pub stands-kept : Before before s → stands_before before s ≡ true
  unfolding stands_before
  stands-kept k =
      both (eq-eqb s.reader.position 0 k.front)
      (both k.validates
      (both (le-leb s.count s.start k.counts)
      (both (le-leb s.start before k.begins) (one s.reader.inside _ (λ f. eq-eqb s.start before (k.between f))))))

-- ---- an open checker

pub record Open (c : LogChecker) : Type 0 where
  pub room : c.held ≤ 1043
  pub taken : c.held ≤ c.total
  pub stands : Before (c.total - c.held) c.standing
  pub waiting : waits (step_of c.directory (unread c) c.standing.reader) ≡ true

module _ (c : LogChecker) where
  pub open_facts : open_kept_of c ≡ true → Open c
  unfolding open_kept_of
  open_facts e =
      let e2 = right_of (leb c.held 1043) _ e in
      let e3 = right_of (leb c.held c.total) _ e2 in
      record {
        room = leb-true c.held 1043 (left-of (leb c.held 1043) _ e);
        taken = leb-true c.held c.total (left-of (leb c.held c.total) _ e2);
        stands = stands_facts (c.total - c.held) c.standing (left-of (stands_before (c.total - c.held) c.standing) _ e3);
        waiting = right_of (stands_before (c.total - c.held) c.standing) _ e3;
      }

  pub open_kept : Open c → open_kept_of c ≡ true
  unfolding open_kept_of
  open_kept o =
      both (le-leb c.held 1043 o.room)
      (both (le-leb c.held c.total o.taken) (both (stands-kept (c.total - c.held) c.standing o.stands) o.waiting))

  -- ---- all of them

  pub kept-directory : checker_kept c ≡ true → directory_kept c.directory ≡ true
  unfolding checker_kept
  kept-directory e = left-of (directory_kept c.directory) _ e

  pub kept-total : checker_kept c ≡ true → c.total < 9223372036854775808
  unfolding checker_kept
  kept-total e = ltb-true c.total 9223372036854775808 (left-of (ltb c.total 9223372036854775808) _ (right_of (directory_kept c.directory) _ e))

  -- its stage's rule, by the stage
  kept-stage : checker_kept c ≡ true → (g : Stage) → c.stage ≡ g → stage_kept c g ≡ true
  unfolding checker_kept
  kept-stage e g q = ap (stage_kept c) (sym q) ∙ right_of (ltb c.total 9223372036854775808) _ (right_of (directory_kept c.directory) _ e)

  pub kept_open : checker_kept c ≡ true → c.stage ≡ stage.Open → Open c
  kept_open e q = open_facts (kept-stage e stage.Open q)

  pub kept-settled : checker_kept c ≡ true → (ran : Ran) → c.stage ≡ stage.Settled ran → decides ran.answer ≡ true
  kept-settled e ran q = kept-stage e (stage.Settled ran) q

  module _ (e : directory_kept c.directory ≡ true) (f : c.total < 9223372036854775808) where
    stage_checker : (g : Stage) → c.stage ≡ g → stage_kept c g ≡ true → checker_kept c ≡ true
    unfolding checker_kept
    stage_checker g q k = both e (both (lt-ltb c.total 9223372036854775808 f) (ap (stage_kept c) q ∙ k))

    pub open_checker : c.stage ≡ stage.Open → Open c → checker_kept c ≡ true
    open_checker q o = stage_checker stage.Open q (open_kept o)

    pub settled_checker : (ran : Ran) → c.stage ≡ stage.Settled ran → decides ran.answer ≡ true → checker_kept c ≡ true
    settled_checker ran q k = stage_checker (stage.Settled ran) q k

    pub closed_checker : (ran : Ran) → c.stage ≡ stage.Closed ran → checker_kept c ≡ true
    closed_checker ran q = stage_checker (stage.Closed ran) q refl
