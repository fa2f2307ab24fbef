-- A check, a step at a time. Assumes nothing.
use mathlib.Core.Path.{◌≡◌, refl, sym, ap, ◌∙◌}
use mathlib.Core.Bool.{Bool, true, false}
use mathlib.Core.List.{List}
use Prim.Native.Nat.{ℕ, zero, suc, ◌-◌, ◌≤◌, ◌<◌}
use native.Mathlib.Omega.{arith}
use lib.Dec.{eqb}
use lib.ListN.{length}
use Rattle.std.specs.Prelude.{if◌then◌else◌}
use Rattle.words.proofs.Choices.{if_true, if_false}
use Rattle.answer.specs.Answer.{last_record_id}
use Rattle.directory.specs.declared.directory.Directory.{Directory}
use Rattle.record.specs.Next.{is_end, step_of}
use Rattle.record.specs.declared.reader.LogReader.{LogReader}
use Rattle.record.specs.declared.reader.Stepped.{Stepped}
use Rattle.record.proofs.Steps.{step-on}
use Rattle.replay.specs.declared.many_records.Ran.{Ran}
use Rattle.checker.specs.Check.{Went, Check, may_change, reading_at, after_record, after_action, went_by, onward, check_on, check_in}
use Rattle.checker.specs.declared.standing.Standing.{Standing}
use Rattle.std.specs.Prelude.{Result, Ok, Err, Some, None}
use Rattle.answer.specs.declared.answer.Refusal.{Refusal}

-- ---- where a step that goes on leaves the reader

reader-of : (s t : Standing) → ◌≡◌ {A = Went} (Ok (Some s)) (Ok (Some t)) → s.reader ≡ t.reader
reader-of s t e = let p : s ≡ t = cc in ap (λ (x : Standing). x.reader) p

-- a choice between going on and not
chosen : (b : Bool) (s t : Standing) (r : Ran) → ◌≡◌ {A = Went} (if b then Err r else Ok (Some s)) (Ok (Some t)) → s.reader ≡ t.reader
chosen true s t r e = let z : ◌≡◌ {A = ℕ} 0 1 = cc in absurd (omega arith)
chosen false s t r e = reader-of s t e

chosen_on : (b : Bool) (s t : Standing) (r : Ran) → ◌≡◌ {A = Went} (if b then Ok (Some s) else Err r) (Ok (Some t)) → s.reader ≡ t.reader
chosen_on true s t r e = reader-of s t e
chosen_on false s t r e = let z : ◌≡◌ {A = ℕ} 0 1 = cc in absurd (omega arith)

pub never_on : (b : Bool) (t : Standing) (r : Ran) → ◌≡◌ {A = Went} (if b then Ok None else Err r) (Ok (Some t)) → ⊥
never_on true t r e = let z : ◌≡◌ {A = ℕ} 0 1 = cc in omega arith
never_on false t r e = let z : ◌≡◌ {A = ℕ} 0 1 = cc in omega arith

module _ (base : ℕ) (s : Standing) where
  pub action-reader : (t : Stepped) (next : Standing) → after_action base s t ≡ Ok (Some next) → t.reader ≡ next.reader
  action-reader t next e = by s.reader.inside refl
    where
      inside : (b : Bool) → (if b then after_record base s t.reader else Ok (Some (reading_at s t.reader))) ≡ Ok (Some next) → t.reader ≡ next.reader
      inside true q = chosen (eqb s.expected last_record_id) _ next _ q
      inside false q = reader-of (reading_at s t.reader) next q

      by : (b : Bool) → s.reader.inside ≡ b → t.reader ≡ next.reader
      by true b = inside (is_end t.action) (sym (if_true s.reader.inside _ _ b) ∙ e)
      by false b = chosen_on (eqb t.reader.record_id s.expected) _ next _ (sym (if_false s.reader.inside _ _ b) ∙ e)

-- a step goes forward within the bytes
pub record Forward (log : List ℕ) (s next : Standing) : Type 0 where
  pub forward : s.reader.position < next.reader.position
  pub inside : next.reader.position ≤ length log

pub step-forward : (d : Directory) (log : List ℕ) (base : ℕ) (s next : Standing) → went_by base s (step_of d log s.reader) ≡ Ok (Some next) → Forward log s next
step-forward d log base s next e = by (step_of d log s.reader) refl e
  where
    by : (st : Result Stepped Refusal) → step_of d log s.reader ≡ st → went_by base s st ≡ Ok (Some next) → Forward log s next
    by (Err x) q f = absurd (never_on (may_change x.answer) next _ f)
    by (Ok t) q f =
        let o = step-on d log s.reader t q in
        let r = action-reader base s t next f in
        let p : t.reader.position ≡ next.reader.position = ap (λ (k : LogReader). k.position) r in
        record { forward = omega (arith, o.forward); inside = omega (arith, o.inside) }

-- ---- the bound on the steps is never met

onward-same : (s : Standing) (f g : Standing → Check) (w : Went) → ((t : Standing) → w ≡ Ok (Some t) → f t ≡ g t) → onward s f w ≡ onward s g w
onward-same s f g (Ok (Some t)) e = e t refl
onward-same s f g (Ok None) e = refl
onward-same s f g (Err r) e = refl

module _ (d : Directory) (log : List ℕ) (base : ℕ) where
  pub check_enough : (n m : ℕ) (s : Standing) → length log - s.reader.position < n → length log - s.reader.position < m → check_on n d log base s ≡ check_on m d log base s
  unfolding check_on
  check_enough zero m s p q = absurd (omega arith)
  check_enough (suc n) zero s p q = absurd (omega arith)
  check_enough (suc n) (suc m) s p q =
      onward-same s (check_on n d log base) (check_on m d log base) (went_by base s (step_of d log s.reader))
      (λ next e. let o = step-forward d log base s next e in check_enough n m next (omega (arith, o.forward, o.inside)) (omega (arith, o.forward, o.inside)))

  -- so a check is one step, and the check from there
  pub check_step : (s : Standing) → check_in d log base s ≡ onward s (check_in d log base) (went_by base s (step_of d log s.reader))
  unfolding check_on
  check_step s =
      onward-same s (check_on (length log) d log base) (check_in d log base) (went_by base s (step_of d log s.reader))
      (λ next e. let o = step-forward d log base s next e in check_enough (length log) (suc (length log)) next (omega (arith, o.forward, o.inside)) (omega (arith, o.forward, o.inside)))

  pub check_went : (s : Standing) (w : Went) → w ≡ went_by base s (step_of d log s.reader) → onward s (check_in d log base) w ≡ check_in d log base s
  check_went s w e = ap (onward s (check_in d log base)) e ∙ sym (check_step s)
