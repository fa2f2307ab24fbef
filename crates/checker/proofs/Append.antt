-- A check of bytes with more bytes behind them: what was settled stays, and what waited goes on from where it waited. Assumes nothing.
use mathlib.Core.Path.{◌≡◌, refl, sym, ap, ◌∙◌}
use mathlib.Core.Bool.{Bool, true, false}
use mathlib.Core.List.{List, ◌++◌, append_assoc}
use Prim.Native.Nat.{ℕ, zero, suc, ◌-◌, ◌≤◌, ◌<◌}
use native.Mathlib.Omega.{arith}
use lib.Dec.{eqb}
use lib.ListN.{length, take, drop, take-append-drop}
use Rattle.std.specs.Prelude.{if◌then◌else◌}
use Rattle.words.proofs.Choices.{if_true, if_false}
use Rattle.words.proofs.Little.{Bytes}
use Rattle.answer.specs.Answer.{last_record_id}
use Rattle.answer.specs.declared.answer.Refusal.{Refusal}
use Rattle.directory.specs.Directory.{directory_kept}
use Rattle.directory.specs.declared.directory.Directory.{Directory}
use Rattle.record.specs.Next.{is_end, step_of}
use Rattle.record.specs.declared.reader.LogReader.{LogReader}
use Rattle.record.specs.declared.reader.Stepped.{Stepped}
use Rattle.checker.proofs.Lasting.{step-lasting}
use Rattle.record.proofs.Steps.{step_local}
use Rattle.replay.specs.declared.many_records.Ran.{Ran}
use Rattle.checker.specs.Check.{Went, Check, may_change, reading_at, after_record, after_action, went_by, onward, check_on, check_in}
use Rattle.checker.specs.declared.standing.Standing.{Standing}
use Rattle.checker.proofs.Ways.{step-forward, check_step}
use Rattle.std.specs.Prelude.{Result, Ok, Err, Some, None}

-- ---- behind an action nothing is waited for

not_waiting : (b : Bool) (s : Standing) (r : Ran) → ◌≡◌ {A = Went} (if b then Err r else Ok (Some s)) (Ok None) → ⊥
not_waiting true s r e = let z : ◌≡◌ {A = ℕ} 0 1 = cc in omega arith
not_waiting false s r e = let z : ◌≡◌ {A = ℕ} 0 1 = cc in omega arith

not_waiting-on : (b : Bool) (s : Standing) (r : Ran) → ◌≡◌ {A = Went} (if b then Ok (Some s) else Err r) (Ok None) → ⊥
not_waiting-on true s r e = let z : ◌≡◌ {A = ℕ} 0 1 = cc in omega arith
not_waiting-on false s r e = let z : ◌≡◌ {A = ℕ} 0 1 = cc in omega arith

pub action-goes : (base : ℕ) (s : Standing) (t : Stepped) → after_action base s t ≡ Ok None → ⊥
action-goes base s t e = by s.reader.inside refl
  where
    inside : (b : Bool) → ◌≡◌ {A = Went} (if b then after_record base s t.reader else Ok (Some (reading_at s t.reader))) (Ok None) → ⊥
    inside true q = not_waiting (eqb s.expected last_record_id) _ _ q
    inside false q = let z : ◌≡◌ {A = ℕ} 0 1 = cc in omega arith

    by : (b : Bool) → s.reader.inside ≡ b → ⊥
    by true b = inside (is_end t.action) (sym (if_true s.reader.inside _ _ b) ∙ e)
    by false b = not_waiting-on (eqb t.reader.record_id s.expected) _ _ (sym (if_false s.reader.inside _ _ b) ∙ e)

-- ---- more bytes

-- on from where a check waited
abbrev pub resumed : (Standing → Check) → Check → Check
resumed on (Ok s) = on s
resumed on (Err r) = Err r

pub took_longer : (d : Directory) (log more : List ℕ) (r : LogReader) (t : Stepped) → step_of d log r ≡ Ok t → step_of d (log ++ more) r ≡ Ok t
took_longer d log more r t e =
    let p : ℕ = t.reader.position in
    let f : take p log ++ (drop p log ++ more) ≡ log ++ more = sym (append_assoc (take p log) (drop p log) more) ∙ ap (λ (l : List ℕ). l ++ more) (take-append-drop p log) in
    ap (λ (l : List ℕ). step_of d l r) (sym f) ∙ step_local d log r t e (drop p log ++ more)

module _ (d : Directory) (kept : directory_kept d ≡ true) (log : List ℕ) (known : Bytes log) (more : List ℕ) (base : ℕ) where
  append : (n : ℕ) (s : Standing) → length log - s.reader.position < n → s.reader.position ≤ length log
      → check_in d (log ++ more) base s ≡ resumed (check_in d (log ++ more) base) (check_on n d log base s)
  unfolding check_on
  append zero s few h = absurd (omega arith)
  append (suc n) s few h = by (step_of d log s.reader) refl (append n)
    where
      Next : Type 0
      Next = (s : Standing) → length log - s.reader.position < n → s.reader.position ≤ length log → check_in d (log ++ more) base s ≡ resumed (check_in d (log ++ more) base) (check_on n d log base s)

      -- what is made of a step of the shorter log
      left : Result Stepped Refusal → Check
      left st = resumed (check_in d (log ++ more) base) (onward s (check_on n d log base) (went_by base s st))

      refuses : (x : Refusal) → step_of d log s.reader ≡ Err x → (b : Bool) → may_change x.answer ≡ b → check_in d (log ++ more) base s ≡ left (Err x)
      refuses x q true c = sym (ap (λ (w : Went). resumed (check_in d (log ++ more) base) (onward s (check_on n d log base) w)) (if_true (may_change x.answer) _ _ c))
      refuses x q false c =
          check_step d (log ++ more) base s
          ∙ ap (λ (st : Result Stepped Refusal). onward s (check_in d (log ++ more) base) (went_by base s st)) (step-lasting d kept log known s.reader x h q c more)
          ∙ ap (onward s (check_in d (log ++ more) base)) (if_false (may_change x.answer) _ _ c)
          ∙ sym (ap (λ (w : Went). resumed (check_in d (log ++ more) base) (onward s (check_on n d log base) w)) (if_false (may_change x.answer) _ _ c))

      goes : (t : Stepped) → step_of d log s.reader ≡ Ok t → Next → (w : Went) → after_action base s t ≡ w
          → onward s (check_in d (log ++ more) base) w ≡ resumed (check_in d (log ++ more) base) (onward s (check_on n d log base) w)
      goes t q ih (Ok (Some next)) e =
          let o = step-forward d log base s next (ap (went_by base s) q ∙ e) in
          ih next (omega (arith, o.forward, o.inside)) o.inside
      goes t q ih (Ok None) e = absurd (action-goes base s t e)
      goes t q ih (Err r) e = refl

      by : (st : Result Stepped Refusal) → step_of d log s.reader ≡ st → Next → check_in d (log ++ more) base s ≡ left (step_of d log s.reader)
      by (Err x) q ih = refuses x q (may_change x.answer) refl ∙ sym (ap left q)
      by (Ok t) q ih =
          check_step d (log ++ more) base s
          ∙ ap (λ (st : Result Stepped Refusal). onward s (check_in d (log ++ more) base) (went_by base s st)) (took_longer d log more s.reader t q)
          ∙ goes t q ih (after_action base s t) refl
          ∙ sym (ap left q)

  pub check_append : (s : Standing) → s.reader.position ≤ length log → check_in d (log ++ more) base s ≡ resumed (check_in d (log ++ more) base) (check_in d log base s)
  check_append s h = append (suc (length log)) s (omega arith) h
