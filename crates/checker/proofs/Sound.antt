-- Where a check waits: it stands as it should, and reading on is refused with 1 or 2. Where it is settled the answer is another. Assumes nothing.
use mathlib.Core.Path.{◌≡◌, refl, sym, ap, ◌∙◌, subst}
use mathlib.Core.Bool.{Bool, true, false, true≢false}
use mathlib.Core.List.{List}
use Prim.Native.Nat.{ℕ, zero, suc, ◌+◌, ◌-◌, ◌≤◌, ◌<◌}
use native.Mathlib.Omega.{arith}
use lib.Dec.{eqb}
use lib.ListN.{length}
use Rattle.std.specs.Prelude.{if◌then◌else◌}
use Rattle.words.proofs.Choices.{if_true, if_false}
use Rattle.answer.specs.Answer.{last_record_id}
use Rattle.answer.specs.declared.answer.Answer.TheVariants.{WrongId, UsedUp}
use Rattle.directory.specs.declared.directory.Directory.{Directory}
use Rattle.record.specs.Next.{is_end, step_of}
use Rattle.record.specs.declared.reader.LogReader.{LogReader}
use Rattle.record.specs.declared.reader.Stepped.{Stepped}
use Rattle.replay.specs.declared.many_records.Ran.{Ran}
use Rattle.replay.proofs.Places.{going}
use Rattle.checker.specs.Check.{Went, may_change, decides, reading_at, report_of, after_record, after_opening, after_action, went_by, onward, check_on, check_in}
use Rattle.checker.specs.Checker.{waits}
use Rattle.checker.specs.Inner.{Sound, Stands}
use Rattle.checker.specs.declared.standing.Standing.{Standing}
use Rattle.checker.proofs.Answers.{step-decides}
use Rattle.checker.proofs.Append.{action-goes}
use Rattle.checker.proofs.Readers.{behind}
use Rattle.checker.proofs.Ways.{never_on, Forward, step-forward}
use Rattle.std.specs.Prelude.{Result, Ok, Err, Some, None}
use Rattle.answer.specs.declared.answer.Refusal.{Refusal}

module _ (d : Directory) (log : List ℕ) (base : ℕ) where
  pub went_sound : (s next : Standing) → Sound base s → went_by base s (step_of d log s.reader) ≡ Ok (Some next) → Sound base next
  went_sound s next k e = by (step_of d log s.reader) refl e
    where
      o : Forward log s next
      o = step-forward d log base s next e

      old : (r : LogReader) → r.inside ≡ true → r.validate ≡ true → ◌≡◌ {A = Went} (Ok (Some (reading_at s r))) (Ok (Some next)) → Sound base next
      old r i v q =
          let p : reading_at s r ≡ next = cc in
          let a : s.start ≡ next.start = ap (λ (x : Standing). x.start) p in
          let b : s.count ≡ next.count = ap (λ (x : Standing). x.count) p in
          let j : next.reader.inside ≡ true = sym (ap (λ (x : Standing). x.reader.inside) p) ∙ i in
          record {
            validates = sym (ap (λ (x : Standing). x.reader.validate) p) ∙ v;
            begins = omega (arith, k.begins, o.forward);
            counts = omega (arith, k.counts);
            between = λ f. absurd (true≢false (sym j ∙ f));
          }

      ended : (b : Bool) (r : LogReader) (ran : Ran) → r.validate ≡ true
          → (if b then Err ran else Ok (Some (record { expected = s.expected + 1; start = base + r.position; count = s.count + 1; reader = r }))) ≡ Ok (Some next) → Sound base next
      ended true r ran v q = let z : ◌≡◌ {A = ℕ} 0 1 = cc in absurd (omega arith)
      ended false r ran v q =
          let p : record { expected = s.expected + 1; start = base + r.position; count = s.count + 1; reader = r } ≡ next = cc in
          let a : base + r.position ≡ next.start = ap (λ (x : Standing). x.start) p in
          let b : s.count + 1 ≡ next.count = ap (λ (x : Standing). x.count) p in
          let c : r.position ≡ next.reader.position = ap (λ (x : Standing). x.reader.position) p in
          record {
            validates = sym (ap (λ (x : Standing). x.reader.validate) p) ∙ v;
            begins = omega arith;
            counts = omega (arith, k.begins, k.counts, o.forward);
            between = λ f. omega arith;
          }

      opened : (b : Bool) (r : LogReader) (ran : Ran) → r.inside ≡ true → r.validate ≡ true → (if b then Ok (Some (reading_at s r)) else Err ran) ≡ Ok (Some next) → Sound base next
      opened true r ran i v q = old r i v q
      opened false r ran i v q = let z : ◌≡◌ {A = ℕ} 0 1 = cc in absurd (omega arith)

      inside : (t : Stepped) → step_of d log s.reader ≡ Ok t → s.reader.inside ≡ true → (b : Bool) → is_end t.action ≡ b
          → (if b then after_record base s t.reader else Ok (Some (reading_at s t.reader))) ≡ Ok (Some next) → Sound base next
      inside t q i true b f = ended (eqb s.expected last_record_id) t.reader _ ((behind d log s.reader t q).validates ∙ k.validates) f
      inside t q i false b f = old t.reader ((going d log s.reader t i q).stays b) ((behind d log s.reader t q).validates ∙ k.validates) f

      either : (t : Stepped) → step_of d log s.reader ≡ Ok t → (b : Bool) → s.reader.inside ≡ b → after_action base s t ≡ Ok (Some next) → Sound base next
      either t q true b f = inside t q b (is_end t.action) refl (sym (if_true s.reader.inside _ _ b) ∙ f)
      either t q false b f =
          let g = behind d log s.reader t q in
          opened (eqb t.reader.record_id s.expected) t.reader _ (g.enters b) (g.validates ∙ k.validates) (sym (if_false s.reader.inside _ _ b) ∙ f)

      by : (st : Result Stepped Refusal) → step_of d log s.reader ≡ st → went_by base s st ≡ Ok (Some next) → Sound base next
      by (Err x) q f = absurd (never_on (may_change x.answer) next _ f)
      by (Ok t) q f = either t q s.reader.inside refl f

  pub went_stands : (s next : Standing) → Stands log base s → went_by base s (step_of d log s.reader) ≡ Ok (Some next) → Stands log base next
  went_stands s next k e = record { within = (step-forward d log base s next e).inside; sound = went_sound s next k.sound e; fits = k.fits }

  -- ---- where it waits

  pub record Waits (s : Standing) : Type 0 where
    pub sound : Sound base s
    pub within : s.reader.position ≤ length log
    pub refused : waits (step_of d log s.reader) ≡ true

  waits-on : (n : ℕ) (s last : Standing) → Sound base s → s.reader.position ≤ length log → length log - s.reader.position < n → check_on n d log base s ≡ Ok last → Waits last
  unfolding check_on
  waits-on zero s last k h few e = absurd (omega arith)
  waits-on (suc n) s last k h few e = by (went_by base s (step_of d log s.reader)) refl e (waits-on n)
    where
      Next : Type 0
      Next = (s last : Standing) → Sound base s → s.reader.position ≤ length log → length log - s.reader.position < n → check_on n d log base s ≡ Ok last → Waits last

      here : (st : Result Stepped Refusal) → step_of d log s.reader ≡ st → went_by base s st ≡ Ok None → waits st ≡ true
      here (Ok t) q f = absurd (action-goes base s t f)
      here (Err x) q f = refused (may_change x.answer) refl
        where
          refused : (b : Bool) → may_change x.answer ≡ b → may_change x.answer ≡ true
          refused true m = m
          refused false m = let z : ◌≡◌ {A = ℕ} 0 1 = cc (sym (if_false (may_change x.answer) _ _ m) ∙ f) in absurd (omega arith)

      by : (w : Went) → went_by base s (step_of d log s.reader) ≡ w → onward s (check_on n d log base) w ≡ Ok last → Next → Waits last
      by (Ok (Some next)) q f ih =
          let o = step-forward d log base s next q in
          ih next last (went_sound s next k q) o.inside (omega (arith, o.forward, o.inside)) f
      by (Ok None) q f ih =
          let same : s ≡ last = cc in
          subst Waits same (record { sound = k; within = h; refused = here (step_of d log s.reader) refl q })
      by (Err r) q f ih = let z : ◌≡◌ {A = ℕ} 0 1 = cc in absurd (omega arith)

  pub check_waits : (s last : Standing) → Sound base s → s.reader.position ≤ length log → check_in d log base s ≡ Ok last → Waits last
  check_waits s last k h e = waits-on (suc (length log)) s last k h (omega arith) e

  -- ---- where it is settled

  went_settles : (s : Standing) (st : Result Stepped Refusal) → step_of d log s.reader ≡ st → s.reader.position ≤ length log → (ran : Ran) → went_by base s st ≡ Err ran → decides ran.answer ≡ true
  went_settles s (Err x) q h ran e = by (may_change x.answer) refl
    where
      by : (b : Bool) → may_change x.answer ≡ b → decides ran.answer ≡ true
      by true m = let z : ◌≡◌ {A = ℕ} 0 1 = cc (sym (if_true (may_change x.answer) _ _ m) ∙ e) in absurd (omega arith)
      by false m =
          let f : ◌≡◌ {A = Went} (Err (report_of s x.answer (base + x.position))) (Err ran) = sym (if_false (may_change x.answer) _ _ m) ∙ e in
          let p : report_of s x.answer (base + x.position) ≡ ran = cc in
          sym (ap (λ (r : Ran). decides r.answer) p) ∙ step-decides d log s.reader x h q m
  went_settles s (Ok t) q h ran e = by s.reader.inside (is_end t.action) e
    where
      ended : (b : Bool) → ◌≡◌ {A = Went} (if b then Err (record { answer = UsedUp; position = base + t.reader.position; count = s.count + 1; fault_at = base + t.reader.position }) else Ok (Some (record { expected = s.expected + 1; start = base + t.reader.position; count = s.count + 1; reader = t.reader }))) (Err ran) → decides ran.answer ≡ true
      ended true f =
          let p : record { answer = UsedUp; position = base + t.reader.position; count = s.count + 1; fault_at = base + t.reader.position } ≡ ran = cc in
          sym (ap (λ (r : Ran). decides r.answer) p)
      ended false f = let z : ◌≡◌ {A = ℕ} 0 1 = cc in absurd (omega arith)

      opened : (b : Bool) → ◌≡◌ {A = Went} (if b then Ok (Some (reading_at s t.reader)) else Err (report_of s WrongId s.start)) (Err ran) → decides ran.answer ≡ true
      opened true f = let z : ◌≡◌ {A = ℕ} 0 1 = cc in absurd (omega arith)
      opened false f =
          let p : report_of s WrongId s.start ≡ ran = cc in
          sym (ap (λ (r : Ran). decides r.answer) p)

      by : (b i : Bool) → (if b then if i then after_record base s t.reader else Ok (Some (reading_at s t.reader)) else after_opening s t.reader) ≡ Err ran → decides ran.answer ≡ true
      by true true f = ended (eqb s.expected last_record_id) f
      by true false f = let z : ◌≡◌ {A = ℕ} 0 1 = cc in absurd (omega arith)
      by false i f = opened (eqb t.reader.record_id s.expected) f

  settles_on : (n : ℕ) (s : Standing) → s.reader.position ≤ length log → (ran : Ran) → check_on n d log base s ≡ Err ran → decides ran.answer ≡ true
  unfolding check_on
  settles_on zero s h ran e = let z : ◌≡◌ {A = ℕ} 0 1 = cc in absurd (omega arith)
  settles_on (suc n) s h ran e = by (went_by base s (step_of d log s.reader)) refl e (settles_on n)
    where
      by : (w : Went) → went_by base s (step_of d log s.reader) ≡ w → onward s (check_on n d log base) w ≡ Err ran
          → ((s : Standing) → s.reader.position ≤ length log → (ran : Ran) → check_on n d log base s ≡ Err ran → decides ran.answer ≡ true) → decides ran.answer ≡ true
      by (Ok (Some next)) q f ih = ih next (step-forward d log base s next q).inside ran f
      by (Ok None) q f ih = let z : ◌≡◌ {A = ℕ} 0 1 = cc in absurd (omega arith)
      by (Err r) q f ih = let p : r ≡ ran = cc in went_settles s (step_of d log s.reader) refl h ran (q ∙ ap Err p)

  -- with 3 to 12
  pub check_settles : (s : Standing) → s.reader.position ≤ length log → (ran : Ran) → check_in d log base s ≡ Err ran → decides ran.answer ≡ true
  check_settles s h ran e = settles_on (suc (length log)) s h ran e
