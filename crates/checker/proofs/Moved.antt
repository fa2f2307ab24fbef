-- The same check with n bytes less in front of it. Assumes nothing.
use mathlib.Core.Path.{◌≡◌, refl, sym, ap, ◌∙◌}
use mathlib.Core.Bool.{Bool, true, false}
use mathlib.Core.List.{List}
use Prim.Native.Nat.{ℕ, zero, suc, ◌+◌, ◌≤◌}
use native.Mathlib.Omega.{arith}
use lib.Dec.{eqb}
use lib.ListN.{length, drop, length-drop}
use Rattle.std.specs.Prelude.{if◌then◌else◌}
use Rattle.answer.specs.Answer.{last_record_id}
use Rattle.answer.specs.declared.answer.Answer.TheVariants.{WrongId, UsedUp}
use Rattle.directory.specs.declared.directory.Directory.{Directory}
use Rattle.record.specs.Next.{step_of}
use Rattle.record.specs.declared.reader.LogReader.{LogReader}
use Rattle.checker.proofs.Seen.{moved_reader, Seen, halts, goes, seen, moved_seen, seen-moved}
use Rattle.checker.specs.Check.{Went, Check, may_change, report_of, reading_at, after_record, after_opening, went_by, onward, check_on, check_in}
use Rattle.checker.specs.declared.standing.Standing.{Standing}
use Rattle.checker.proofs.Ways.{step-forward, check_enough}
use Rattle.std.specs.Prelude.{Result, Ok, Err, Some, None}
use Rattle.record.specs.declared.reader.Stepped.{Stepped}
use Rattle.answer.specs.declared.answer.Refusal.{Refusal}

abbrev pub moved_standing : ℕ → Standing → Standing
moved_standing n s = reading_at s (moved_reader n s.reader)

abbrev moved_went : ℕ → Went → Went
moved_went n (Ok (Some s)) = Ok (Some (moved_standing n s))
moved_went n (Ok None) = Ok None
moved_went n (Err r) = Err r

abbrev pub moved_check : ℕ → Check → Check
moved_check n (Ok s) = Ok (moved_standing n s)
moved_check n (Err r) = Err r

-- a step of a check goes by what is seen of the reader's
abbrev went_seen_lem : ℕ → Standing → Seen → Went
went_seen_lem base s (halts x) = if may_change x.answer then Ok None else Err (report_of s x.answer (base + x.position))
went_seen_lem base s (goes e r) = if s.reader.inside then if e then after_record base s r else Ok (Some (reading_at s r)) else after_opening s r

went_seen : (base : ℕ) (s : Standing) (st : Result Stepped Refusal) → went_by base s st ≡ went_seen_lem base s (seen st)
went_seen base s (Err x) = refl
went_seen base s (Ok t) = refl

module _ (n base : ℕ) (s : Standing) where
  record_moved : (r : LogReader) → after_record base (moved_standing n s) (moved_reader n r) ≡ moved_went n (after_record (base + n) s r)
  record_moved r = by (eqb s.expected last_record_id) (omega arith)
    where
      ends : ℕ → Went
      ends p = Err (record { answer = UsedUp; position = p; count = s.count + 1; fault_at = p })

      goes_on : ℕ → Went
      goes_on p = Ok (Some (record { expected = s.expected + 1; start = p; count = s.count + 1; reader = moved_reader n r }))

      by : (b : Bool) → base + (n + r.position) ≡ base + n + r.position
          → (if b then ends (base + (n + r.position)) else goes_on (base + (n + r.position)))
          ≡ moved_went n (if b then ends (base + n + r.position) else Ok (Some (record { expected = s.expected + 1; start = base + n + r.position; count = s.count + 1; reader = r })))
      by true z = ap ends z
      by false z = ap goes_on z

  opening-moved : (r : LogReader) → after_opening (moved_standing n s) (moved_reader n r) ≡ moved_went n (after_opening s r)
  opening-moved r = by (eqb r.record_id s.expected)
    where
      by : (b : Bool) → (if b then Ok (Some (reading_at s (moved_reader n r))) else Err (report_of s WrongId s.start)) ≡ moved_went n (if b then Ok (Some (reading_at s r)) else Err (report_of s WrongId s.start))
      by true = refl
      by false = refl

  seen_went : (y : Seen) → went_seen_lem base (moved_standing n s) (moved_seen n y) ≡ moved_went n (went_seen_lem (base + n) s y)
  seen_went (halts x) = by (may_change x.answer) (omega arith)
    where
      by : (b : Bool) → base + (n + x.position) ≡ base + n + x.position
          → (if b then Ok None else Err (report_of s x.answer (base + (n + x.position)))) ≡ moved_went n (if b then Ok None else Err (report_of s x.answer (base + n + x.position)))
      by true z = refl
      by false z = ap (λ (p : ℕ). Err (report_of s x.answer p)) z
  seen_went (goes e r) = by s.reader.inside e
    where
      by : (b e : Bool) → (if b then if e then after_record base (moved_standing n s) (moved_reader n r) else Ok (Some (reading_at s (moved_reader n r))) else after_opening (moved_standing n s) (moved_reader n r))
          ≡ moved_went n (if b then if e then after_record (base + n) s r else Ok (Some (reading_at s r)) else after_opening s r)
      by true true = record_moved r
      by true false = refl
      by false e = opening-moved r

module _ (d : Directory) (log : List ℕ) (n base : ℕ) where
  on-moved : (k : ℕ) (s : Standing) → n + s.reader.position ≤ length log → check_on k d log base (moved_standing n s) ≡ moved_check n (check_on k d (drop n log) (base + n) s)
  unfolding check_on
  on-moved zero s h = refl
  on-moved (suc k) s h =
      ap (onward (moved_standing n s) (check_on k d log base))
      (went_seen base (moved_standing n s) (step_of d log (moved_reader n s.reader))
      ∙ ap (went_seen_lem base (moved_standing n s)) (seen-moved n log d s.reader h)
      ∙ seen_went n base s (seen (step_of d (drop n log) s.reader))
      ∙ ap (moved_went n) (sym (went_seen (base + n) s (step_of d (drop n log) s.reader))))
      ∙ by (went_by (base + n) s (step_of d (drop n log) s.reader)) refl (on-moved k)
    where
      by : (w : Went) → went_by (base + n) s (step_of d (drop n log) s.reader) ≡ w
          → ((s : Standing) → n + s.reader.position ≤ length log → check_on k d log base (moved_standing n s) ≡ moved_check n (check_on k d (drop n log) (base + n) s))
          → onward (moved_standing n s) (check_on k d log base) (moved_went n w) ≡ moved_check n (onward s (check_on k d (drop n log) (base + n)) w)
      by (Ok (Some next)) e ih =
          let o = step-forward d (drop n log) (base + n) s next e in
          ih next (omega (arith, rw length-drop at o.inside))
      by (Ok None) e ih = refl
      by (Err r) e ih = refl

  pub check_moved : (s : Standing) → n + s.reader.position ≤ length log → check_in d log base (moved_standing n s) ≡ moved_check n (check_in d (drop n log) (base + n) s)
  check_moved s h =
      on-moved (suc (length log)) s h
      ∙ ap (moved_check n) (check_enough d (drop n log) (base + n) (suc (length log)) (suc (length (drop n log))) s (rw length-drop (omega arith)) (omega arith))
