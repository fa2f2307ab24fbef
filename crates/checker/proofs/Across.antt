-- An action across two pieces: its first bytes were kept, and as many as it can have are put behind them. Assumes nothing.
use mathlib.Core.Path.{◌≡◌, refl, sym, ap, ◌∙◌}
use mathlib.Core.Bool.{Bool, true, false, true≢false}
use mathlib.Core.List.{List, ◌++◌}
use Prim.Native.Nat.{ℕ, ◌+◌, ◌-◌, ◌≤◌, ◌<◌}
use native.Mathlib.Omega.{arith}
use lib.ListN.{length, take, drop, take-append-drop}
use lib.Seq.{take-append-le, drop-append_seam, drop-drop}
use lib.Dec.{leb}
use borrow.Author.Tests.{leb-true, leb-false}
use Rattle.words.proofs.Choices.{if_true, if_false}
use Rattle.words.proofs.Little.{Bytes}
use Rattle.answer.specs.declared.answer.Answer.TheVariants.{Done}
use Rattle.answer.specs.declared.answer.Refusal.{Refusal}
use Rattle.directory.specs.Directory.{directory_kept}
use Rattle.directory.specs.declared.directory.Directory.{Directory}
use Rattle.record.specs.Next.{step_of}
use Rattle.record.specs.declared.reader.LogReader.{LogReader}
use Rattle.record.specs.declared.reader.Stepped.{Stepped}
use Rattle.checker.proofs.Lasting.{step-lasting, step-long}
use Rattle.record.proofs.Steps.{step_local}
use Rattle.replay.specs.declared.many_records.Ran.{Ran}
use Rattle.checker.specs.Check.{Went, Check, may_change, reading_at, went_by, onward, check_in}
use Rattle.checker.specs.Checker.{waits, answered, keeping, piece_by}
use Rattle.checker.specs.Inner.{back_reader}
use Rattle.checker.specs.declared.checker.LogChecker.{LogChecker}
use Rattle.checker.specs.declared.standing.Standing.{Standing}
use Rattle.checker.proofs.Append.{took_longer, action-goes}
use Rattle.checker.proofs.Moved.{moved_standing, moved_check, check_moved}
use Rattle.checker.proofs.Ways.{check_step, check_went}
use Rattle.std.specs.Prelude.{Result, Ok, Err, Some, None}

module _ (d : Directory) (kept : directory_kept d ≡ true) (front : List ℕ) (known : Bytes front) (more : List ℕ) (base : ℕ) (s : Standing) (fits : s.reader.position ≤ length front) where
  -- what a step with more bytes behind comes to, unless it waited
  longer : (w : Went) → went_by base s (step_of d front s.reader) ≡ w → ((k : Standing) → w ≡ Ok None → ⊥) → went_by base s (step_of d (front ++ more) s.reader) ≡ w
  longer w e no-wait = by (step_of d front s.reader) refl e
    where
      refuses : (x : Refusal) → step_of d front s.reader ≡ Err x → (b : Bool) → may_change x.answer ≡ b → went_by base s (Err x) ≡ w → went_by base s (step_of d (front ++ more) s.reader) ≡ w
      refuses x q true c f = absurd (no-wait s (sym f ∙ if_true (may_change x.answer) _ _ c))
      refuses x q false c f = ap (went_by base s) (step-lasting d kept front known s.reader x fits q c more) ∙ f

      by : (st : Result Stepped Refusal) → step_of d front s.reader ≡ st → went_by base s st ≡ w → went_by base s (step_of d (front ++ more) s.reader) ≡ w
      by (Err x) q f = refuses x q (may_change x.answer) refl f
      by (Ok t) q f = ap (went_by base s) (took_longer d front more s.reader t q) ∙ f

  pub across_settled : (ran : Ran) → Err ran ≡ went_by base s (step_of d front s.reader) → check_in d (front ++ more) base s ≡ Err ran
  across_settled ran e =
      sym (check_went d (front ++ more) base s (Err ran) (sym (longer (Err ran) (sym e) (λ k f. let z : ◌≡◌ {A = ℕ} 0 1 = cc in omega arith))))

  pub across_on : (next : Standing) → Ok (Some next) ≡ went_by base s (step_of d front s.reader) → check_in d (front ++ more) base s ≡ check_in d (front ++ more) base next
  across_on next e =
      sym (check_went d (front ++ more) base s (Ok (Some next)) (sym (longer (Ok (Some next)) (sym e) (λ k f. let z : ◌≡◌ {A = ℕ} 0 1 = cc in omega arith))))

  -- where it waits, it waits for an action that may have more bytes than are there
  pub across_waits : Ok None ≡ went_by base s (step_of d front s.reader) → (length front - s.reader.position < 1043) × (check_in d front base s ≡ Ok s)
  across_waits e = by (step_of d front s.reader) refl e
    where
      Goal : Type 0
      Goal = (length front - s.reader.position < 1043) × (check_in d front base s ≡ Ok s)

      waiting : (x : Refusal) → step_of d front s.reader ≡ Err x → (c : Bool) → may_change x.answer ≡ c → Ok None ≡ went_by base s (Err x) → Goal
      waiting x q true c f = (
        short (leb 1043 (length front - s.reader.position)) refl,
        check_step d front base s ∙ ap (λ (st : Result Stepped Refusal). onward s (check_in d front base) (went_by base s st)) q ∙ ap (onward s (check_in d front base)) (if_true (may_change x.answer) _ _ c),
      )
        where
          short : (t : Bool) → leb 1043 (length front - s.reader.position) ≡ t → length front - s.reader.position < 1043
          short true l = absurd (true≢false (sym c ∙ step-long d kept front known s.reader x fits q (leb-true 1043 (length front - s.reader.position) l)))
          short false l = leb-false 1043 (length front - s.reader.position) l
      waiting x q false c f = let z : ◌≡◌ {A = ℕ} 0 1 = cc (f ∙ if_false (may_change x.answer) _ _ c) in absurd (omega arith)

      by : (st : Result Stepped Refusal) → step_of d front s.reader ≡ st → Ok None ≡ went_by base s st → Goal
      by (Err x) q f = waiting x q (may_change x.answer) refl f
      by (Ok t) q f = absurd (action-goes base s t (sym f))

-- ---- bytes that waited are behind once an action is read

module _ (d : Directory) (unread bytes : List ℕ) (r : LogReader) (wait : waits (step_of d unread r) ≡ true) where
  -- an action that is read then ends behind them
  pub not_yet : (t : Stepped) → step_of d (unread ++ bytes) r ≡ Ok t → length unread < t.reader.position
  not_yet t e = by (leb t.reader.position (length unread)) refl
    where
      p : ℕ
      p = t.reader.position

      read : p ≤ length unread → step_of d unread r ≡ Ok t
      read l =
          let f : take p (unread ++ bytes) ++ drop p unread ≡ unread = rw (take-append-le p unread bytes l) (take-append-drop p unread) in
          ap (λ (l : List ℕ). step_of d l r) (sym f) ∙ step_local d (unread ++ bytes) r t e (drop p unread)

      by : (b : Bool) → leb p (length unread) ≡ b → length unread < p
      by true l = absurd (true≢false (sym wait ∙ ap waits (read (leb-true p (length unread) l))))
      by false l = leb-false p (length unread) l

-- ---- on in the piece itself

module _ (c : LogChecker) (d : Directory) (unread bytes : List ℕ) (base : ℕ) (next : Standing) where
  abbrev n : ℕ
  n = length unread

  abbrev joined : List ℕ
  joined = unread ++ bytes

  behind : drop n joined ≡ bytes
  behind = drop-append_seam unread bytes

  moved_piece : (k : Check) → piece_by c joined (moved_check n k) ≡ piece_by c bytes k
  moved_piece (Err r) = refl
  moved_piece (Ok s) =
      let f : drop (n + s.reader.position) joined ≡ drop s.reader.position bytes = sym (drop-drop s.reader.position n joined) ∙ ap (drop s.reader.position) behind in
      ap (λ (l : List ℕ). answered Done (keeping c s l)) f

  pub on_in_piece : n ≤ next.reader.position → next.reader.position ≤ length joined
      → piece_by c joined (check_in d joined base next) ≡ piece_by c bytes (check_in d bytes (base + n) (reading_at next (back_reader n next.reader)))
  on_in_piece l h =
      let back : Standing = reading_at next (back_reader n next.reader) in
      let z : n + (next.reader.position - n) ≡ next.reader.position = omega arith in
      let e : moved_standing n back ≡ next = ap (λ (p : ℕ). reading_at next (record { position = p; record_id = next.reader.record_id; crc32 = next.reader.crc32; validate = next.reader.validate; inside = next.reader.inside })) z in
      ap (λ (s : Standing). piece_by c joined (check_in d joined base s)) (sym e)
      ∙ ap (piece_by c joined) (check_moved d joined n base back (omega arith))
      ∙ moved_piece (check_in d (drop n joined) (base + n) back)
      ∙ ap (λ (l : List ℕ). piece_by c bytes (check_in d l (base + n) back)) behind
