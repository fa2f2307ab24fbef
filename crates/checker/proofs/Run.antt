-- A run reports what a check of the same bytes comes to, whatever its image. Assumes nothing.
use mathlib.Core.Path.{◌≡◌, refl, sym, ap, ◌∙◌}
use mathlib.Core.Bool.{Bool, true, false}
use mathlib.Core.List.{List}
use Prim.Native.Nat.{ℕ, zero, suc, ◌+◌, ◌-◌, ◌≤◌, ◌<◌}
use native.Mathlib.Omega.{arith}
use lib.Dec.{eqb, ltb}
use lib.ListN.{length}
use Rattle.std.specs.Prelude.{if◌then◌else◌}
use Rattle.words.proofs.Choices.{if_true, if_false}
use Rattle.answer.specs.Answer.{refusal, last_record_id}
use Rattle.answer.specs.declared.answer.Answer.{Answer}
use Rattle.answer.specs.declared.answer.Answer.TheVariants.{WrongId, UsedUp, BadArgument}
use Rattle.answer.specs.declared.answer.Refusal.{Refusal}
use Rattle.directory.specs.declared.directory.Directory.{Directory}
use Rattle.record.specs.Format.{Got, stopped, got, read_at}
use Rattle.record.specs.Next.{is_end, forward_to, opened, reader_at, step_of}
use Rattle.record.specs.Record.{opening}
use Rattle.record.specs.declared.reader.LogReader.{LogReader}
use Rattle.record.specs.declared.reader.Stepped.{Stepped}
use Rattle.record.proofs.Faults.{halted}
use Rattle.record.proofs.Steps.{step-on}
use Rattle.effect.specs.Effect.{Written, apply}
use Rattle.replay.specs.Replay.{Walked, fault, walked, add_first, written_in, by_step, rest_of, record_at, tables_kept}
use Rattle.replay.specs.Run.{Outcome, by_record, run_from, run_of}
use Rattle.replay.specs.declared.many_records.Ran.{Ran}
use Rattle.replay.proofs.Answers.{unfirst}
use Rattle.replay.proofs.Opening as opening
use Rattle.replay.proofs.Places.{going}
use Rattle.replay.proofs.Records.{run-kept}
use Rattle.checker.specs.Check.{Went, may_change, report_of, reading_at, after_record, went_by, onward, check_in, first_standing}
use Rattle.checker.specs.Checker.{report_in}
use Rattle.checker.specs.declared.standing.Standing.{Standing}
use Rattle.checker.proofs.Answers.{short_of, step_waits}
use Rattle.checker.proofs.Readers.{behind}
use Rattle.checker.proofs.Ways.{check_step}
use Rattle.std.specs.Prelude.{Result, Ok, Err, None, Some}

-- ---- between records a step goes by the reader's place alone

fresh : (d : Directory) (log : List ℕ) (r : LogReader) → r.inside ≡ false → r.validate ≡ true → step_of d log r ≡ step_of d log (reader_at r.position true)
unfolding step_of forward_to
fresh d log r b v =
    ap (λ (st : Result Stepped Refusal). if ltb (length log) r.position then Err (refusal BadArgument r.position) else st)
    (if_false r.inside _ _ b ∙ ap (λ (w : Bool). opened log r (read_at (opening w) r.position log)) v ∙ by (read_at (opening true) r.position log))
  where
    by : (g : Got ℕ) → opened log r g ≡ opened log (reader_at r.position true) g
    by (stopped a) = refl
    by (got id end) = rw v

module _ (d : Directory) (log : List ℕ) where
  -- a refused step, as the check reports it
  pub refused-reports : (s : Standing) (x : Refusal) → s.reader.position ≤ length log → step_of d log s.reader ≡ Err x → report_in 0 (check_in d log 0 s) ≡ report_of s x.answer x.position
  refused-reports s x h e =
      ap (report_in 0) (check_step d log 0 s ∙ ap (λ (st : Result Stepped Refusal). onward s (check_in d log 0) (went_by 0 s st)) e) ∙ by (may_change x.answer) refl
    where
      reports : Bool → Ran
      reports b = report_in 0 (onward s (check_in d log 0) (if b then Ok None else Err (report_of s x.answer (0 + x.position))))

      by : (b : Bool) → may_change x.answer ≡ b → reports (may_change x.answer) ≡ report_of s x.answer x.position
      by true m =
          let a : short_of s.reader ≡ x.answer = step_waits d log s.reader x h e m in
          let p : 0 + s.reader.position ≡ x.position = omega (arith, (halted d log s.reader x e).place) in
          ap reports m ∙ ap (λ (y : Answer). report_of s y (0 + s.reader.position)) a ∙ ap (report_of s x.answer) p
      by false m =
          let p : 0 + x.position ≡ x.position = omega arith in
          ap reports m ∙ ap (report_of s x.answer) p

  -- ---- behind the opening

  pub rest-reports : (n : ℕ) (s : Standing) (x : Refusal) → s.reader.inside ≡ true → s.reader.position ≤ length log → length log - s.reader.position < n → rest_of n d log s.reader ≡ fault x
      → report_in 0 (check_in d log 0 s) ≡ report_of s x.answer x.position
  unfolding rest_of
  rest-reports zero s x b h few e = absurd (omega arith)
  rest-reports (suc n) s x b h few e = go (step_of d log s.reader) refl e (rest-reports n)
    where
      Next : Type 0
      Next = (s : Standing) (x : Refusal) → s.reader.inside ≡ true → s.reader.position ≤ length log → length log - s.reader.position < n → rest_of n d log s.reader ≡ fault x
          → report_in 0 (check_in d log 0 s) ≡ report_of s x.answer x.position

      by : (t : Stepped) → step_of d log s.reader ≡ Ok t → (i : Bool) → is_end t.action ≡ i → by_step log (rest_of n d log) (Ok t) ≡ fault x → Next
          → report_in 0 (check_in d log 0 s) ≡ report_of s x.answer x.position
      by t q true i f ih = let z : ◌≡◌ {A = ℕ} 0 1 = cc (sym (if_true (is_end t.action) _ _ i) ∙ f) in absurd (omega arith)
      by t q false i f ih =
          let o = step-on d log s.reader t q in
          ap (report_in 0)
          (check_step d log 0 s
          ∙ ap (λ (st : Result Stepped Refusal). onward s (check_in d log 0) (went_by 0 s st)) q
          ∙ ap (onward s (check_in d log 0)) (if_true s.reader.inside _ _ b ∙ if_false (is_end t.action) _ _ i))
          ∙ ih (reading_at s t.reader) x ((going d log s.reader t b q).stays i) o.inside (omega (arith, o.forward, o.inside))
          (unfirst (written_in log t) (rest_of n d log t.reader) x (sym (if_false (is_end t.action) _ _ i) ∙ f))

      go : (st : Result Stepped Refusal) → step_of d log s.reader ≡ st → by_step log (rest_of n d log) st ≡ fault x → Next → report_in 0 (check_in d log 0 s) ≡ report_of s x.answer x.position
      go (Err y) q f ih = let p : y ≡ x = cc in refused-reports s x h (q ∙ ap Err p)
      go (Ok t) q f ih = by t q (is_end t.action) refl f ih

  -- a standing between records
  pub record Between (s : Standing) : Type 0 where
    pub outside : s.reader.inside ≡ false
    pub validates : s.reader.validate ≡ true
    pub begins : s.start ≡ s.reader.position
    pub within : s.reader.position ≤ length log

  -- the reader behind a record that ends at `end`
  pub record Closing (end : ℕ) (r : LogReader) : Type 0 where
    pub place : r.position ≡ end
    pub outside : r.inside ≡ false
    pub validates : r.validate ≡ true

  -- behind a record no more bytes are wanted for it
  never_waits : (s : Standing) (r : LogReader) → onward s (check_in d log 0) (after_record 0 s r) ≡ onward (reading_at s r) (check_in d log 0) (after_record 0 s r)
  never_waits s r = by (eqb s.expected last_record_id)
    where
      ended : Bool → Went
      ended b = if b then Err (record { answer = UsedUp; position = 0 + r.position; count = s.count + 1; fault_at = 0 + r.position }) else Ok (Some (record { expected = s.expected + 1; start = 0 + r.position; count = s.count + 1; reader = r }))

      by : (b : Bool) → onward s (check_in d log 0) (ended b) ≡ onward (reading_at s r) (check_in d log 0) (ended b)
      by true = refl
      by false = refl

  pub rest-ends : (n : ℕ) (s : Standing) (ws : List Written) (end : ℕ) → s.reader.inside ≡ true → s.reader.validate ≡ true → rest_of n d log s.reader ≡ walked ws end
      → (r : LogReader) × (Closing end r) × (check_in d log 0 s ≡ onward (reading_at s r) (check_in d log 0) (after_record 0 s r))
  unfolding rest_of
  rest-ends zero s ws end b v e = let z : ◌≡◌ {A = ℕ} 0 1 = cc in absurd (omega arith)
  rest-ends (suc n) s ws end b v e = go (step_of d log s.reader) refl e (rest-ends n)
    where
      Goal : Type 0
      Goal = (r : LogReader) × (Closing end r) × (check_in d log 0 s ≡ onward (reading_at s r) (check_in d log 0) (after_record 0 s r))

      Next : Type 0
      Next = (s : Standing) (ws : List Written) (end : ℕ) → s.reader.inside ≡ true → s.reader.validate ≡ true → rest_of n d log s.reader ≡ walked ws end
          → (r : LogReader) × (Closing end r) × (check_in d log 0 s ≡ onward (reading_at s r) (check_in d log 0) (after_record 0 s r))

      by : (t : Stepped) → step_of d log s.reader ≡ Ok t → (i : Bool) → is_end t.action ≡ i → by_step log (rest_of n d log) (Ok t) ≡ walked ws end → Next → Goal
      by t q true i f ih =
          let g = behind d log s.reader t q in
          let p : t.reader.position ≡ end = cc (sym (if_true (is_end t.action) _ _ i) ∙ f) in (
            t.reader,
            record { place = p; outside = g.leaves b i; validates = g.validates ∙ v },
            check_step d log 0 s ∙ ap (λ (st : Result Stepped Refusal). onward s (check_in d log 0) (went_by 0 s st)) q
                ∙ ap (onward s (check_in d log 0)) (if_true s.reader.inside _ _ b ∙ if_true (is_end t.action) _ _ i) ∙ never_waits s t.reader,
          )
      by t q false i f ih = on (rest_of n d log t.reader) refl (sym (if_false (is_end t.action) _ _ i) ∙ f)
        where
          on : (g : Walked (List Written)) → rest_of n d log t.reader ≡ g → add_first (written_in log t) g ≡ walked ws end → Goal
          on (fault x) p g = let z : ◌≡◌ {A = ℕ} 0 1 = cc in absurd (omega arith)
          on (walked vs last) p g =
              let l : last ≡ end = cc in
              let k = ih (reading_at s t.reader) vs end ((going d log s.reader t b q).stays i) ((behind d log s.reader t q).validates ∙ v) (p ∙ ap (walked vs) l) in (
                k.0,
                k.1,
                check_step d log 0 s ∙ ap (λ (st : Result Stepped Refusal). onward s (check_in d log 0) (went_by 0 s st)) q
                    ∙ ap (onward s (check_in d log 0)) (if_true s.reader.inside _ _ b ∙ if_false (is_end t.action) _ _ i) ∙ k.2,
              )

      go : (st : Result Stepped Refusal) → step_of d log s.reader ≡ st → by_step log (rest_of n d log) st ≡ walked ws end → Next → Goal
      go (Err y) q f ih = let z : ◌≡◌ {A = ℕ} 0 1 = cc in absurd (omega arith)
      go (Ok t) q f ih = by t q (is_end t.action) refl f ih

  -- ---- a record

  module _ (s : Standing) (k : Between s) where
    -- the step at its opening
    opens : (st : Result Stepped Refusal) → step_of d log (reader_at s.start true) ≡ st → step_of d log s.reader ≡ st
    opens st q = fresh d log s.reader k.outside k.validates ∙ ap (λ (p : ℕ). step_of d log (reader_at p true)) (sym k.begins) ∙ q

    past : (t : Stepped) → step_of d log (reader_at s.start true) ≡ Ok t → eqb t.reader.record_id s.expected ≡ true → check_in d log 0 s ≡ check_in d log 0 (reading_at s t.reader)
    past t q i =
        check_step d log 0 s ∙ ap (λ (st : Result Stepped Refusal). onward s (check_in d log 0) (went_by 0 s st)) (opens (Ok t) q)
        ∙ ap (onward s (check_in d log 0)) (if_false s.reader.inside _ _ k.outside ∙ if_true (eqb t.reader.record_id s.expected) _ _ i)

    pub record_reports : (x : Refusal) → record_at d log s.start s.expected ≡ fault x → report_in 0 (check_in d log 0 s) ≡ report_of s x.answer x.position
    record_reports x e = go (step_of d log (reader_at s.start true)) refl
      where
        by : (t : Stepped) → step_of d log (reader_at s.start true) ≡ Ok t → (i : Bool) → eqb t.reader.record_id s.expected ≡ i → report_in 0 (check_in d log 0 s) ≡ report_of s x.answer x.position
        by t q true i =
            let o = opening.opening d log s.start t q in
            ap (report_in 0) (past t q i)
            ∙ rest-reports (suc (length log)) (reading_at s t.reader) x o.inside o.within (omega arith) (sym (opening.record_opened d log s.start s.expected t q i) ∙ e)
        by t q false i =
            let y : refusal WrongId s.start ≡ x = cc (sym (opening.record_wrong d log s.start s.expected t q i) ∙ e) in
            ap (report_in 0)
            (check_step d log 0 s ∙ ap (λ (st : Result Stepped Refusal). onward s (check_in d log 0) (went_by 0 s st)) (opens (Ok t) q)
            ∙ ap (onward s (check_in d log 0)) (if_false s.reader.inside _ _ k.outside ∙ if_false (eqb t.reader.record_id s.expected) _ _ i))
            ∙ ap (λ (z : Refusal). report_of s z.answer z.position) y

        go : (st : Result Stepped Refusal) → step_of d log (reader_at s.start true) ≡ st → report_in 0 (check_in d log 0 s) ≡ report_of s x.answer x.position
        go (Err y) q =
            let p : y ≡ x = cc (sym (opening.record_refused d log s.start s.expected y q) ∙ e) in
            refused-reports s x k.within (opens (Err y) q ∙ ap Err p)
        go (Ok t) q = by t q (eqb t.reader.record_id s.expected) refl

    pub record_ends : (ws : List Written) (end : ℕ) → record_at d log s.start s.expected ≡ walked ws end
        → (r : LogReader) × (Closing end r) × (check_in d log 0 s ≡ onward (reading_at s r) (check_in d log 0) (after_record 0 s r))
    record_ends ws end e =
        let w = opening.whole_record d log s.start s.expected ws end e in
        let o = opening.opening d log s.start w.s w.opens in
        let g = rest-ends (suc (length log)) (reading_at s w.s.reader) ws end o.inside o.validates w.rest in
        (g.0, g.1, past w.s w.opens w.id ∙ g.2)

  -- ---- the run

  runs : (n : ℕ) (s : Standing) (image : List ℕ) → Between s → length log - s.start < n → (run_from n d log s.start s.expected s.count image).ran ≡ report_in 0 (check_in d log 0 s)
  unfolding run_from
  runs zero s image k few = absurd (omega arith)
  runs (suc n) s image k few = go (record_at d log s.start s.expected) refl (runs n)
    where
      Next : Type 0
      Next = (s : Standing) (image : List ℕ) → Between s → length log - s.start < n → (run_from n d log s.start s.expected s.count image).ran ≡ report_in 0 (check_in d log 0 s)

      left : Walked (List Written) → Ran
      left g = (by_record d (run_from n d log) s.start s.expected s.count image g).ran

      place : {end : ℕ} (r : LogReader) → r.position ≡ end → 0 + r.position ≡ end
      place r e = omega arith

      ends : (ws : List Written) (end : ℕ) → record_at d log s.start s.expected ≡ walked ws end → (r : LogReader) → Closing end r → (b : Bool) → eqb s.expected last_record_id ≡ b → Next
          → left (walked ws end) ≡ report_in 0 (onward (reading_at s r) (check_in d log 0) (after_record 0 s r))
      ends ws end e r p true b ih =
          ap (λ (o : Outcome). o.ran) (if_true (eqb s.expected last_record_id) _ _ b)
          ∙ ap (λ (q : ℕ). record { answer = UsedUp; position = q; count = s.count + 1; fault_at = q }) (sym (place r p.place))
          ∙ sym (ap (λ (w : Went). report_in 0 (onward (reading_at s r) (check_in d log 0) w)) (if_true (eqb s.expected last_record_id) _ _ b))
      ends ws end e r p false b ih =
          let o = opening.record_on d log s.start s.expected ws end e in
          let next : Standing = record { expected = s.expected + 1; start = end; count = s.count + 1; reader = r } in
          ap (λ (o : Outcome). o.ran) (if_false (eqb s.expected last_record_id) _ _ b)
          ∙ ih next (apply d ws image) (record { outside = p.outside; validates = p.validates; begins = sym p.place; within = omega (arith, p.place, o.inside) }) (omega (arith, o.forward, o.inside))
          ∙ ap (λ (q : ℕ). report_in 0 (check_in d log 0 (record { expected = s.expected + 1; start = q; count = s.count + 1; reader = r }))) (sym (place r p.place))
          ∙ sym (ap (λ (w : Went). report_in 0 (onward (reading_at s r) (check_in d log 0) w)) (if_false (eqb s.expected last_record_id) _ _ b))

      go : (g : Walked (List Written)) → record_at d log s.start s.expected ≡ g → Next → left (record_at d log s.start s.expected) ≡ report_in 0 (check_in d log 0 s)
      go (fault x) e ih = ap left e ∙ sym (record_reports s k x e)
      go (walked ws end) e ih =
          let g = record_ends s k ws end e in
          ap left e ∙ ends ws end e g.0 g.1 (eqb s.expected last_record_id) refl ih ∙ sym (ap (report_in 0) g.2)

  -- A RUN FROM THE FRONT REPORTS WHAT A CHECK COMES TO: no image has a say in it
  pub run-reports : (first : ℕ) (image : List ℕ) → tables_kept d image ≡ true → (run_of d log 0 first image).ran ≡ report_in 0 (check_in d log 0 (first_standing first))
  run-reports first image kept =
      ap (λ (o : Outcome). o.ran) (run-kept d log 0 first image kept)
      ∙ runs (suc (length log)) (first_standing first) image (record { outside = refl; validates = refl; begins = refl; within = omega arith }) (omega arith)
