-- Where a refused record is at fault (document 02, "Five. Where is it broken?"). Assumes nothing.
use mathlib.Core.Path.{◌≡◌, refl, sym, ap, ◌∙◌}
use mathlib.Core.Bool.{Bool, true, false, true≢false}
use mathlib.Core.List.{List, [], ◌∷◌, append-nil}
use Prim.Native.Nat.{ℕ, zero, suc, ◌+◌, ◌-◌, ◌≤◌, ◌<◌}
use native.Mathlib.Omega.{arith}
use lib.Dec.{eqb, ltb}
use lib.ListN.{length, take}
use lib.Seq.{length-take-le}
use borrow.Author.Tests.{eq-eqb, ne_eqb, eqb-false, le-ltb}
use Rattle.words.specs.Words.{little_at}
use Rattle.words.proofs.Choices.{if_true, if_false}
use Rattle.checksum.specs.Checksum.{updated, finished}
use Rattle.answer.specs.Answer.{refusal}
use Rattle.answer.specs.declared.answer.Answer.TheVariants.{EndOfLog, Cut, WrongId, WrongSum}
use Rattle.answer.specs.declared.answer.Refusal.{Refusal}
use Rattle.directory.specs.declared.directory.Directory.{Directory}
use Rattle.record.specs.Fault.{inside_fault, opening_fault, NotWhole}
use Rattle.record.specs.Format.{Got, stopped, got, read_at}
use Rattle.record.specs.Next.{is_end, reader_at, refused, stepped, opened, step_of}
use Rattle.record.specs.Record.{Item, inside}
use Rattle.record.specs.declared.reader.LogReader.{LogReader}
use Rattle.record.specs.declared.reader.Stepped.{Stepped}
use Rattle.record.proofs.Begins.{begun}
use Rattle.record.proofs.Faults as faults
use Rattle.record.proofs.Formats.{unfinished}
use Rattle.record.proofs.Parts.{tested, inside-short, opening-short}
use Rattle.record.proofs.Steps.{step-on}
use Rattle.effect.specs.Effect.{Written}
use Rattle.replay.specs.Fault.{AtFault, beyond, no_record, at-opening, at-begin, at-end, at-action, cut_there}
use Rattle.replay.specs.Replay.{Walked, fault, written_in, add_first, by_step, rest_of, rest_in, by_opening, record_at, tables_kept}
use Rattle.replay.specs.Run.{Outcome, run_of, Chain, chain_end, chain_more, Stops, refuses, used-up}
use Rattle.replay.proofs.Answers.{unfirst}
use Rattle.replay.proofs.Cut.{step_cut}
use Rattle.replay.proofs.CutLog.{run-exactly}
use Rattle.replay.proofs.Ends.{summing, inside-sum}
use Rattle.replay.proofs.Opening as opening
use Rattle.replay.proofs.Opening.{record_on}
use Rattle.replay.proofs.Places.{going}
use Rattle.replay.proofs.Rest.{enough}
use Rattle.replay.proofs.Stop.{stop_is}
use Rattle.replay.proofs.Sum.{inside-step}
use Rattle.std.specs.Prelude.{Result, Ok, Err}

-- ---- 2: an action that is begun and not whole, whoever reads it

-- validating only adds a refusal with 8
unsummed : (register at : ℕ) (log : List ℕ) (g : Got Item) → summing register at log g ≡ stopped Cut → g ≡ stopped Cut
unsummed register at log (stopped a) e = e
unsummed register at log (got i end) e = by (is_end i.action) refl
  where
    held : (b : Bool) → tested b (got i end) WrongSum ≡ stopped Cut → got i end ≡ stopped Cut
    held true q = q
    held false q = let z : ◌≡◌ {A = ℕ} 0 1 = cc in absurd (omega arith)

    by : (b : Bool) → is_end i.action ≡ b → got i end ≡ stopped Cut
    by true q = held (eqb (little_at 4 log (at + 1)) (finished (updated register (4 ∷ [])))) (sym (if_true (is_end i.action) _ _ q) ∙ e)
    by false q = sym (if_false (is_end i.action) _ _ q) ∙ e

module _ (d : Directory) (log : List ℕ) where
  any_reader : (validate : Bool) (register at : ℕ) → read_at (inside d validate register) at log ≡ stopped Cut → (v : Bool) (other : ℕ) → read_at (inside d v other) at log ≡ stopped Cut
  any_reader validate register at e v other = up v
    where
      plainly : (w : Bool) → read_at (inside d w register) at log ≡ stopped Cut → (k : ℕ) → read_at (inside d false k) at log ≡ stopped Cut
      plainly true q k = unsummed register at log (read_at (inside d false k) at log) (sym (inside-sum d register k at log) ∙ q)
      plainly false q k =
          unsummed 0 at log (read_at (inside d false k) at log)
          (sym (inside-sum d 0 k at log) ∙ inside-sum d 0 register at log ∙ ap (summing 0 at log) q)

      up : (w : Bool) → read_at (inside d w other) at log ≡ stopped Cut
      up true = inside-sum d other 0 at log ∙ ap (summing other at log) (plainly validate e 0)
      up false = plainly validate e other

  not_whole : (validate : Bool) (register at : ℕ) → at ≤ length log → read_at (inside d validate register) at log ≡ stopped Cut → NotWhole d log at
  not_whole validate register at l e v other more i end q = unfinished (inside d v other) at log Cut l (any_reader validate register at e v other) more i end q

-- ---- the walk up to the fault

-- where the fault of a walk lies, what stands there, and that the walk gets there
record Found (d : Directory) (log : List ℕ) (at expected n : ℕ) (r : LogReader) (x : Refusal) : Type 0 where
  low : r.position ≤ x.position
  high : x.position ≤ length log
  stands : AtFault d log at expected x
  first : rest_of n d (take x.position log) r ≡ fault (refusal Cut x.position)

module _ (d : Directory) (log : List ℕ) (at expected : ℕ) where
  -- the log that ends where the reader stands
  bare : (n p : ℕ) (r : LogReader) → r.inside ≡ true → p ≡ r.position → p ≤ length log → rest_of n d (take p log) r ≡ fault (refusal Cut p)
  unfolding rest_of
  bare zero p r b e h = ap {B = Walked (List Written)} (λ (k : ℕ). fault (refusal Cut k)) (sym e)
  bare (suc n) p r b e h =
      let l : length (take p log) ≡ p = length-take-le p log h in
      ap (by_step (take p log) (rest_of n d (take p log)))
      (inside-step d (take p log) r b (omega arith)
      ∙ ap (stepped (take p log) r) (inside-short r.position (take p log) d r.validate r.crc32 (omega arith))
      ∙ ap (refused Cut) (sym e))

  found_here : (n : ℕ) (r : LogReader) (x : Refusal) → at < r.position → r.inside ≡ true → r.position ≤ length log → step_of d log r ≡ Err x → Found d log at expected (suc n) r x
  found_here n r x lies b h e = by t.why
    where
      t : faults.Halted d log r x
      t = faults.halted d log r x e

      bounds : AtFault d log at expected x → Found d log at expected (suc n) r x
      bounds s = record { low = omega (arith, t.place); high = omega (arith, t.place); stands = s; first = bare (suc n) x.position r b t.place (omega (arith, t.place)) }

      told : read_at (inside d r.validate r.crc32) r.position log ≡ stopped x.answer → faults.Told inside_fault Cut log r.position x.answer → Found d log at expected (suc n) r x
      told q (faults.no_byte p a) = bounds (at-end a (t.place ∙ p) (omega (arith, t.place)))
      told q (faults.by-tag l a) =
          bounds
          (at-action (rw t.place a)
          (λ c. rw t.place (not_whole d log r.validate r.crc32 r.position h (q ∙ ap stopped c)))
          (omega (arith, t.place)) (omega (arith, t.place)))

      by : faults.Why d log r x.answer → Found d log at expected (suc n) r x
      by (faults.beyond l a) = absurd (omega arith)
      by (faults.in_record c l q) = told q (faults.told-inside log r.position h x.answer d r.validate r.crc32 q)
      by (faults.at-opening c l q) = absurd (true≢false (sym b ∙ c))

  found : (n : ℕ) (r : LogReader) (x : Refusal) → length log - r.position < n → at < r.position → r.inside ≡ true → r.position ≤ length log → rest_of n d log r ≡ fault x
      → Found d log at expected n r x
  unfolding rest_of
  found zero r x few lies b h e = absurd (omega arith)
  found (suc n) r x few lies b h e = go (step_of d log r) refl e (found n)
    where
      Next : Type 0
      Next = (k : LogReader) (x : Refusal) → length log - k.position < n → at < k.position → k.inside ≡ true → k.position ≤ length log → rest_of n d log k ≡ fault x
          → Found d log at expected n k x

      behind : (s : Stepped) → step_of d log r ≡ Ok s → is_end s.action ≡ false → Found d log at expected n s.reader x → Found d log at expected (suc n) r x
      behind s q t f =
          let o = step-on d log r s q in
          let short : List ℕ = take x.position log in
          let c : step_of d short r ≡ Ok s = ap (λ (l : List ℕ). step_of d l r) (sym (append-nil short)) ∙ step_cut d log [] x.position f.high r s q f.low in
          record {
            low = omega (arith, o.forward, f.low);
            high = f.high;
            stands = f.stands;
            first = ap (by_step short (rest_of n d short)) c ∙ if_false (is_end s.action) _ _ t ∙ ap (add_first (written_in short s)) f.first;
          }

      by : (s : Stepped) → step_of d log r ≡ Ok s → (t : Bool) → is_end s.action ≡ t → by_step log (rest_of n d log) (Ok s) ≡ fault x → Next → Found d log at expected (suc n) r x
      by s q true t f ih = let z : ◌≡◌ {A = ℕ} 0 1 = cc (sym (if_true (is_end s.action) _ _ t) ∙ f) in absurd (omega arith)
      by s q false t f ih =
          let o = step-on d log r s q in
          behind s q t
          (ih s.reader x (omega (arith, o.forward, o.inside)) (omega (arith, o.forward)) ((going d log r s b q).stays t) o.inside
          (unfirst (written_in log s) (rest_of n d log s.reader) x (sym (if_false (is_end s.action) _ _ t) ∙ f)))

      go : (st : Result Stepped Refusal) → step_of d log r ≡ st → by_step log (rest_of n d log) st ≡ fault x → Next → Found d log at expected (suc n) r x
      go (Err y) q f ih = let p : y ≡ x = cc in found_here n r x lies b h (q ∙ ap Err p)
      go (Ok s) q f ih = by s q (is_end s.action) refl f ih

-- ---- the record

-- where a record's fault lies if it starts within the log, what stands there, and what the log cut there answers
record Placed (d : Directory) (log : List ℕ) (at expected : ℕ) (x : Refusal) : Type 0 where
  stands : AtFault d log at expected x
  lies : at ≤ length log → (at ≤ x.position) × (x.position ≤ length log)
  first : at ≤ length log → record_at d (take x.position log) at expected ≡ fault (cut_there at x.position)

-- where the log ends no record opens
no-opening : (d : Directory) (log : List ℕ) (at : ℕ) → length log ≡ at → step_of d log (reader_at at true) ≡ refused EndOfLog at
unfolding step_of
no-opening d log at e =
    if_false (ltb (length log) at) _ _ (le-ltb (length log) at (omega arith)) ∙ ap (opened log (reader_at at true)) (opening-short at log true (omega arith))

module _ (d : Directory) (log : List ℕ) (at expected : ℕ) (x : Refusal) where
  -- told where the record starts
  at-start : x.position ≡ at → AtFault d log at expected x → Placed d log at expected x
  at-start p s =
      record {
        stands = s;
        lies = λ h. (omega arith, omega arith);
        first = λ h.
            opening.record_refused d (take x.position log) at expected (refusal EndOfLog at)
            (no-opening d (take x.position log) at (length-take-le x.position log (omega arith) ∙ p))
            ∙ ap {B = Walked (List Written)} (λ (k : ℕ). fault (refusal EndOfLog k)) (sym p)
            ∙ ap {B = Walked (List Written)} fault (sym (if_true (eqb x.position at) _ _ (eq-eqb x.position at p)));
      }

  -- told behind the opening
  at-opened : (s : Stepped) → step_of d log (reader_at at true) ≡ Ok s → eqb s.reader.record_id expected ≡ true → Found d log at expected (suc (length log)) s.reader x
      → Placed d log at expected x
  at-opened s q i f =
      let o = step-on d log (reader_at at true) s q in
      let short : List ℕ = take x.position log in
      let l : length short ≡ x.position = length-take-le x.position log f.high in
      let c : step_of d short (reader_at at true) ≡ Ok s =
      ap (λ (l : List ℕ). step_of d l (reader_at at true)) (sym (append-nil short)) ∙ step_cut d log [] x.position f.high (reader_at at true) s q f.low in
      record {
        stands = f.stands;
        lies = λ h. (omega (arith, o.forward, f.low), f.high);
        first = λ h.
            opening.record_opened d short at expected s c i
            ∙ enough d short (suc (length short)) (suc (length log)) s.reader (omega arith) (omega (arith, f.high))
            ∙ f.first
            ∙ ap {B = Walked (List Written)} fault (sym (if_false (eqb x.position at) _ _ (ne_eqb x.position at (λ z. omega (arith, o.forward, f.low)))));
      }

  placed : record_at d log at expected ≡ fault x → Placed d log at expected x
  unfolding record_at
  placed e = go (step_of d log (reader_at at true)) refl e
    where
      by : (s : Stepped) → step_of d log (reader_at at true) ≡ Ok s → (t : Bool) → eqb s.reader.record_id expected ≡ t → by_opening at expected (rest_in d log) (Ok s) ≡ fault x
          → Placed d log at expected x
      by s q true t f =
          let o = opening.opening d log at s q in
          let l = step-on d log (reader_at at true) s q in
          at-opened s q t
          (found d log at expected (suc (length log)) s.reader x (omega arith) l.forward o.inside o.within (sym (if_true (eqb s.reader.record_id expected) _ _ t) ∙ f))
      by s q false t f =
          let y : refusal WrongId at ≡ x = cc (sym (if_false (eqb s.reader.record_id expected) _ _ t) ∙ f) in
          let b = begun d log at true s q in
          let l = step-on d log (reader_at at true) s q in
          let p : x.position ≡ at = sym (ap (λ (z : Refusal). z.position) y) in
          at-start p
          (at-begin (sym (ap (λ (z : Refusal). z.answer) y)) b.tag
          (λ z. eqb-false s.reader.record_id expected t (b.there ∙ z)) p (omega (arith, l.forward, l.inside)))

      told : x.position ≡ at → at ≤ length log → faults.Told opening_fault EndOfLog log at x.answer → Placed d log at expected x
      told p h (faults.no_byte l a) = at-start p (no_record a p l)
      told p h (faults.by-tag l a) = at-start p (at-opening a p l)

      why : x.position ≡ at → faults.Why d log (reader_at at true) x.answer → Placed d log at expected x
      why p (faults.beyond l a) = record { stands = beyond a p l; lies = λ h. absurd (omega arith); first = λ h. absurd (omega arith) }
      why p (faults.in_record c l q) = absurd (true≢false (sym c))
      why p (faults.at-opening c l q) = told p l (faults.told-opening log at l x.answer true q)

      go : (st : Result Stepped Refusal) → step_of d log (reader_at at true) ≡ st → by_opening at expected (rest_in d log) st ≡ fault x → Placed d log at expected x
      go (Err y) q f =
          let p : y ≡ x = cc in
          let t = faults.halted d log (reader_at at true) x (q ∙ ap Err p) in
          why t.place t.why
      go (Ok s) q f = by s q (eqb s.reader.record_id expected) refl f

  -- WHERE A REFUSED RECORD IS AT FAULT, AND WHAT STANDS THERE: the byte is the one that the answer speaks of
  pub fault-stands : record_at d log at expected ≡ fault x → AtFault d log at expected x
  fault-stands e = (placed e).stands

  -- it lies between the record's start and the log's end
  pub fault-lies : at ≤ length log → record_at d log at expected ≡ fault x → (at ≤ x.position) × (x.position ≤ length log)
  fault-lies h e = (placed e).lies h

  -- and everything up to it was read without refusal: the log cut there is refused only for having no more bytes
  pub fault-first : at ≤ length log → record_at d log at expected ≡ fault x → record_at d (take x.position log) at expected ≡ fault (cut_there at x.position)
  fault-first h e = (placed e).first h

-- ---- the run

chain_in : {d : Directory} {log : List ℕ} {at expected : ℕ} {rs : List (List Written)} {end : ℕ} → Chain d log at expected rs end → at ≤ length log → end ≤ length log
chain_in chain_end h = h
chain_in {d} {log} {at} {expected} (chain_more {ws = ws} {mid = mid} e c) h = chain_in c (record_on d log at expected ws mid e).inside

-- A RUN'S FAULT lies between the record that it didn't replay and the log's end
pub run_lies : (d : Directory) (log : List ℕ) (at first : ℕ) (image : List ℕ) → tables_kept d image ≡ true → at ≤ length log
    → ((run_of d log at first image).ran.position ≤ (run_of d log at first image).ran.fault_at) × ((run_of d log at first image).ran.fault_at ≤ length log)
run_lies d log at first image kept h = by (run_of d log at first image) (stop_is d log first at image kept) (chain_in (run-exactly d log at first image kept).stand h)
  where
    by : (o : Outcome) → Stops d log first o → o.ran.position ≤ length log → (o.ran.position ≤ o.ran.fault_at) × (o.ran.fault_at ≤ length log)
    by o (refuses x e a p) l = rw p (fault-lies d log o.ran.position (first + o.ran.count) x l e)
    by o (used-up e a p) l = rw p (omega arith, l)
