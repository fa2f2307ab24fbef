-- A record's opening, and the record behind it. Assumes nothing.
use mathlib.Core.Path.{◌≡◌, refl, sym, ap, ◌∙◌}
use mathlib.Core.Bool.{Bool, true, false, true≢false}
use mathlib.Core.List.{List}
use Prim.Native.Nat.{ℕ, suc, ◌-◌, ◌≤◌, ◌<◌}
use native.Mathlib.Omega.{arith}
use lib.Dec.{eqb}
use lib.ListN.{length, take, drop}
use Rattle.words.proofs.Choices.{if_true, if_false}
use Rattle.checksum.specs.Checksum.{all_ones, updated}
use Rattle.directory.specs.declared.directory.Directory.{Directory}
use Rattle.record.specs.Next.{forward_to, beginning, reader_at, opening_of, step_of}
use Rattle.answer.specs.Answer.{refusal}
use Rattle.answer.specs.declared.answer.Answer.TheVariants.{WrongId}
use Rattle.answer.specs.declared.answer.Refusal.{Refusal}
use Rattle.record.specs.declared.reader.LogReader.{LogReader}
use Rattle.record.specs.declared.reader.Stepped.{Stepped}
use Rattle.record.proofs.Steps.{Read, within_record, at-opening, taken, step-opens, step-on}
use Rattle.effect.specs.Effect.{Written}
use Rattle.replay.specs.Inner.{Opened}
use Rattle.replay.specs.Replay.{fault, walked, rest_of, by_opening, record_at}
use Rattle.replay.proofs.Places.{EndsIn, ends_in}
use Rattle.std.specs.Prelude.{Result, Ok, Err}

module _ (d : Directory) (log : List ℕ) (at : ℕ) where
  opened-read : {s : Stepped} → at < s.reader.position → s.reader.position ≤ length log → Read d log (reader_at at true) s → Opened log at s.reader
  unfolding forward_to
  opened-read {s} l k (within_record b i end q f) = absurd (true≢false (sym b))
  opened-read {s} l k (at-opening b id end q f) =
      let r : LogReader = forward_to log (beginning (reader_at at true) id) end in
      let p : s.reader ≡ r = cc in
      let e : s.reader.position ≡ end = ap (λ (x : LogReader). x.position) p in
      record {
        inside = ap (λ (x : LogReader). x.inside) p;
        validates = ap (λ (x : LogReader). x.validate) p;
        behind = omega arith;
        within = k;
        sum = ap (λ (x : LogReader). x.crc32) p ∙ ap (λ (n : ℕ). updated all_ones (take (n - at) (drop at log))) (sym e);
      }

  -- what `open` answers is the step there
  pub opens_at : (r : LogReader) (st : Result Stepped Refusal) → r ≡ reader_at at true → st ≡ opening_of log r → st ≡ step_of d log (reader_at at true)
  opens_at r st e f = f ∙ ap (opening_of log) e ∙ sym (step-opens d log (reader_at at true) refl)

  -- behind its opening the reader is inside the record, its checksum begun
  pub opening : (s : Stepped) → step_of d log (reader_at at true) ≡ Ok s → Opened log at s.reader
  opening s e =
      let o = step-on d log (reader_at at true) s e in
      opened-read o.forward o.inside (taken d log (reader_at at true) s e).read

-- what a whole record is: an opening with the expected id, and the rest behind it
pub record Whole (d : Directory) (log : List ℕ) (at expected : ℕ) (ws : List Written) (end : ℕ) : Type 0 where
  pub s : Stepped
  pub opens : step_of d log (reader_at at true) ≡ Ok s
  pub id : eqb s.reader.record_id expected ≡ true
  pub rest : rest_of (suc (length log)) d log s.reader ≡ walked ws end

pub whole_record : (d : Directory) (log : List ℕ) (at expected : ℕ) (ws : List Written) (end : ℕ) → record_at d log at expected ≡ walked ws end → Whole d log at expected ws end
unfolding record_at
whole_record d log at expected ws end e = go (step_of d log (reader_at at true)) refl e
  where
    by : (s : Stepped) → step_of d log (reader_at at true) ≡ Ok s → (b : Bool) → eqb s.reader.record_id expected ≡ b
        → by_opening at expected (rest_of (suc (length log)) d log) (Ok s) ≡ walked ws end → Whole d log at expected ws end
    by s q true b f = record { s = s; opens = q; id = b; rest = sym (if_true (eqb s.reader.record_id expected) _ _ b) ∙ f }
    by s q false b f = let z : ◌≡◌ {A = ℕ} 0 1 = cc (sym (if_false (eqb s.reader.record_id expected) _ _ b) ∙ f) in absurd (omega arith)

    go : (st : Result Stepped Refusal) → step_of d log (reader_at at true) ≡ st → by_opening at expected (rest_of (suc (length log)) d log) st ≡ walked ws end → Whole d log at expected ws end
    go (Err x) q f = let z : ◌≡◌ {A = ℕ} 0 1 = cc in absurd (omega arith)
    go (Ok s) q f = by s q (eqb s.reader.record_id expected) refl f

pub record_whole : (d : Directory) (log : List ℕ) (at expected : ℕ) (ws : List Written) (end : ℕ) → Whole d log at expected ws end → record_at d log at expected ≡ walked ws end
unfolding record_at
record_whole d log at expected ws end w =
    ap (by_opening at expected (rest_of (suc (length log)) d log)) w.opens ∙ if_true (eqb w.s.reader.record_id expected) _ _ w.id ∙ w.rest

-- a whole record takes a byte or more of the log
pub record RecordOn (log : List ℕ) (at end : ℕ) : Type 0 where
  pub forward : at < end
  pub inside : end ≤ length log

pub record_on : (d : Directory) (log : List ℕ) (at expected : ℕ) (ws : List Written) (end : ℕ) → record_at d log at expected ≡ walked ws end → RecordOn log at end
record_on d log at expected ws end e =
    let w = whole_record d log at expected ws end e in
    let o = opening d log at w.s w.opens in
    let k : EndsIn log w.s.reader end = ends_in d log (suc (length log)) w.s.reader ws end o.inside w.rest in
    record { forward = omega (arith, o.behind, k.five); inside = k.inside }

-- ---- a record by its opening

module _ (d : Directory) (log : List ℕ) (at expected : ℕ) where
  pub record_refused : (x : Refusal) → step_of d log (reader_at at true) ≡ Err x → record_at d log at expected ≡ fault x
  unfolding record_at
  record_refused x e = ap (by_opening at expected (rest_of (suc (length log)) d log)) e

  pub record_wrong : (s : Stepped) → step_of d log (reader_at at true) ≡ Ok s → eqb s.reader.record_id expected ≡ false → record_at d log at expected ≡ fault (refusal WrongId at)
  unfolding record_at
  record_wrong s e b = ap (by_opening at expected (rest_of (suc (length log)) d log)) e ∙ if_false (eqb s.reader.record_id expected) _ _ b

  pub record_opened : (s : Stepped) → step_of d log (reader_at at true) ≡ Ok s → eqb s.reader.record_id expected ≡ true
      → record_at d log at expected ≡ rest_of (suc (length log)) d log s.reader
  unfolding record_at
  record_opened s e b = ap (by_opening at expected (rest_of (suc (length log)) d log)) e ∙ if_true (eqb s.reader.record_id expected) _ _ b
