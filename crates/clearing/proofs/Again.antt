-- A record read again: what is to be cleared, by what the check of it answered. Assumes nothing.
use mathlib.Core.Path.{◌≡◌, refl, sym, ap, ◌∙◌}
use mathlib.Core.Bool.{true}
use mathlib.Core.List.{List}
use Prim.Native.Nat.{ℕ, suc}
use native.Mathlib.Omega.{arith}
use lib.Dec.{eqb}
use lib.ListN.{length}
use borrow.Author.Tests.{eqb-true, eq-eqb, ne_eqb}
use Rattle.words.proofs.Choices.{if_true, if_false}
use Rattle.answer.specs.Answer.{refusal, last_record_id}
use Rattle.answer.specs.declared.answer.Answer.TheVariants.{UsedUp}
use Rattle.answer.specs.declared.answer.Refusal.{Refusal}
use Rattle.directory.specs.declared.directory.Directory.{Directory}
use Rattle.record.specs.Next.{plain, reader_at, step_of}
use Rattle.record.specs.declared.reader.LogReader.{LogReader}
use Rattle.record.specs.declared.reader.Stepped.{Stepped}
use Rattle.effect.specs.Effect.{Written}
use Rattle.record.proofs.Begins.{begun}
use Rattle.replay.specs.Inner.{Opened}
use Rattle.replay.specs.Replay.{Walked, fault, walked, rest_in, record_at, whole_by, whole_of}
use Rattle.replay.specs.declared.whole.WholeRecord.{WholeRecord}
use Rattle.replay.proofs.Opening as opening
use Rattle.replay.proofs.Sum.{plain-walked}
use Rattle.clearing.specs.EndRead.{Again, with_id, id_there, record_again, clearable}
use Rattle.std.specs.Prelude.{Result, Ok, Err}

-- ---- by the opening's step: whatever the id

abbrev by_any : (LogReader → Walked (List Written)) → Result Stepped Refusal → Walked Again
by_any rest (Err x) = fault x
by_any rest (Ok s) = with_id s.reader.record_id (rest s.reader)

pub again_by : (d : Directory) (log : List ℕ) (at : ℕ) → record_again d log at ≡ by_any (rest_in d log) (step_of d log (reader_at at true))
unfolding record_again
again_by d log at = by (step_of d log (reader_at at true)) refl
  where
    by : (st : Result Stepped Refusal) → step_of d log (reader_at at true) ≡ st → with_id (id_there log at) (record_at d log at (id_there log at)) ≡ by_any (rest_in d log) st
    by (Err x) q = ap (with_id (id_there log at)) (opening.record_refused d log at (id_there log at) x q)
    by (Ok s) q =
        let i = (begun d log at true s q).there in
        ap (with_id (id_there log at)) (opening.record_opened d log at (id_there log at) s q (eq-eqb s.reader.record_id (id_there log at) i))
        ∙ ap (λ (id : ℕ). with_id id (rest_in d log s.reader)) (sym i)

-- a record that replay takes under an id is read again under that id: there is no other
pub record_is-again : (d : Directory) (log : List ℕ) (at id : ℕ) (ws : List Written) (end : ℕ) → record_at d log at id ≡ walked ws end → record_again d log at ≡ walked (record { id = id; actions = ws }) end
record_is-again d log at id ws end e =
    let w = opening.whole_record d log at id ws end e in
    again_by d log at
    ∙ ap (by_any (rest_in d log)) w.opens ∙ ap (with_id w.s.reader.record_id) w.rest
    ∙ ap (λ (i : ℕ). walked (record { id = i; actions = ws }) end) (eqb-true w.s.reader.record_id id w.id)

-- ---- what the check answered

module _ (rest : LogReader → Walked (List Written)) where
  not_whole : (st : Result Stepped Refusal) (x : Refusal) → Err x ≡ whole_of rest st → by_any rest st ≡ fault x
  not_whole (Err y) x e = let p : y ≡ x = cc in ap {B = Walked Again} fault p
  not_whole (Ok s) x e = by (rest s.reader) e
    where
      by : (g : Walked (List Written)) → Err x ≡ whole_by s.reader g → with_id s.reader.record_id g ≡ fault x
      by (fault y) f = let p : y ≡ x = cc in ap {B = Walked Again} fault p
      by (walked ws end) f = let z : ◌≡◌ {A = ℕ} 0 1 = cc in absurd (omega arith)

  record IsWhole (w : WholeRecord) (st : Result Stepped Refusal) : Type 0 where
    s : Stepped
    opens : st ≡ Ok s
    reader : w.opened ≡ s.reader
    actions : List Written
    behind : rest w.opened ≡ walked actions w.end
    again : by_any rest st ≡ walked (record { id = w.opened.record_id; actions = actions }) w.end

  is_whole : (st : Result Stepped Refusal) (w : WholeRecord) → Ok w ≡ whole_of rest st → IsWhole w st
  is_whole (Err y) w e = let z : ◌≡◌ {A = ℕ} 0 1 = cc in absurd (omega arith)
  is_whole (Ok s) w e = by (rest s.reader) refl e
    where
      by : (g : Walked (List Written)) → rest s.reader ≡ g → Ok w ≡ whole_by s.reader g → IsWhole w (Ok s)
      by (fault y) q f = let z : ◌≡◌ {A = ℕ} 0 1 = cc in absurd (omega arith)
      by (walked ws end) q f =
          let p : w ≡ record { opened = s.reader; end = end } = cc in
          let o : w.opened ≡ s.reader = ap (λ (x : WholeRecord). x.opened) p in
          let n : w.end ≡ end = ap (λ (x : WholeRecord). x.end) p in
          record {
            s = s;
            opens = refl;
            reader = o;
            actions = ws;
            behind = ap rest o ∙ q ∙ sym (ap (walked ws) n);
            again = ap (with_id s.reader.record_id) q ∙ same o n;
          }
        where
          same : w.opened ≡ s.reader → w.end ≡ end → ◌≡◌ {A = Walked Again} (walked (record { id = s.reader.record_id; actions = ws }) end) (walked (record { id = w.opened.record_id; actions = ws }) w.end)
          same o n = rw (o, n)

module _ (d : Directory) (log : List ℕ) (at : ℕ) where
  -- "A record that replay would refuse, the id test aside, gets that answer"
  pub not_again : (x : Refusal) → Err x ≡ whole_of (rest_in d log) (step_of d log (reader_at at true)) → clearable (record_again d log at) ≡ fault x
  not_again x e = ap clearable (again_by d log at ∙ not_whole (rest_in d log) (step_of d log (reader_at at true)) x e)

  module _ (w : WholeRecord) (e : Ok w ≡ whole_of (rest_in d log) (step_of d log (reader_at at true))) where
    k : IsWhole (rest_in d log) w (step_of d log (reader_at at true))
    k = is_whole (rest_in d log) (step_of d log (reader_at at true)) w e

    -- "id 2^64-1 gives 12"
    pub used-up : w.opened.record_id ≡ last_record_id → clearable (record_again d log at) ≡ fault (refusal UsedUp w.end)
    used-up t = ap clearable (again_by d log at ∙ k.again) ∙ if_true (eqb w.opened.record_id last_record_id) _ _ (eq-eqb w.opened.record_id last_record_id t)

    -- a record to be cleared: its actions, and where it ends, also for a reader that doesn't validate
    pub record Clears : Type 0 where
      pub actions : List Written
      pub opened : Opened log at w.opened
      pub plainly : rest_in d log (plain w.opened) ≡ walked actions w.end
      pub again : clearable (record_again d log at) ≡ walked (record { id = w.opened.record_id; actions = actions }) w.end

    pub clears : (w.opened.record_id ≡ last_record_id → ⊥) → Clears
    clears t =
        let o : Opened log at w.opened = rw k.reader (opening.opening d log at k.s k.opens) in
        record {
          actions = k.actions;
          opened = o;
          plainly = plain-walked d log at (suc (length log)) w.opened k.actions w.end o k.behind;
          again = ap clearable (again_by d log at ∙ k.again) ∙ if_false (eqb w.opened.record_id last_record_id) _ _ (ne_eqb w.opened.record_id last_record_id t);
        }
