-- What is found at a position is what replay takes there under some id: "a whole record acceptable under the directory begins, with any id".
-- Assumes nothing.
use mathlib.Core.Path.{◌≡◌, refl, sym, ap, ◌∙◌}
use mathlib.Core.Bool.{true}
use mathlib.Core.List.{List}
use mathlib.Core.Option.{none, some}
use Prim.Native.Nat.{ℕ, ◌≤◌, ◌<◌}
use native.Mathlib.Omega.{arith}
use lib.ListN.{length}
use borrow.Author.Tests.{eqb-true, eq-eqb}
use Rattle.directory.specs.declared.directory.Directory.{Directory}
use Rattle.effect.specs.Effect.{Written}
use Rattle.record.specs.Next.{reader_at, step_of}
use Rattle.record.specs.declared.reader.LogReader.{LogReader}
use Rattle.record.specs.declared.reader.Stepped.{Stepped}
use Rattle.replay.specs.Replay.{Walked, fault, walked, rest_in, record_at, whole_by, whole_of}
use Rattle.replay.proofs.Opening.{Whole, whole_record, record_whole, record_on}
use Rattle.salvaging.specs.Salvage.{found_by, found_at}
use Rattle.salvaging.specs.declared.search.Found.{Found}
use Rattle.std.specs.Prelude.{Result, Ok, Err}
use Rattle.answer.specs.declared.answer.Refusal.{Refusal}

-- what was found: where it was looked for, and as replay takes it
pub record Accepted (d : Directory) (log : List ℕ) (at : ℕ) (f : Found) : Type 0 where
  pub here : f.position ≡ at
  pub actions : List Written
  pub taken : record_at d log at f.id ≡ walked actions f.end
  pub forward : at < f.end
  pub inside : f.end ≤ length log

module _ (d : Directory) (log : List ℕ) (at : ℕ) where
  accepts : (f : Found) (ws : List Written) → f.position ≡ at → record_at d log at f.id ≡ walked ws f.end → Accepted d log at f
  accepts f ws p e =
      let o = record_on d log at f.id ws f.end e in
      record { here = p; actions = ws; taken = e; forward = o.forward; inside = o.inside }

  pub found-accepted : (f : Found) → found_at d log at ≡ some f → Accepted d log at f
  unfolding found_at
  found-accepted f e = by-step (step_of d log (reader_at at true)) refl e
    where
      by-rest : (s : Stepped) → step_of d log (reader_at at true) ≡ Ok s → (g : Walked (List Written)) → rest_in d log s.reader ≡ g
          → found_by at (whole_by s.reader g) ≡ some f → Accepted d log at f
      by-rest s q (fault x) r h = let z : ◌≡◌ {A = ℕ} 0 1 = cc in absurd (omega arith)
      by-rest s q (walked ws end) r h =
          let g : Found = record { position = at; id = s.reader.record_id; end = end } in
          let p : f ≡ g = cc in
          let i : s.reader.record_id ≡ f.id = sym (ap (λ (x : Found). x.id) p) in
          let n : end ≡ f.end = sym (ap (λ (x : Found). x.end) p) in
          accepts f ws (ap (λ (x : Found). x.position) p)
          (record_whole d log at f.id ws f.end (record { s = s; opens = q; id = eq-eqb s.reader.record_id f.id i; rest = r ∙ ap (walked ws) n }))

      by-step : (st : Result Stepped Refusal) → step_of d log (reader_at at true) ≡ st → found_by at (whole_of (rest_in d log) st) ≡ some f → Accepted d log at f
      by-step (Err x) q h = let z : ◌≡◌ {A = ℕ} 0 1 = cc in absurd (omega arith)
      by-step (Ok s) q h = by-rest s q (rest_in d log s.reader) refl h

  -- there is no other id and no other end
  pub accepted-found : (id : ℕ) (ws : List Written) (end : ℕ) → record_at d log at id ≡ walked ws end → found_at d log at ≡ some (record { position = at; id = id; end = end })
  unfolding found_at
  accepted-found id ws end e =
      let w : Whole d log at id ws end = whole_record d log at id ws end e in
      let r : LogReader = w.s.reader in
      ap (λ (st : Result Stepped Refusal). found_by at (whole_of (rest_in d log) st)) w.opens
      ∙ ap (λ (g : Walked (List Written)). found_by at (whole_by r g)) w.rest
      ∙ ap (λ (i : ℕ). some (record { position = at; id = i; end = end })) (eqb-true r.record_id id w.id)

  -- nothing is found where replay takes nothing
  pub none-accepted : found_at d log at ≡ none → (id : ℕ) (ws : List Written) (end : ℕ) → record_at d log at id ≡ walked ws end → ⊥
  none-accepted e id ws end r = let z : ◌≡◌ {A = ℕ} 0 1 = cc (sym e ∙ accepted-found id ws end r) in omega arith
