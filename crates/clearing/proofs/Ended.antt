-- What `end_read` hands back, a return at a time. Assumes nothing.
use mathlib.Core.Path.{◌≡◌, refl, sym, ap, ◌∙◌}
use mathlib.Core.Bool.{Bool, true, false, not, ◌&&◌}
use mathlib.Core.List.{List}
use Prim.Native.Nat.{ℕ, ◌+◌, max}
use native.Mathlib.Omega.{arith}
use lib.Dec.{eqb, ltb}
use borrow.Author.Tests.{eq-eqb, ne_eqb, ltb-true, ltb-false}
use Rattle.std.specs.Prelude.{if◌then◌else◌}
use Rattle.answer.specs.Answer.{refusal}
use Rattle.answer.specs.declared.answer.Answer.TheVariants.{Done, BadState}
use Rattle.answer.specs.declared.answer.Refusal.{Refusal}
use Rattle.directory.specs.Directory.{directory_kept}
use Rattle.directory.specs.declared.directory.Directory.{Directory}
use Rattle.record.specs.Next.{plain}
use Rattle.record.specs.declared.reader.LogReader.{LogReader}
use Rattle.effect.specs.Effect.{Written}
use Rattle.replay.specs.Inner.{is_walked}
use Rattle.replay.specs.Replay.{Walked, fault, walked, rest_in}
use Rattle.memory.specs.declared.counts.Counts.{Counts}
use Rattle.memory.specs.declared.overlays.LogOverlays.{LogOverlays}
use Rattle.memory.specs.declared.span.Holder.TheVariants as holder
use Rattle.memory.specs.Parts.{Parts, parts_of, parts_kept}
use Rattle.memory.specs.Overlays.{Overlays, overlays_of}
use Rattle.clearing.specs.Clear.{cleared_by}
use Rattle.clearing.specs.EndRead.{Again, record_again, clearable, to_clear, next_after, Ending, end_read_by, end_read_of, end_read_of_of}
use Rattle.clearing.specs.Inner.{cleared_walk}
use Rattle.std.specs.Prelude.{Ok, Err}

-- nothing was cleared
pub refused-ends : (at next : ℕ) (o : LogOverlays) (words bytes : List ℕ) (x : Refusal) (g : Walked Again) → g ≡ fault x
    → end_read_of_of at o next (Err x) words bytes ≡ end_read_by at (overlays_of o words bytes) next g
refused-ends at next o words bytes x g f = sym (ap (end_read_by at (overlays_of o words bytes) next) f)

-- a record was cleared: its actions by the walk of a reader that doesn't validate
module _ (d : Directory) (log : List ℕ) (u : LogReader) (r : LogReader) (e : u ≡ plain r) (actions : List Written) (end : ℕ) (plainly : rest_in d log (plain r) ≡ walked actions end) where
  walks : rest_in d log u ≡ walked actions end
  walks = ap (rest_in d log) e ∙ plainly

  pub plain-walks : is_walked (rest_in d log u) ≡ true
  plain-walks = ap is_walked walks

  plain-clears : (p : Parts) → cleared_walk u.record_id (rest_in d log u) p ≡ cleared_by r.record_id actions p
  plain-clears p = ap (λ (g : Walked (List Written)). cleared_walk u.record_id g p) walks ∙ ap (λ (v : LogReader). cleared_by v.record_id actions p) e

  made : (id : ℕ) (ids : List ℕ) {p q : Parts} {n m : ℕ} → p ≡ q → n ≡ m
      → ◌≡◌ {A = Ending} (record { answer = Done; fault_at = end; position = end; record_id = id; next_record_id = n; overlays = record { parts = p; last_ids = ids } }) (record { answer = Done; fault_at = end; position = end; record_id = id; next_record_id = m; overlays = record { parts = q; last_ids = ids } })
  made id ids p q = rw (p, q)

  pub cleared-ends : (at next : ℕ) (o : LogOverlays) (words bytes words' bytes' : List ℕ) (c : Counts) (n : ℕ) → n ≡ next_after next r.record_id
      → parts_of holder.Shared c words' bytes' ≡ cleared_walk u.record_id (rest_in d log u) (parts_of holder.Shared o.counts words bytes)
      → (g : Walked Again) → g ≡ walked (record { id = r.record_id; actions = actions }) end
      → end_read_of_of at o next (Ok (record { position = end; record_id = r.record_id; next_record_id = n; overlays = record { counts = c; last_record_ids = o.last_record_ids } })) words' bytes'
      ≡ end_read_by at (overlays_of o words bytes) next g
  cleared-ends at next o words bytes words' bytes' c n q p g f =
      made r.record_id o.last_record_ids (p ∙ plain-clears (parts_of holder.Shared o.counts words bytes)) q ∙ sym (ap (end_read_by at (overlays_of o words bytes) next) f)

-- 13, or what was tested
module _ (d : Directory) (log : List ℕ) (at : ℕ) (s : Overlays) (next : ℕ) where
  abbrev by : Bool → Walked Again
  by b = if b then clearable (record_again d log at) else fault (refusal BadState at)

  pub no-directory : directory_kept d ≡ false → to_clear d log at s next ≡ fault (refusal BadState at)
  unfolding to_clear
  no-directory e = ap (λ (b : Bool). by (b && (parts_kept holder.Shared s.parts && not (eqb next 0)))) e

  module _ (k : directory_kept d ≡ true) where
    pub no-overlays : parts_kept holder.Shared s.parts ≡ false → to_clear d log at s next ≡ fault (refusal BadState at)
    unfolding to_clear
    no-overlays e = ap (λ (b : Bool). by (b && (parts_kept holder.Shared s.parts && not (eqb next 0)))) k ∙ ap (λ (b : Bool). by (b && not (eqb next 0))) e

    module _ (m : parts_kept holder.Shared s.parts ≡ true) where
      rules : (b : Bool) → eqb next 0 ≡ b → to_clear d log at s next ≡ by (not b)
      unfolding to_clear
      rules b e = ap (λ (b : Bool). by (b && (parts_kept holder.Shared s.parts && not (eqb next 0)))) k ∙ ap (λ (b : Bool). by (b && not (eqb next 0))) m ∙ ap (λ (b : Bool). by (not b)) e

      pub no-next : next ≡ 0 → to_clear d log at s next ≡ fault (refusal BadState at)
      no-next e = rules true (eq-eqb next 0 e)

      pub tested-ends : (next ≡ 0 → ⊥) → (x : Ending) → x ≡ end_read_by at s next (clearable (record_again d log at)) → x ≡ end_read_of d log at s next
      tested-ends n x e = e ∙ sym (ap (end_read_by at s next) (rules false (ne_eqb next 0 n)))

-- the next id is above the record's
pub raised : (next id : ℕ) → max next (id + 1) ≡ next_after next id
raised next id = by (ltb id next) refl
  where
    by : (b : Bool) → ltb id next ≡ b → max next (id + 1) ≡ (if b then next else id + 1)
    by true q = omega (arith, ltb-true id next q)
    by false q = omega (arith, ltb-false id next q)
