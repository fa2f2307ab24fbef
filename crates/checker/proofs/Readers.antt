-- The reader behind an action: inside or between records, and validating as before. Assumes nothing.
use mathlib.Core.Path.{◌≡◌, refl, sym, ap, ◌∙◌}
use mathlib.Core.Bool.{Bool, true, false, true≢false}
use mathlib.Core.List.{List}
use Prim.Native.Nat.{ℕ, ◌-◌}
use Rattle.words.proofs.Choices.{if_true}
use Rattle.directory.specs.declared.directory.Directory.{Directory}
use Rattle.record.specs.Next.{is_end, closed, forward_to, reader_after, beginning, step_of}
use Rattle.record.specs.declared.action.LogAction.{LogAction}
use Rattle.record.specs.declared.reader.LogReader.{LogReader}
use Rattle.record.specs.declared.reader.Stepped.{Stepped}
use Rattle.record.proofs.Steps.{Read, within_record, at-opening, taken}
use Rattle.std.specs.Prelude.{Ok}

pub record Behind (r : LogReader) (t : Stepped) : Type 0 where
  pub validates : t.reader.validate ≡ r.validate
  pub enters : r.inside ≡ false → t.reader.inside ≡ true
  pub leaves : r.inside ≡ true → is_end t.action ≡ true → t.reader.inside ≡ false

same : (log : List ℕ) (r : LogReader) (action : LogAction) (end : ℕ) → (reader_after log r action end).validate ≡ r.validate
unfolding reader_after forward_to
same log r action end = by (is_end action) refl
  where
    by : (b : Bool) → is_end action ≡ b → (reader_after log r action end).validate ≡ r.validate
    by true e = rw e
    by false e = rw e

ends : (log : List ℕ) (r : LogReader) (action : LogAction) (end : ℕ) → is_end action ≡ true → reader_after log r action end ≡ closed r end
unfolding reader_after
ends log r action end e = if_true (is_end action) _ _ e

pub behind : (d : Directory) (log : List ℕ) (r : LogReader) (t : Stepped) → step_of d log r ≡ Ok t → Behind r t
unfolding forward_to
behind d log r t e = by (taken d log r t e).read
  where
    by : Read d log r t → Behind r t
    by (within_record c i end q f) =
        let u : Stepped = record { action = i.action; start = end - i.payload; length = i.payload; reader = reader_after log r i.action end } in
        let p : t ≡ u = cc in
        let m : t.reader ≡ reader_after log r i.action end = ap (λ (x : Stepped). x.reader) p in
        let a : t.action ≡ i.action = ap (λ (x : Stepped). x.action) p in
        record {
          validates = ap (λ (x : LogReader). x.validate) m ∙ same log r i.action end;
          enters = λ b. absurd (true≢false (sym c ∙ b));
          leaves = λ b g. ap (λ (x : LogReader). x.inside) (m ∙ ends log r i.action end (ap is_end (sym a) ∙ g));
        }
    by (at-opening c id end q f) =
        let p : t.reader ≡ forward_to log (beginning r id) end = cc in
        record {
          validates = ap (λ (x : LogReader). x.validate) p;
          enters = λ b. ap (λ (x : LogReader). x.inside) p;
          leaves = λ b g. absurd (true≢false (sym b ∙ c));
        }
