-- A record checked whatever its id: it is the record that replay would take if that id were the expected one. Assumes nothing.
use mathlib.Core.Path.{◌≡◌, sym, ap, ◌∙◌}
use mathlib.Core.List.{List}
use Prim.Native.Nat.{ℕ}
use native.Mathlib.Omega.{arith}
use Rattle.answer.specs.declared.answer.Refusal.{Refusal}
use Rattle.record.specs.declared.reader.LogReader.{LogReader}
use Rattle.record.specs.declared.reader.Stepped.{Stepped}
use Rattle.effect.specs.Effect.{Written}
use Rattle.replay.specs.Replay.{Walked, fault, walked, end_in, whole_by, whole_of}
use Rattle.std.specs.Prelude.{Result, Ok, Err}

by_not : (r : LogReader) (g : Walked (List Written)) (a : Refusal) → Err a ≡ end_in g → Err a ≡ whole_by r g
by_not r (fault b) a e = let p : a ≡ b = cc in ap Err p
by_not r (walked ws end) a e = let z : ◌≡◌ {A = ℕ} 0 1 = cc in absurd (omega arith)

by-is : (r : LogReader) (g : Walked (List Written)) (k : ℕ) → Ok k ≡ end_in g → Ok (record { opened = r; end = k }) ≡ whole_by r g
by-is r (fault b) k e = let z : ◌≡◌ {A = ℕ} 0 1 = cc in absurd (omega arith)
by-is r (walked ws end) k e = let p : k ≡ end = cc in ap (λ (n : ℕ). Ok (record { opened = r; end = n })) p

-- behind an opening: the rest's fault, or its end
module _ (rest : LogReader → Walked (List Written)) (st : Result Stepped Refusal) (s : Stepped) (e : st ≡ Ok s) where
  pub whole_not : (a : Refusal) → Err a ≡ end_in (rest s.reader) → Err a ≡ whole_of rest st
  whole_not a f = by_not s.reader (rest s.reader) a f ∙ sym (ap (whole_of rest) e)

  pub whole_is : (k : ℕ) → Ok k ≡ end_in (rest s.reader) → Ok (record { opened = s.reader; end = k }) ≡ whole_of rest st
  whole_is k f = by-is s.reader (rest s.reader) k f ∙ sym (ap (whole_of rest) e)
