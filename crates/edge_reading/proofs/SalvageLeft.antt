-- What a salvage leaves, field by field. Assumes nothing.
use mathlib.Core.Path.{◌≡◌, ap, ◌∙◌}
use mathlib.Core.List.{List}
use Prim.Native.Nat.{ℕ}
use Rattle.std.specs.Prelude.{Result, Ok, Err}
use Rattle.answer.specs.Answer.{number_of}
use Rattle.answer.specs.declared.answer.Answer.{Answer}
use Rattle.salvaging.specs.Salvage.{Left, left_of}
use Rattle.salvaging.specs.declared.salvaged.Salvaged.{Salvaged}
use Rattle.edge_reading.specs.Reading.{SalvagedLeft}

-- by its number and the two memories
pub left_fields : (r : Result Salvaged Answer) (number lines written : ℕ) (out list : List ℕ) (l : Left) → SalvagedLeft r number lines written → left_of r out list ≡ l
    → (number ≡ number_of l.answer) × (lines ≡ l.lines) × (written ≡ l.written) × (out ≡ l.out) × (list ≡ l.list)
unfolding left_of
left_fields (Ok s) number lines written out list l p e =
    (p.0 ∙ ap (λ (x : Left). number_of x.answer) e, p.1 ∙ ap (λ (x : Left). x.lines) e, p.2 ∙ ap (λ (x : Left). x.written) e, ap (λ (x : Left). x.out) e, ap (λ (x : Left). x.list) e)
left_fields (Err a) number lines written out list l p e =
    (p.0 ∙ ap (λ (x : Left). number_of x.answer) e, p.1 ∙ ap (λ (x : Left). x.lines) e, p.2 ∙ ap (λ (x : Left). x.written) e, ap (λ (x : Left). x.out) e, ap (λ (x : Left). x.list) e)
