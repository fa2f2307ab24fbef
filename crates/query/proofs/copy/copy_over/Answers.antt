-- `copy_over` meets its contract. Assumes nothing.
use mathlib.Core.Path.{ap, ◌∙◌}
use mathlib.Core.List.{List, ◌++◌}
use Prim.Native.Nat.{ℕ}
use lib.ListN.{drop}
use Rattle.query.proofs.Copies.{copied_front}
use Rattle.query.proofs.copy.copy_over.Goals as goal

pub returns : goal.returns
returns c =
    let a = c.args in
    ap (λ (l : List ℕ). l ++ drop c.min-n.result a.dest.now) c.copy_from_slice.ensures.after ∙ copied_front a.bytes.now a.dest.now c.min-n.result c.min-n.ensures
