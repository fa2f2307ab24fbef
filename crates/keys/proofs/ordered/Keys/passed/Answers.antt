-- `Keys::passed` meets its contract: the key at j is below exactly if j is before the place. Assumes nothing.
use Rattle.std.proofs.Common.{◌≡◌, ◌∙◌, ap, ltb, ℕ}
use Rattle.numbers.specs.Numbers.{one_if}
use Rattle.numbers.proofs.Methods.{one-from}
use Rattle.keys.specs.Keys.{rank_of}
use Rattle.keys.proofs.Lent.{below-place}
use Rattle.keys.proofs.ordered.Keys.passed.Goals as goal

pub returns-clause-value : goal.returns-clause-value
returns-clause-value c =
    let k : ℕ = rank_of c.args.key in
    let low : c.rank.result ≡ _ = c.rank.ensures ∙ c.key.ensures in
    c.from.ensures
    ∙ one-from (ltb c.rank.result c.rank-2.result)
    ∙ ap one_if (ap (λ (a : ℕ). ltb a c.rank-2.result) low ∙ ap (ltb _) c.rank-2.ensures ∙ below-place c.args.self c.args.j c.requires k)
