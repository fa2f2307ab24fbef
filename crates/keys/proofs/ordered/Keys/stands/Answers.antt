-- `Keys::stands` meets its contract. Assumes nothing.
use Rattle.std.proofs.Common.{rules, arith, ◌≡◌, ◌∙◌, sym, ap, length, ℕ}
use lib.Dec.{eqb}
use borrow.Author.Tests.{le-ltb}
use Rattle.keys.specs.Keys.{rank_of}
use Rattle.keys.proofs.Lent.{row-fits, stands-at, stands-past}
use Rattle.keys.proofs.ordered.Keys.stands.Goals as goal

pub returns-then-j-self-clause-value : goal.returns-then-j-self-clause-value
returns-then-j-self-clause-value c =
    let k : ℕ = rank_of c.args.key in
    let b : c.eq.result ≡ eqb (rank_of c.key.result) k = search rules in
    b ∙ ap (λ (a : ℕ). eqb a k) c.key.ensures ∙ sym (stands-at c.args.self c.args.j (omega arith) k)

pub returns-then-j-self-clause-row : goal.returns-then-j-self-clause-row
returns-then-j-self-clause-row c = λ _. (omega arith, row-fits c.args.self c.args.j (omega arith))

pub returns-else-j-self-clause-value : goal.returns-else-j-self-clause-value
returns-else-j-self-clause-value c =
    le-ltb c.args.j (length c.args.self.order.now) (omega arith) ∙ sym (stands-past c.args.self (rank_of c.args.key) c.args.j (omega arith))
