-- `kept` of the shared overlay meets its contract. Assumes nothing.
use mathlib.Core.Path.{sym, ◌∙◌}
use Rattle.query.specs.Query.{shared_part}
use Rattle.query.proofs.Looks.{shared_done, shared_fails}
use Rattle.query.proofs.shared.SharedLookup.kept.Goals as goal

pub returns-clause-done : goal.returns-clause-done
returns-clause-done c = λ key e.
    let s = c.args.self.now in
    shared_done c.args.kind (shared_part c.args.kind s.overlays s.words.now s.bytes.now) key (sym (rw c.of-n.ensures at c.kept.ensures) ∙ e)

pub returns-clause-fails : goal.returns-clause-fails
returns-clause-fails c = λ key e.
    let s = c.args.self.now in
    shared_fails c.args.kind (shared_part c.args.kind s.overlays s.words.now s.bytes.now) key (sym (rw c.of-n.ensures at c.kept.ensures) ∙ e)
