-- `kept` of list and shared overlay meets its contract: the list, then the overlay. Assumes nothing.
use mathlib.Core.Path.{sym, ◌∙◌}
use Rattle.std.proofs.lemmas.Bool.{false≢true}
use Rattle.change.specs.Change.{change_of}
use Rattle.query.specs.Query.{shared_part}
use Rattle.query.proofs.Looks.{shared_broken, listed-done, list-fails, overlay_fails}
use Rattle.query.proofs.listed.ListedLookup.kept.Goals as goal

pub returns-then-ruled-clause-holds : goal.returns-then-ruled-clause-holds
returns-then-ruled-clause-holds c = λ e. (sym c.if-ruled.ensures, c.kept.ensures.holds e)

pub returns-then-ruled-clause-done : goal.returns-then-ruled-clause-done
returns-then-ruled-clause-done c = λ key e.
    let s = c.args.self.now in
    listed-done c.args.kind (change_of s.list s.words.now s.bytes.now) (shared_part c.args.kind s.shared.overlays s.shared.words.now s.shared.bytes.now) key (sym c.if-ruled.ensures) (c.kept.ensures.holds e)

pub returns-then-ruled-clause-fails : goal.returns-then-ruled-clause-fails
returns-then-ruled-clause-fails c = λ key e.
    let s = c.args.self.now in
    let o = shared_part c.args.kind s.shared.overlays s.shared.words.now s.shared.bytes.now in
    overlay_fails c.args.kind (change_of s.list s.words.now s.bytes.now) o key (sym c.if-ruled.ensures) (shared_broken c.args.kind o key (c.kept.ensures.fails key e))

pub returns-else-ruled-clause-holds : goal.returns-else-ruled-clause-holds
returns-else-ruled-clause-holds c = λ e. absurd (false≢true (sym c.if-ruled.false ∙ e))

pub returns-else-ruled-clause-done : goal.returns-else-ruled-clause-done
returns-else-ruled-clause-done c = λ key e. absurd (false≢true (sym c.if-ruled.false ∙ e))

pub returns-else-ruled-clause-fails : goal.returns-else-ruled-clause-fails
returns-else-ruled-clause-fails c = λ key e.
    let s = c.args.self.now in
    list-fails c.args.kind (change_of s.list s.words.now s.bytes.now) (shared_part c.args.kind s.shared.overlays s.shared.words.now s.shared.bytes.now) key (sym c.ruled.ensures ∙ e)
