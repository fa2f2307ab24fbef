-- `new` meets its contract. Assumes nothing.
use mathlib.Core.Path.{sym, ◌∙◌}
use Rattle.checker.proofs.Calls.{starts, start-kept, start_broken}
use Rattle.checker.proofs.checker.LogChecker.new.Goals as goal

pub returns-then-kept : goal.returns-then-kept
returns-then-kept c = start-kept c.args.directory c.args.first _ _ (sym c.kept.ensures ∙ c.if-kept.true) (starts c.args.directory c.args.first _ c.new.ensures) c.answered.ensures

pub returns-else-kept : goal.returns-else-kept
returns-else-kept c = start_broken c.args.directory c.args.first _ _ (sym c.kept.ensures ∙ c.if-kept.false) (starts c.args.directory c.args.first _ c.new.ensures) c.answered-else-kept.ensures
