-- `is_there` meets its contract: a search finds a table exactly where one stands. Assumes nothing.
use mathlib.Core.Path.{ap, ◌∙◌}
use Rattle.std.specs.Prelude.{is_some}
use Rattle.change.proofs.Fitting.{there}
use Rattle.change.proofs.drops.is_there.Goals as goal

pub returns : goal.returns
returns c = c.is_some.ensures ∙ ap is_some c.find.ensures ∙ there c.args.directory c.args.kind c.args.number
