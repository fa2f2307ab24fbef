-- `LogChange::local_values_changes` meets its contract: 13, then as a list that keeps its rules. Assumes nothing.
use mathlib.Core.Path.{sym, ap, ◌∙◌}
use Rattle.std.specs.Prelude.{Ok}
use Rattle.words.proofs.Choices.{if_true, if_false}
use Rattle.change.specs.Change.{change_of, change_ruled}
use Rattle.change.specs.Values.{values_of}
use Rattle.change.proofs.change.LogChange.local_values_changes.Goals as goal

pub returns-then-not-ruled : goal.returns-then-not-ruled
unfolding values_of
returns-then-not-ruled c = sym (if_false (change_ruled (change_of c.args.self c.args.words.now c.args.bytes.now)) _ _ (sym c.ruled.ensures ∙ c.if-not-ruled.true))

pub local_values_changes_kept-requires : goal.local_values_changes_kept-requires
local_values_changes_kept-requires c = sym c.ruled.ensures ∙ c.if-not-ruled.false

pub returns : goal.returns
unfolding values_of
returns c = ap Ok c.local_values_changes_kept.ensures ∙ sym (if_true (change_ruled (change_of c.args.self c.args.words.now c.args.bytes.now)) _ _ (sym c.ruled.ensures ∙ c.if-not-ruled.false))
