-- `LogChange::drop_table` meets its contract: 13, then as a list that keeps its rules. Assumes nothing.
use mathlib.Core.Path.{sym, ◌∙◌}
use Rattle.words.proofs.Choices.{if_true, if_false}
use Rattle.change.specs.Change.{change_of, change_kept}
use Rattle.change.specs.Drop.{table_dropped}
use Rattle.change.proofs.change.LogChange.drop_table.Goals as goal

pub returns-then-not-kept : goal.returns-then-not-kept
unfolding table_dropped
returns-then-not-kept c = sym (if_false (change_kept c.args.directory (change_of c.args.self c.args.words.now c.args.bytes.now)) _ _ (sym c.kept.ensures ∙ c.if-not-kept.true))

pub drop_table_kept-requires : goal.drop_table_kept-requires
drop_table_kept-requires c = sym c.kept.ensures ∙ c.if-not-kept.false

pub returns : goal.returns
unfolding table_dropped
returns c = c.drop_table_kept.ensures ∙ sym (if_true (change_kept c.args.directory (change_of c.args.self c.args.words.now c.args.bytes.now)) _ _ (sym c.kept.ensures ∙ c.if-not-kept.false))
