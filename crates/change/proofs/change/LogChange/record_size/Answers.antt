-- `LogChange::record_size` meets its contract: 13, then as a list that keeps its rules. Assumes nothing.
use mathlib.Core.Path.{sym, ap, ◌∙◌}
use Rattle.std.specs.Prelude.{Ok}
use Rattle.words.proofs.Choices.{if_true, if_false}
use Rattle.change.specs.Change.{change_of, change_kept}
use Rattle.change.specs.Size.{sized}
use Rattle.change.proofs.Rules.{kept-ruled}
use Rattle.change.proofs.change.LogChange.record_size.Goals as goal

pub returns-then-not-kept : goal.returns-then-not-kept
unfolding sized
returns-then-not-kept c = sym (if_false (change_kept c.args.directory (change_of c.args.self c.args.words.now c.args.bytes.now)) _ _ (sym c.kept.ensures ∙ c.if-not-kept.true))

pub record_size_kept-requires : goal.record_size_kept-requires
record_size_kept-requires c = kept-ruled c.args.directory (change_of c.args.self c.args.words.now c.args.bytes.now) (sym c.kept.ensures ∙ c.if-not-kept.false)

pub returns : goal.returns
unfolding sized
returns c = ap Ok c.record_size_kept.ensures ∙ sym (if_true (change_kept c.args.directory (change_of c.args.self c.args.words.now c.args.bytes.now)) _ _ (sym c.kept.ensures ∙ c.if-not-kept.false))
