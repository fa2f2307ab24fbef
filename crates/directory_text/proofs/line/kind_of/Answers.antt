-- `kind_of` meets its contract. Assumes nothing.
use mathlib.Core.Path.{sym, ◌∙◌}
use mathlib.Core.Bool.{true, false}
use Rattle.words.proofs.Choices.{if_true, if_false}
use Rattle.directory_text.specs.Line.{kind_of}
use Rattle.directory_text.proofs.Laws.{tested}
use Rattle.directory_text.proofs.line.kind_of.Goals as goal

pub returns-then-eq : goal.returns-then-eq
unfolding kind_of
returns-then-eq c = sym (if_true _ _ _ (tested _ _ _ true c.as_slice.ensures c.if-eq.ensures))

pub returns-then-eq-2 : goal.returns-then-eq-2
unfolding kind_of
returns-then-eq-2 c =
    sym (if_false _ _ _ (tested _ _ _ false c.as_slice.ensures c.if-eq.ensures) ∙ if_true _ _ _ (tested _ _ _ true c.as_slice-else-eq.ensures c.if-eq-2.ensures))

pub returns-then-eq-3 : goal.returns-then-eq-3
unfolding kind_of
returns-then-eq-3 c =
    sym (if_false _ _ _ (tested _ _ _ false c.as_slice.ensures c.if-eq.ensures) ∙ if_false _ _ _ (tested _ _ _ false c.as_slice-else-eq.ensures c.if-eq-2.ensures)
    ∙ if_true _ _ _ (tested _ _ _ true c.as_slice-else-eq-2.ensures c.if-eq-3.ensures))

pub returns-else-eq-3 : goal.returns-else-eq-3
unfolding kind_of
returns-else-eq-3 c =
    sym (if_false _ _ _ (tested _ _ _ false c.as_slice.ensures c.if-eq.ensures) ∙ if_false _ _ _ (tested _ _ _ false c.as_slice-else-eq.ensures c.if-eq-2.ensures)
    ∙ if_false _ _ _ (tested _ _ _ false c.as_slice-else-eq-2.ensures c.if-eq-3.ensures))
