-- `table_of` meets its contract. Assumes nothing.
use mathlib.Core.Path.{sym, ap, ◌∙◌}
use mathlib.Core.Bool.{true, false}
use Rattle.std.specs.Prelude.{Ok}
use Rattle.words.proofs.Choices.{if_true, if_false}
use Rattle.directory_text.specs.Scan.{is_none}
use Rattle.directory_text.proofs.Laws.{none_is}
use Rattle.directory_text.proofs.Lines.{table-read}
use Rattle.directory_text.proofs.line.table_of.Goals as goal

pub returns-then-not-is_empty : goal.returns-then-not-is_empty
returns-then-not-is_empty c =
    sym (table-read c.args.kind c.args.code.now c.in_ok-number.ensures.number c.in_ok-column.ensures.number c.in_ok-count.ensures.number c.in_ok-length.ensures.number
    ∙ if_false _ _ _ (ap is_none (sym c.behind_blanks.ensures) ∙ none_is c.behind_blanks.result.now false c.if-not-is_empty.ensures))

pub returns : goal.returns
returns c =
    sym (table-read c.args.kind c.args.code.now c.in_ok-number.ensures.number c.in_ok-column.ensures.number c.in_ok-count.ensures.number c.in_ok-length.ensures.number
    ∙ if_true _ _ _ (ap is_none (sym c.behind_blanks.ensures) ∙ none_is c.behind_blanks.result.now true c.if-not-is_empty.ensures)
    ∙ ap (λ t. Ok t) (sym c.new.ensures))
