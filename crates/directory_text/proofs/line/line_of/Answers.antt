-- `line_of` meets its contract. Assumes nothing.
use mathlib.Core.Path.{sym, ap, ◌∙◌}
use mathlib.Core.Bool.{true, false}
use Rattle.std.specs.Prelude.{Option}
use Rattle.std.proofs.lemmas.Result.{err_from_is_err_and}
use Rattle.directory.specs.declared.table.TableKind.{TableKind}
use Rattle.directory_text.specs.Line.{of_table, of_kind}
use Rattle.words.proofs.Choices.{if_true, if_false}
use Rattle.directory_text.proofs.Laws.{none_is}
use Rattle.directory_text.proofs.Lines.{line-read}
use Rattle.directory_text.proofs.line.line_of.Goals as goal

pub returns-then-is_empty : goal.returns-then-is_empty
returns-then-is_empty c =
    sym (line-read c.args.line.now _ _ _ c.split_before.ensures.before c.first_word.ensures.word c.first_word.ensures.rest
    ∙ if_true _ _ _ (none_is c.first_word.result.0.now true c.if-is_empty.ensures))

pub returns-in_default : goal.returns-in_default
returns-in_default c =
    sym (line-read c.args.line.now _ _ _ c.split_before.ensures.before c.first_word.ensures.word c.first_word.ensures.rest
    ∙ if_false _ _ _ (none_is c.first_word.result.0.now false c.if-is_empty.ensures)
    ∙ ap (λ (o : Option TableKind). of_kind o c.first_word.result.1.now) (sym c.kind_of.ensures ∙ c.in_default.is))

pub returns-in_err-table_of : goal.returns-in_err-table_of
returns-in_err-table_of c =
    let p = err_from_is_err_and c.from_residual.result c.from_residual.ensures.1 in
    rw (p.1, p.2)
    (sym (line-read c.args.line.now _ _ _ c.split_before.ensures.before c.first_word.ensures.word c.first_word.ensures.rest
    ∙ if_false _ _ _ (none_is c.first_word.result.0.now false c.if-is_empty.ensures)
    ∙ ap (λ (o : Option TableKind). of_kind o c.first_word.result.1.now) (sym c.kind_of.ensures ∙ c.in-Some.is)
    ∙ ap of_table (sym c.table_of.ensures ∙ c.in_err-table_of.was)))

pub returns : goal.returns
returns c =
    sym (line-read c.args.line.now _ _ _ c.split_before.ensures.before c.first_word.ensures.word c.first_word.ensures.rest
    ∙ if_false _ _ _ (none_is c.first_word.result.0.now false c.if-is_empty.ensures)
    ∙ ap (λ (o : Option TableKind). of_kind o c.first_word.result.1.now) (sym c.kind_of.ensures ∙ c.in-Some.is)
    ∙ ap of_table (sym c.table_of.ensures ∙ c.in_ok-table_of.was))
