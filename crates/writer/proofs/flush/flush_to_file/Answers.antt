-- `flush_to_file` meets its contract: the test, then the second door. Assumes nothing.
use mathlib.Core.Path.{sym, ◌∙◌}
use Rattle.change.specs.Change.{Change, change_of}
use Rattle.change.proofs.Rules.{kept-ruled}
use Rattle.writer.proofs.Answers.{bad-state, as-kept}
use Rattle.writer.proofs.flush.flush_to_file.Goals as goal

pub returns-then-not-kept : goal.returns-then-not-kept
returns-then-not-kept c =
    let list : Change = change_of c.args.list c.args.words.now c.args.bytes.now in
    bad-state c.args.directory list c.args.out.now (sym c.kept.ensures ∙ c.if-not-kept.true)

pub flush_to_file_kept-requires : goal.flush_to_file_kept-requires
flush_to_file_kept-requires c =
    let list : Change = change_of c.args.list c.args.words.now c.args.bytes.now in
    kept-ruled c.args.directory list (sym c.kept.ensures ∙ c.if-not-kept.false)

pub returns : goal.returns
returns c =
    let list : Change = change_of c.args.list c.args.words.now c.args.bytes.now in
    c.flush_to_file_kept.ensures ∙ as-kept c.args.directory list c.args.out.now (sym c.kept.ensures ∙ c.if-not-kept.false)
