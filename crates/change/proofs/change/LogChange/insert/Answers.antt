-- `LogChange::insert` meets its contract: 13, then as a list that keeps its rules. Assumes nothing.
use mathlib.Core.Path.{refl, sym, ◌∙◌}
use Rattle.words.proofs.Choices.{if_true, if_false}
use Rattle.change.specs.Change.{change_of, change_kept}
use Rattle.change.specs.Insert.{inserted}
use Rattle.change.proofs.change.LogChange.insert.Goals as goal

pub shape_of-words-then-not-kept : goal.shape_of-words-then-not-kept
shape_of-words-then-not-kept c = refl

pub shape_of-bytes-then-not-kept : goal.shape_of-bytes-then-not-kept
shape_of-bytes-then-not-kept c = refl

pub returns-then-not-kept : goal.returns-then-not-kept
unfolding inserted
returns-then-not-kept c = sym (if_false (change_kept c.args.directory (change_of c.args.self c.args.words.now c.args.bytes.now)) _ _ (sym c.kept.ensures ∙ c.if-not-kept.true))

pub insert_kept-requires : goal.insert_kept-requires
insert_kept-requires c = sym c.kept.ensures ∙ c.if-not-kept.false

pub shape_of-words : goal.shape_of-words
shape_of-words c = c.words-1.given

pub shape_of-bytes : goal.shape_of-bytes
shape_of-bytes c = c.bytes-1.given

pub returns : goal.returns
unfolding inserted
returns c = c.insert_kept.ensures ∙ sym (if_true (change_kept c.args.directory (change_of c.args.self c.args.words.now c.args.bytes.now)) _ _ (sym c.kept.ensures ∙ c.if-not-kept.false))
