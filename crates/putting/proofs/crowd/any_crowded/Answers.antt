-- `any_crowded` meets its contract: the three kinds in turn. Assumes nothing.
use mathlib.Core.Path.{sym, ◌∙◌}
use mathlib.Core.List.{[]}
use Rattle.std.proofs.lemmas.Bool.{false≢true}
use Rattle.directory.specs.declared.table.TableKind.TheVariants.{Index, Value, RefCount}
use Rattle.memory.specs.Parts.{Parts, parts_of}
use Rattle.memory.specs.declared.span.Holder.TheVariants.{Shared, List}
use Rattle.putting.proofs.Crowds.{crowded-index, crowded-value, crowded-last}
use Rattle.putting.proofs.crowd.any_crowded.Goals as goal
use Rattle.putting.proofs.crowd.any_crowded.Goals.{then-kind_crowded, else-kind_crowded}

pub kind_crowded-requires : goal.kind_crowded-requires
kind_crowded-requires c = (c.requires.0 Index, c.requires.1 Index)

pub kind_crowded-requires-else-kind_crowded : goal.kind_crowded-requires-else-kind_crowded
kind_crowded-requires-else-kind_crowded c = (c.requires.0 Value, c.requires.1 Value)

pub kind_crowded-requires-else-kind_crowded-2 : goal.kind_crowded-requires-else-kind_crowded-2
kind_crowded-requires-else-kind_crowded-2 c = (c.requires.0 RefCount, c.requires.1 RefCount)

pub returns-then-kind_crowded-2 : goal.returns-then-kind_crowded-2
returns-then-kind_crowded-2 c =
    let list : Parts = parts_of List c.args.list c.args.list_words.now [] in
    let shared : Parts = parts_of Shared c.args.counts c.args.words.now [] in
    elim c.if-kind_crowded.branch [
      | then-kind_crowded w ↦ c.if-kind_crowded-2.true ∙ crowded-index list shared w.if-kind_crowded.ensures
      | else-kind_crowded w ↦ c.if-kind_crowded-2.true ∙ crowded-value list shared w.if-kind_crowded.ensures (sym c.if-kind_crowded-2.true ∙ w.value-is ∙ w.kind_crowded-else-kind_crowded.ensures)
    ]

pub returns-else-kind_crowded-2 : goal.returns-else-kind_crowded-2
returns-else-kind_crowded-2 c =
    let list : Parts = parts_of List c.args.list c.args.list_words.now [] in
    let shared : Parts = parts_of Shared c.args.counts c.args.words.now [] in
    elim c.if-kind_crowded.branch [
      | then-kind_crowded w ↦ absurd (false≢true (sym c.if-kind_crowded-2.false ∙ w.value-is ∙ w.if-kind_crowded.true))
      | else-kind_crowded w ↦ crowded-last list shared w.if-kind_crowded.ensures (sym c.if-kind_crowded-2.false ∙ w.value-is ∙ w.kind_crowded-else-kind_crowded.ensures) _ c.kind_crowded-else-kind_crowded-2.ensures
    ]
