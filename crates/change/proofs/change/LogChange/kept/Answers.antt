-- `LogChange::kept` meets its contract: the directory, the list, and both together. Assumes nothing.
use mathlib.Core.Path.{sym, ◌∙◌}
use Rattle.std.proofs.lemmas.Bool.{false≢true}
use Rattle.change.specs.Change.{change_of}
use Rattle.change.specs.Ruled.{list_of}
use Rattle.change.proofs.Rules.{kept-stops, kept-stops-ruled, kept-goes-on}
use Rattle.change.proofs.change.LogChange.kept.Goals as goal
use Rattle.change.proofs.change.LogChange.kept.Goals.{then-kept, else-kept}

pub invariant_of-fits : goal.invariant_of-fits
invariant_of-fits c = elim c.if-kept.branch [ then-kept w ↦ record { ruled = sym w.ruled.ensures ∙ sym w.value-is ∙ c.if-ruled.true } | else-kept w ↦ absurd (false≢true (sym w.if-kept.false ∙ sym w.value-is ∙ c.if-ruled.true)) ]

pub returns-then-ruled : goal.returns-then-ruled
unfolding list_of
returns-then-ruled c =
    let l = change_of c.args.self c.args.words.now c.args.bytes.now in
    elim c.if-kept.branch [
      | then-kept w ↦ kept-goes-on c.args.directory l c.fits.result (sym c.kept.ensures ∙ w.if-kept.true) (sym w.ruled.ensures ∙ sym w.value-is ∙ c.if-ruled.true) c.fits.ensures
      | else-kept w ↦ absurd (false≢true (sym w.if-kept.false ∙ sym w.value-is ∙ c.if-ruled.true))
    ]

pub returns-else-ruled : goal.returns-else-ruled
returns-else-ruled c =
    let l = change_of c.args.self c.args.words.now c.args.bytes.now in
    elim c.if-kept.branch [
      | then-kept w ↦ c.if-ruled.false ∙ kept-stops-ruled c.args.directory l (sym c.kept.ensures ∙ w.if-kept.true) (sym w.ruled.ensures ∙ sym w.value-is ∙ c.if-ruled.false)
      | else-kept w ↦ w.value-is ∙ w.if-kept.false ∙ kept-stops c.args.directory l (sym c.kept.ensures ∙ w.if-kept.false)
    ]
