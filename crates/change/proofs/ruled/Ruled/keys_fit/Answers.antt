-- `Ruled::keys_fit` meets its contract: the three kinds. Assumes nothing.
use mathlib.Core.Path.{sym, ◌∙◌}
use Rattle.std.proofs.lemmas.Bool.{false≢true}
use Rattle.change.proofs.Rules.{stops, goes_on}
use Rattle.change.proofs.ruled.Ruled.keys_fit.Goals as goal
use Rattle.change.proofs.ruled.Ruled.keys_fit.Goals.{then-kind_fits, else-kind_fits}

pub returns-then-kind_fits-2 : goal.returns-then-kind_fits-2
returns-then-kind_fits-2 c =
    elim c.if-kind_fits.branch [
      | then-kind_fits w ↦ goes_on (sym c.kind_fits.ensures ∙ w.if-kind_fits.true) (goes_on (sym w.kind_fits-then-kind_fits.ensures ∙ sym w.value-is ∙ c.if-kind_fits-2.true) c.kind_fits-then-kind_fits-2.ensures)
      | else-kind_fits w ↦ absurd (false≢true (sym w.if-kind_fits.false ∙ sym w.value-is ∙ c.if-kind_fits-2.true))
    ]

pub returns-else-kind_fits-2 : goal.returns-else-kind_fits-2
returns-else-kind_fits-2 c =
    elim c.if-kind_fits.branch [
      | then-kind_fits w ↦ c.if-kind_fits-2.false ∙ goes_on (sym c.kind_fits.ensures ∙ w.if-kind_fits.true) (stops _ (sym w.kind_fits-then-kind_fits.ensures ∙ sym w.value-is ∙ c.if-kind_fits-2.false))
      | else-kind_fits w ↦ w.value-is ∙ w.if-kind_fits.false ∙ stops _ (sym c.kind_fits.ensures ∙ w.if-kind_fits.false)
    ]
