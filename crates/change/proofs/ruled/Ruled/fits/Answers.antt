-- `Ruled::fits` meets its contract: the keys, then the drops. Assumes nothing.
use mathlib.Core.Path.{sym, ◌∙◌}
use Rattle.std.proofs.lemmas.Bool.{false≢true}
use Rattle.change.specs.Change.{change_fits}
use Rattle.change.specs.Ruled.{list_of}
use Rattle.change.proofs.OneKind.{few-drops}
use Rattle.change.proofs.Rules.{stops, goes_on}
use Rattle.change.proofs.ruled.Ruled.fits.Goals as goal
use Rattle.change.proofs.ruled.Ruled.fits.Goals.{then-keys_fit, else-keys_fit}

pub fit-requires : goal.fit-requires
fit-requires c = (few-drops c.args.self).0

pub fit-requires-then-fit : goal.fit-requires-then-fit
fit-requires-then-fit c = (few-drops c.args.self).1

pub returns-then-fit : goal.returns-then-fit
unfolding change_fits list_of
returns-then-fit c =
    elim c.if-keys_fit.branch [
      | then-keys_fit w ↦ goes_on (sym c.keys_fit.ensures ∙ w.if-keys_fit.true) (goes_on (sym w.fit.ensures ∙ sym w.value-is ∙ c.if-fit.true) c.fit-then-fit.ensures)
      | else-keys_fit w ↦ absurd (false≢true (sym w.if-keys_fit.false ∙ sym w.value-is ∙ c.if-fit.true))
    ]

pub returns-else-fit : goal.returns-else-fit
unfolding change_fits list_of
returns-else-fit c =
    elim c.if-keys_fit.branch [
      | then-keys_fit w ↦ c.if-fit.false ∙ goes_on (sym c.keys_fit.ensures ∙ w.if-keys_fit.true) (stops _ (sym w.fit.ensures ∙ sym w.value-is ∙ c.if-fit.false))
      | else-keys_fit w ↦ w.value-is ∙ w.if-keys_fit.false ∙ stops _ (sym c.keys_fit.ensures ∙ w.if-keys_fit.false)
    ]
