-- `bytes_fit` meets its contract. Assumes nothing.
use mathlib.Core.Path.{ap}
use lib.Dec.{eqb}
use lib.ListN.{length}
use Rattle.change.specs.Insert.{bytes_fit_of}
use Rattle.change.proofs.plans.bytes_fit.Goals as goal

pub returns : goal.returns
unfolding bytes_fit_of
returns c = ap (eqb (length c.args.«data».now)) c.unit.ensures.0
