-- The states that were loaded are those of the words. Assumes nothing.
use mathlib.Core.Path.{◌∙◌}
use Rattle.edge_lookups.proofs.Loaded.{spot-listed-from}
use Rattle.edge_lookups.proofs.Places.{told}
use Rattle.edge_lookups.proofs.lookups.hongsathep_lookup_listed.Goals as goal

pub returns : goal.returns
returns c = told (c.listed_spot-spot.ensures ∙ spot-listed-from c.list_of-l.ensures _ _ c.overlays_of.ensures _ _ _ c.kind_of-k.ensures) c.keep_spot.ensures
