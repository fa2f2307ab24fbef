-- The states that were loaded are those of the words. Assumes nothing.
use mathlib.Core.Path.{ap, ◌∙◌}
use Rattle.std.specs.Prelude.{Option, Ok}
use Rattle.edge_lookups.specs.declared.lookups.Spot.{Spot}
use Rattle.edge_lookups.proofs.Loaded.{kept_from, spotted-from}
use Rattle.edge_lookups.proofs.Places.{told}
use Rattle.edge_lookups.proofs.lookups.hongsathep_lookup_kept.Goals as goal

pub shared_spot_kept-spot-requires : goal.shared_spot_kept-spot-requires
shared_spot_kept-spot-requires c = kept_from c.overlays_of.ensures _ _ c.kind_of-k.ensures c.requires

pub returns : goal.returns
returns c = told (ap (λ (s : Option Spot). Ok s) (c.shared_spot_kept-spot.ensures ∙ spotted-from c.overlays_of.ensures _ _ _ c.kind_of-k.ensures)) c.keep_spot.ensures
