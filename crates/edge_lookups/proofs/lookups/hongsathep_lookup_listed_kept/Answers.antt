-- The states that were loaded are those of the words. Assumes nothing.
use mathlib.Core.Path.{ap, ◌∙◌}
use Rattle.std.specs.Prelude.{Option, Ok}
use Rattle.edge_lookups.specs.declared.lookups.Spot.{Spot}
use Rattle.edge_lookups.proofs.Loaded.{kept_from, ruled-from, spotted-listed-from}
use Rattle.edge_lookups.proofs.Places.{told}
use Rattle.edge_lookups.proofs.lookups.hongsathep_lookup_listed_kept.Goals as goal

pub listed_spot_kept-spot-requires : goal.listed_spot_kept-spot-requires
listed_spot_kept-spot-requires c = (ruled-from c.list_of-l.ensures c.args.items.now c.args.chunks.now c.requires.0, kept_from c.overlays_of.ensures _ _ c.kind_of-k.ensures c.requires.1)

pub returns : goal.returns
returns c = told (ap (λ (s : Option Spot). Ok s) (c.listed_spot_kept-spot.ensures ∙ spotted-listed-from c.list_of-l.ensures _ _ c.overlays_of.ensures _ _ _ c.kind_of-k.ensures)) c.keep_spot.ensures
