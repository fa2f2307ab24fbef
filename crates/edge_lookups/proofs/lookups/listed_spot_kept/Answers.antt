-- The list's memories are ready, and the shared ones. Assumes nothing.
use Rattle.memory.specs.declared.span.Holder.TheVariants as holder
use Rattle.change.specs.Change.{change_of}
use Rattle.change.proofs.Rules.{ruled-parts}
use Rattle.edge_lookups.proofs.Places.{all-ready}
use Rattle.edge_lookups.proofs.lookups.listed_spot_kept.Goals as goal

pub spot_in-mine-requires : goal.spot_in-mine-requires
spot_in-mine-requires c =
    let a = c.args in
    let k = all-ready holder.List a.kind a.list.counts a.items.now a.chunks.now (ruled-parts (change_of a.list a.items.now a.chunks.now) c.requires.0) in
    (k.words_long, k.bytes-long, k.rules)
