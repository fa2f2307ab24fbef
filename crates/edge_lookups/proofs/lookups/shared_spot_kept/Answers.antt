-- The shared memories are ready. Assumes nothing.
use Rattle.edge_lookups.proofs.Places.{shared_ready}
use Rattle.edge_lookups.proofs.lookups.shared_spot_kept.Goals as goal

pub spot_in-requires : goal.spot_in-requires
spot_in-requires c = let a = c.args in let k = shared_ready a.kind a.counts a.words.now a.bytes.now c.requires in (k.words_long, k.bytes-long, k.rules)
