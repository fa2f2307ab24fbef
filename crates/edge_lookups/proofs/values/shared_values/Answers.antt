-- The parts of the values. Assumes nothing.
use Rattle.edge_lookups.proofs.Places.{shared_ready}
use Rattle.directory.specs.declared.table.TableKind.TheVariants.{Value}
use Rattle.edge_lookups.proofs.values.shared_values.Goals as goal

pub words-requires : goal.words-requires
words-requires c = let a = c.args in (shared_ready Value a.overlays.counts a.words.now a.bytes.now c.requires).words_long

pub bytes-requires : goal.bytes-requires
bytes-requires c = let a = c.args in (shared_ready Value a.overlays.counts a.words.now a.bytes.now c.requires).bytes-long
