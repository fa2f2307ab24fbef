-- As words. Assumes nothing.
use mathlib.Core.Path.{refl}
use Rattle.std.specs.Prelude.{Ok}
use Rattle.keys.specs.Keys.{rank}
use Rattle.edge_lookups.proofs.Loaded.{kept_from, value-from}
use Rattle.edge_lookups.proofs.Copies.{value_done, told}
use Rattle.edge_lookups.proofs.values.hongsathep_value_kept.Goals as goal

pub copied_kept-there-requires : goal.copied_kept-there-requires
copied_kept-there-requires c = kept_from c.overlays_of.ensures _ _ refl c.requires

pub returns : goal.returns
returns c =
    let a = c.args in
    let d = value_done c.overlays_of.result a.words.now a.bytes.now (rank a.table a.index) (kept_from c.overlays_of.ensures _ _ refl c.requires) in
    told _ _ (value-from c.overlays_of.ensures _ _ _) (Ok c.copied_kept-there.result) a.dest.now _ (d, c.copied_kept-there.ensures.told) c.copied_kept-there.ensures.copied c.keep_copied.ensures
