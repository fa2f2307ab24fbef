-- As words. Assumes nothing.
use mathlib.Core.Path.{refl}
use Rattle.std.specs.Prelude.{Ok}
use Rattle.keys.specs.Keys.{rank}
use Rattle.edge_lookups.proofs.Loaded.{kept_from, ruled-from, value-listed-from}
use Rattle.edge_lookups.proofs.Copies.{listed_done, told}
use Rattle.edge_lookups.proofs.values.hongsathep_value_listed_kept.Goals as goal

pub copied_listed_kept-there-requires : goal.copied_listed_kept-there-requires
copied_listed_kept-there-requires c = (ruled-from c.list_of-l.ensures c.args.items.now c.args.chunks.now c.requires.0, kept_from c.overlays_of-o.ensures _ _ refl c.requires.1)

pub returns : goal.returns
returns c =
    let a = c.args in
    let d = listed_done c.overlays_of-o.result a.words.now a.bytes.now (rank a.table a.index) c.list_of-l.result a.items.now a.chunks.now (ruled-from c.list_of-l.ensures a.items.now a.chunks.now c.requires.0) (kept_from c.overlays_of-o.ensures _ _ refl c.requires.1) in
    told _ _ (value-listed-from c.list_of-l.ensures _ _ c.overlays_of-o.ensures _ _ _) (Ok c.copied_listed_kept-there.result) a.dest.now _ (d, c.copied_listed_kept-there.ensures.told) c.copied_listed_kept-there.ensures.copied c.keep_copied.ensures
