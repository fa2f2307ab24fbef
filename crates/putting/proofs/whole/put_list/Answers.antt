-- `put_list` meets its contract: the last ids, then three kinds, each leaving the others their room. Assumes nothing.
use mathlib.Core.Path.{ap}
use Rattle.directory.specs.declared.table.TableKind.TheVariants.{Value}
use Rattle.memory.specs.Parts.{Parts}
use Rattle.putting.specs.Inner.{parts_at}
use Rattle.memory.specs.declared.overlays.LogOverlays.{LogOverlays}
use Rattle.memory.specs.declared.span.Holder.TheVariants as holder
use Rattle.putting.proofs.Parts.{keys_in}
use Rattle.putting.proofs.Kept.{goes-index, goes-value, goes-count, all-put}
use Rattle.putting.proofs.whole.put_list.Goals as goal

pub set_last_ids-o-requires : goal.set_last_ids-o-requires
set_last_ids-o-requires c = let a = c.args in keys_in holder.List Value a.list a.list_words.now a.list_bytes.now c.requires.0

pub put_kind-c-requires : goal.put_kind-c-requires
put_kind-c-requires c =
    let list : Parts = parts_at holder.List c.args.list c.args.list_words.now c.args.list_bytes.now in
    let shared : Parts = parts_at holder.Shared c.args.overlays.counts c.args.words.now c.args.bytes.now in
    goes-index c.args.id list shared c.requires.0 c.requires.1 c.requires.2

pub put_kind-c-requires-2 : goal.put_kind-c-requires-2
put_kind-c-requires-2 c =
    let list : Parts = parts_at holder.List c.args.list c.args.list_words.now c.args.list_bytes.now in
    let shared : Parts = parts_at holder.Shared c.args.overlays.counts c.args.words.now c.args.bytes.now in
    goes-value c.args.id list shared c.requires.0 c.requires.1 c.requires.2 _ c.put_kind-c.ensures

pub put_kind-c-requires-3 : goal.put_kind-c-requires-3
put_kind-c-requires-3 c =
    let list : Parts = parts_at holder.List c.args.list c.args.list_words.now c.args.list_bytes.now in
    let shared : Parts = parts_at holder.Shared c.args.overlays.counts c.args.words.now c.args.bytes.now in
    goes-count c.args.id list shared c.requires.0 c.requires.1 c.requires.2 _ c.put_kind-c.ensures _ c.put_kind-c-2.ensures

pub returns : goal.returns
returns c =
    let a = c.args in
    all-put a.directory a.id a.list a.list_words.now a.list_bytes.now a.overlays _ a.words.now a.bytes.now _ _ c.put_kind-c.ensures c.put_kind-c-2.ensures c.put_kind-c-3.ensures
    (ap (λ (o : LogOverlays). o.last_record_ids) c.set_last_ids-o.ensures)
