-- `put_place` meets its contract: its bytes are those of its slot. Assumes nothing.
use mathlib.Core.Path.{refl}
use native.Mathlib.Omega.{arith}
use Rattle.memory.specs.Parts.{Parts}
use Rattle.putting.specs.Inner.{parts_at}
use Rattle.overlay.specs.Rules.{stored_length}
use Rattle.putting.proofs.Places.{part_lies, part-fits, part-put}
use Rattle.putting.proofs.place.put_place.Goals as goal

pub overflow_mul-from : goal.overflow_mul-from
overflow_mul-from c =
    let shared : Parts = parts_at c.args.holder c.args.counts c.args.words.now c.args.bytes.now in
    let a = c.args in omega (arith, part_lies a.holder a.kind a.row a.stored.now a.p shared c.requires c.slot_size.result (stored_length a.kind a.row.mark) c.slot_size.ensures.0 refl)

pub overflow_add-to : goal.overflow_add-to
overflow_add-to c =
    let shared : Parts = parts_at c.args.holder c.args.counts c.args.words.now c.args.bytes.now in
    let a = c.args in omega (arith, part_lies a.holder a.kind a.row a.stored.now a.p shared c.requires c.slot_size.result c.stored_length.result c.slot_size.ensures.0 c.stored_length.ensures)

pub slice_bounds-put_in-end : goal.slice_bounds-put_in-end
slice_bounds-put_in-end c =
    let shared : Parts = parts_at c.args.holder c.args.counts c.args.words.now c.args.bytes.now in
    let a = c.args in part_lies a.holder a.kind a.row a.stored.now a.p shared c.requires c.slot_size.result c.stored_length.result c.slot_size.ensures.0 c.stored_length.ensures

pub put_in-requires : goal.put_in-requires
unfolding parts_at
put_in-requires c =
    let shared : Parts = parts_at c.args.holder c.args.counts c.args.words.now c.args.bytes.now in
    let a = c.args in
    (c.requires.kept, part-fits a.holder a.kind a.row a.stored.now a.p shared c.requires c.slot_size.result c.stored_length.result c.slot_size.ensures.0 c.stored_length.ensures, c.requires.takes)

pub returns : goal.returns
unfolding parts_at
returns c =
    let shared : Parts = parts_at c.args.holder c.args.counts c.args.words.now c.args.bytes.now in
    let a = c.args in
    part-put a.holder a.kind a.row a.stored.now a.p shared c.requires c.slot_size.result c.stored_length.result c.slot_size.ensures.0 c.stored_length.ensures a.id _ _ c.put_in.ensures refl
