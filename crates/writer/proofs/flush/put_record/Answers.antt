-- `put_record` meets its contract: all up to the end tag, the checksum of that, and its four bytes. Assumes nothing.
use mathlib.Core.Path.{◌≡◌, sym, ap, ◌∙◌}
use Prim.Native.Nat.{◌+◌, ◌≤◌}
use native.Mathlib.Omega.{arith}
use lib.ListN.{length}
use lib.Seq.{length-take-le}
use Rattle.checksum.specs.Checksum.{checksum_of}
use Rattle.change.specs.Change.{Change}
use Rattle.change.specs.Ruled.{list_of}
use Rattle.output.specs.Put.{le}
use Rattle.output.proofs.Laws.{◌⨾◌, wrote-front}
use Rattle.writer.specs.Bytes.{body, record_of}
use Rattle.writer.specs.Inner.{changes_of}
use Rattle.writer.proofs.Masks.{length_record_of}
use Rattle.writer.proofs.flush.put_record.Goals as goal

pub put_changes-a-requires : goal.put_changes-a-requires
put_changes-a-requires c =
    let list : Change = list_of c.args.lent in
    let fits : length (changes_of list) + 5 ≤ length c.args.out.now = omega (arith, length_record_of list, c.requires) in
    omega (arith, fits)

pub put_u8-b-requires : goal.put_u8-b-requires
put_u8-b-requires c =
    let list : Change = list_of c.args.lent in
    let fits : length (changes_of list) + 5 ≤ length c.args.out.now = omega (arith, length_record_of list, c.requires) in
    omega (arith, fits, c.put_changes-a.ensures.next, c.put_changes-a.auto.out)

pub slice_bounds-checksum-end : goal.slice_bounds-checksum-end
unfolding le
slice_bounds-checksum-end c =
    let list : Change = list_of c.args.lent in
    let fits : length (changes_of list) + 5 ≤ length c.args.out.now = omega (arith, length_record_of list, c.requires) in
    let room : c.put_u8-b.result + 4 ≤ length c.put_u8-b.new.out = omega (arith, fits, c.put_u8-b.ensures.next, c.put_u8-b.auto.out, c.put_changes-a.ensures.next, c.put_changes-a.auto.out) in
    omega (arith, room)

pub slice_bounds-checksum-end-2 : goal.slice_bounds-checksum-end-2
unfolding le
slice_bounds-checksum-end-2 c =
    let list : Change = list_of c.args.lent in
    let fits : length (changes_of list) + 5 ≤ length c.args.out.now = omega (arith, length_record_of list, c.requires) in
    let room : c.put_u8-b.result + 4 ≤ length c.put_u8-b.new.out = omega (arith, fits, c.put_u8-b.ensures.next, c.put_u8-b.auto.out, c.put_changes-a.ensures.next, c.put_changes-a.auto.out) in
    sym (length-take-le _ _ (omega (arith, room)))

pub put_u32-requires : goal.put_u32-requires
unfolding le
put_u32-requires c =
    let list : Change = list_of c.args.lent in
    let fits : length (changes_of list) + 5 ≤ length c.args.out.now = omega (arith, length_record_of list, c.requires) in
    let room : c.put_u8-b.result + 4 ≤ length c.put_u8-b.new.out = omega (arith, fits, c.put_u8-b.ensures.next, c.put_u8-b.auto.out, c.put_changes-a.ensures.next, c.put_changes-a.auto.out) in
    room

pub returns : goal.returns
unfolding record_of body
returns c =
    let list : Change = list_of c.args.lent in
    let w = c.put_changes-a.ensures ⨾ c.put_u8-b.ensures in
    let e : c.checksum-sum.result ≡ checksum_of (body list) = c.checksum-sum.ensures ∙ ap checksum_of (wrote-front w) in
    (w ⨾ (rw e at c.put_u32.ensures)).bytes
