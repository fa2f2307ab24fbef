-- `put_entry` meets its contract: four calls, one behind the other. Assumes nothing.
use Prim.Native.Nat.{◌+◌, ◌≤◌}
use native.Mathlib.Omega.{arith}
use lib.ListN.{length}
use Rattle.output.specs.Put.{le}
use Rattle.output.proofs.Laws.{◌⨾◌}
use Rattle.writer.specs.Bytes.{payload_of, entry_bytes}
use Rattle.writer.proofs.Masks.{length-entry}
use Rattle.writer.proofs.entry.put_entry.Goals as goal

pub put_u8-a-requires : goal.put_u8-a-requires
put_u8-a-requires c =
    let fits : c.args.at + 11 + length (payload_of c.args.kind c.args.mark c.args.bytes.now) ≤ length c.args.out.now = omega (arith, c.requires.1, length-entry c.args.kind c.args.table c.args.index c.args.mark c.args.bytes.now) in
    omega (arith, fits)

pub put_u16-b-requires : goal.put_u16-b-requires
unfolding le
put_u16-b-requires c =
    let fits : c.args.at + 11 + length (payload_of c.args.kind c.args.mark c.args.bytes.now) ≤ length c.args.out.now = omega (arith, c.requires.1, length-entry c.args.kind c.args.table c.args.index c.args.mark c.args.bytes.now) in
    omega (arith, fits)

pub put_u64-c-requires : goal.put_u64-c-requires
unfolding le
put_u64-c-requires c =
    let fits : c.args.at + 11 + length (payload_of c.args.kind c.args.mark c.args.bytes.now) ≤ length c.args.out.now = omega (arith, c.requires.1, length-entry c.args.kind c.args.table c.args.index c.args.mark c.args.bytes.now) in
    omega (arith, fits)

pub put_payload-requires : goal.put_payload-requires
unfolding le
put_payload-requires c =
    let fits : c.args.at + 11 + length (payload_of c.args.kind c.args.mark c.args.bytes.now) ≤ length c.args.out.now = omega (arith, c.requires.1, length-entry c.args.kind c.args.table c.args.index c.args.mark c.args.bytes.now) in
    (c.requires.0, omega (arith, fits))

pub returns : goal.returns
unfolding entry_bytes
returns c = (rw c.insert_tag.ensures at c.put_u8-a.ensures) ⨾ c.put_u16-b.ensures ⨾ c.put_u64-c.ensures ⨾ c.put_payload.ensures
