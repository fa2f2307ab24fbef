-- `put_masked` meets its contract: two calls, one behind the other. Assumes nothing.
use Prim.Native.Nat.{◌+◌, ◌≤◌}
use native.Mathlib.Omega.{arith}
use lib.ListN.{length}
use borrow.Author.Rules.{rules}
use Rattle.output.specs.Put.{le}
use Rattle.output.proofs.Laws.{◌⨾◌}
use Rattle.writer.specs.Bytes.{set_slots, masked_bytes}
use Rattle.writer.proofs.Masks.{length_masked}
use Rattle.writer.proofs.slots.put_masked.Goals as goal

pub put_u64-a-requires : goal.put_u64-a-requires
put_u64-a-requires c =
    let fits : c.args.at + 8 + length (set_slots 64 c.args.width c.args.mask c.args.chunk.now) ≤ length c.args.out.now = omega (arith, c.requires, length_masked c.args.width c.args.mask c.args.chunk.now) in
    omega (arith, fits)

pub put_slots-requires : goal.put_slots-requires
unfolding le
put_slots-requires c =
    let fits : c.args.at + 8 + length (set_slots 64 c.args.width c.args.mask c.args.chunk.now) ≤ length c.args.out.now = omega (arith, c.requires, length_masked c.args.width c.args.mask c.args.chunk.now) in
    (search rules, omega (arith, fits))

pub returns : goal.returns
unfolding masked_bytes
returns c = c.put_u64-a.ensures ⨾ c.put_slots.ensures
