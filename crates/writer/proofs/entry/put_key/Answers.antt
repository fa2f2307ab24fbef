-- `put_key` meets its contract: its words are those of its row, its bytes begin at its slot. Assumes nothing.
use mathlib.Core.Path.{◌≡◌}
use Prim.Native.Nat.{ℕ, ◌*◌, ◌≤◌}
use native.Mathlib.Omega.{arith}
use lib.ListN.{length}
use Rattle.overlay.specs.Rules.{slot_size}
use Rattle.writer.specs.Bytes.{entry_bytes_at}
use Rattle.writer.proofs.Rules.{begins_in, lies-there, part-is}
use Rattle.writer.proofs.entry.put_key.Goals as goal

pub overflow_mul-s : goal.overflow_mul-s
overflow_mul-s c =
    let begins : (size : ℕ) → size ≡ slot_size c.args.kind → size * c.args.p ≤ length c.args.bytes.now = λ size e. begins_in c.args.kind c.args.rows.now c.args.bytes.now c.args.p c.requires.0 size e in
    omega (arith, begins c.slot_size.result c.slot_size.ensures.0)

pub slice_bounds-put_entry-count : goal.slice_bounds-put_entry-count
slice_bounds-put_entry-count c =
    let begins : (size : ℕ) → size ≡ slot_size c.args.kind → size * c.args.p ≤ length c.args.bytes.now = λ size e. begins_in c.args.kind c.args.rows.now c.args.bytes.now c.args.p c.requires.0 size e in
    begins c.slot_size.result c.slot_size.ensures.0

pub slice_bounds-put_entry-start : goal.slice_bounds-put_entry-start
slice_bounds-put_entry-start c =
    let begins : (size : ℕ) → size ≡ slot_size c.args.kind → size * c.args.p ≤ length c.args.bytes.now = λ size e. begins_in c.args.kind c.args.rows.now c.args.bytes.now c.args.p c.requires.0 size e in
    begins c.slot_size.result c.slot_size.ensures.0

pub put_entry-requires : goal.put_entry-requires
unfolding entry_bytes_at
put_entry-requires c =
    rw (part-is c.args.kind c.args.rows.now c.args.bytes.now c.args.p c.requires.0 c.slot_size.result c.slot_size.ensures.0)
    (lies-there c.args.kind c.args.rows.now c.args.bytes.now c.args.p c.requires.0, c.requires.1)

pub returns : goal.returns
unfolding entry_bytes_at
returns c = rw (part-is c.args.kind c.args.rows.now c.args.bytes.now c.args.p c.requires.0 c.slot_size.result c.slot_size.ensures.0) at c.put_entry.ensures
