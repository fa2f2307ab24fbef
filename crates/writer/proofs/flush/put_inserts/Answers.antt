-- `put_inserts` meets its contract: five calls, one behind the other. Assumes nothing.
use Prim.Native.Nat.{ℕ, ◌+◌, ◌≤◌}
use native.Mathlib.Omega.{arith}
use lib.ListN.{length, length-append}
use Rattle.directory.specs.declared.table.TableKind.TheVariants.{Index, Value, RefCount}
use Rattle.change.specs.Change.{Change}
use Rattle.change.specs.Ruled.{list_of}
use Rattle.change.proofs.OneKind.{id-of_list}
use Rattle.output.specs.Put.{le}
use Rattle.output.proofs.Laws.{◌⨾◌, length-le}
use Rattle.writer.specs.Bytes.{entries}
use Rattle.writer.specs.Inner.{inserts_of}
use Rattle.writer.proofs.flush.put_inserts.Goals as goal

-- what each call finds free
room : (l : Change) (n : ℕ) → length (inserts_of l) ≤ n → 9 + length (entries Index l.parts.index) + length (entries Value l.parts.value) + length (entries RefCount l.parts.ref_count) ≤ n
room l n h = omega (arith, simp (length-append, length-le) at h)

pub put_u8-a-requires : goal.put_u8-a-requires
put_u8-a-requires c = let fits = room (list_of c.args.lent) (length c.args.out.now) c.requires in omega (arith)

pub put_u64-b-requires : goal.put_u64-b-requires
unfolding le
put_u64-b-requires c = let fits = room (list_of c.args.lent) (length c.args.out.now) c.requires in omega (arith)

pub put_kind-c-requires : goal.put_kind-c-requires
unfolding le
put_kind-c-requires c = let fits = room (list_of c.args.lent) (length c.args.out.now) c.requires in omega (arith, c.put_u64-b.ensures.next, c.put_u64-b.auto.out, c.put_u8-a.ensures.next, c.put_u8-a.auto.out)

pub put_kind-d-requires : goal.put_kind-d-requires
unfolding le
put_kind-d-requires c = let fits = room (list_of c.args.lent) (length c.args.out.now) c.requires in omega (arith, c.put_kind-c.ensures.next, c.put_kind-c.auto.out, c.put_u64-b.ensures.next, c.put_u64-b.auto.out, c.put_u8-a.ensures.next, c.put_u8-a.auto.out)

pub put_kind-requires : goal.put_kind-requires
unfolding le
put_kind-requires c = let fits = room (list_of c.args.lent) (length c.args.out.now) c.requires in omega (arith, c.put_kind-d.ensures.next, c.put_kind-d.auto.out, c.put_kind-c.ensures.next, c.put_kind-c.auto.out, c.put_u64-b.ensures.next, c.put_u64-b.auto.out, c.put_u8-a.ensures.next, c.put_u8-a.auto.out)

pub returns : goal.returns
returns c = c.put_u8-a.ensures ⨾ (rw (← id-of_list c.args.lent) at c.put_u64-b.ensures) ⨾ c.put_kind-c.ensures ⨾ c.put_kind-d.ensures ⨾ c.put_kind.ensures
