-- `put_changes` meets its contract: the entries, then the drops of each kind. Assumes nothing.
use mathlib.Core.Path.{◌≡◌}
use mathlib.Core.List.{◌++◌}
use Prim.Native.Nat.{ℕ, ◌+◌, ◌≤◌}
use native.Mathlib.Omega.{arith}
use lib.ListN.{length, length-append}
use Rattle.change.specs.Ruled.{list_of}
use Rattle.change.specs.declared.drops.Drops.{Drops}
use Rattle.change.specs.Change.{Change}
use Rattle.change.proofs.OneKind.{few-drops, drops-of_list, count_drops-of_list}
use Rattle.output.proofs.Laws.{◌⨾◌}
use Rattle.writer.specs.Bytes.{drops_bytes}
use Rattle.writer.specs.Inner.{inserts_of, changes_of}
use Rattle.writer.proofs.flush.put_changes.Goals as goal

-- what each call finds free
room : (l : Change) (s t : Drops) → l.drops ≡ s → l.count_drops ≡ t → (n : ℕ) → length (changes_of l) ≤ n → length (inserts_of l) + length (drops_bytes 5 s) + length (drops_bytes 7 t) ≤ n
room l s t e f n h =
    let a = inserts_of l in
    let b = drops_bytes 5 l.drops in
    rw (← e, ← f) (omega (arith, length-append a b, length-append (a ++ b) (drops_bytes 7 l.count_drops), h))

pub put_inserts-a-requires : goal.put_inserts-a-requires
put_inserts-a-requires c = omega (arith, room (list_of c.args.lent) _ _ (drops-of_list c.args.lent) (count_drops-of_list c.args.lent) (length c.args.out.now) c.requires)

pub put_drops-b-requires : goal.put_drops-b-requires
put_drops-b-requires c =
    let fits = room (list_of c.args.lent) _ _ (drops-of_list c.args.lent) (count_drops-of_list c.args.lent) (length c.args.out.now) c.requires in
    ((few-drops c.args.lent).0, omega (arith, c.put_inserts-a.ensures.next, c.put_inserts-a.auto.out))

pub put_drops-requires : goal.put_drops-requires
put_drops-requires c =
    let fits = room (list_of c.args.lent) _ _ (drops-of_list c.args.lent) (count_drops-of_list c.args.lent) (length c.args.out.now) c.requires in
    ((few-drops c.args.lent).1, omega (arith, c.put_drops-b.ensures.next, c.put_drops-b.auto.out, c.put_inserts-a.ensures.next, c.put_inserts-a.auto.out))

pub returns : goal.returns
returns c =
    c.put_inserts-a.ensures
    ⨾ (rw (← drops-of_list c.args.lent) at c.put_drops-b.ensures)
    ⨾ (rw (← count_drops-of_list c.args.lent) at c.put_drops.ensures)
