-- `put_drops` meets its contract. The invariant: the drops from there on are left to write. Assumes nothing.
use mathlib.Core.Path.{◌≡◌, refl, ◌∙◌}
use Prim.Native.Nat.{◌≤◌, ◌<◌}
use native.Mathlib.Omega.{arith}
use borrow.Author.Rules.{rules}
use lib.ListN.{length}
use lib.Seq.{get_or-take, length-take-le}
use Rattle.output.specs.Put.{le}
use Rattle.output.proofs.Laws.{all_left, joined-room, joined-rest, joined-done}
use Rattle.writer.specs.Bytes.{drop_bytes, drops_bytes}
use Rattle.writer.proofs.drops.put_drops.Goals as goal

pub loop-table-init : goal.loop-table-init
unfolding drops_bytes
loop-table-init c = record { long = refl; left = all_left _ _ _ }

pub put_drop-o-requires : goal.put_drop-o-requires
unfolding drop_bytes le
put_drop-o-requires c =
    let s = c.args.s in
    let l = c.loop-table in
    let long : s.count ≤ length s.tables = let e : length s.tables ≡ 16 = search rules in omega (arith, c.requires.0) in
    let low : l.table-index < s.count = omega (arith, length-take-le s.count s.tables long, c.loop-table-test.true) in
    omega (arith, joined-room (drop_bytes c.args.tag.0) s.tables s.count long l.table-index l.invariant.left low, l.invariant.long, c.requires)

pub loop-table-preserved : goal.loop-table-preserved
loop-table-preserved c =
    let s = c.args.s in
    let l = c.loop-table in
    let long : s.count ≤ length s.tables = let e : length s.tables ≡ 16 = search rules in omega (arith, c.requires.0) in
    let low : l.table-index < s.count = omega (arith, length-take-le s.count s.tables long, c.loop-table-test.true) in
    record {
      long = c.put_drop-o.auto.out ∙ l.invariant.long;
      left = joined-rest (drop_bytes c.args.tag.0) s.tables s.count long l.table-index l.invariant.left low (rw (get_or-take s.count s.tables l.table-index 0 low) at c.put_drop-o.ensures);
    }

pub returns : goal.returns
returns c =
    let s = c.args.s in
    let l = c.loop-table in
    let long : s.count ≤ length s.tables = let e : length s.tables ≡ 16 = search rules in omega (arith, c.requires.0) in
    let past : s.count ≤ l.table-index = omega (arith, length-take-le s.count s.tables long, c.loop-table-test.false) in
    joined-done (drop_bytes c.args.tag.0) s.tables s.count long l.table-index past l.invariant.left
