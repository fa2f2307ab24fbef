-- `Layout::of` meets its contract. Assumes nothing.
use Rattle.std.proofs.Common.{refl, ◌∙◌, ap, arith, ◌<◌, ◌≢◌, length, length-set, get_or-set_other, get_or-set_same, below_more}
use mathlib.Core.List.{List}
use lib.ListN.{take}
use Rattle.directory.specs.Directory.{sizes_of, start_of}
use Rattle.directory.specs.declared.table.TableDescription.{TableDescription}
use Rattle.directory.proofs.Tables.{sizes_more}
use Rattle.directory.proofs.layout.Layout.of.Goals as goal

pub loop-row-init : goal.loop-row-init
unfolding sizes_of
loop-row-init c = record { long = refl; small = omega arith; next = refl; begin = λ k h. absurd (omega arith) }

pub loop-row-preserved : goal.loop-row-preserved
unfolding start_of
loop-row-preserved c =
    let l = c.loop-row in
    let ts = c.in_use-t-items.result.now in
    let before = l.invariant in
    let room : l.row < length l.starts = omega (arith, before.long, c.loop-row-test.true, c.in_use-t-items.ensures.few) in
    record {
      long = rw length-set before.long;
      small = omega (arith, before.small, c.size-at.ensures.1);
      next = omega (arith, sizes_more ts l.row c.loop-row-test.true, c.size-at.ensures.0, before.next);
      begin =
          below_more _ _
          (λ k h. let ne : k ≢ l.row = omega arith in rw get_or-set_other (before.begin k h))
          (rw get_or-set_same (before.next ∙ ap (λ (us : List TableDescription). sizes_of (take l.row us)) c.in_use-t-items.ensures.tables));
    }
