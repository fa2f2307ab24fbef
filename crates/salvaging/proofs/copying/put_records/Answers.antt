-- `put_records` meets its contract. Assumes nothing.
use native.Mathlib.Omega.{arith}
use Rattle.salvaging.proofs.Copied.{line-within, record-room, record-rest, records-done}
use Rattle.salvaging.proofs.copying.put_records.Goals as goal

pub copy_into-at-requires : goal.copy_into-at-requires
copy_into-at-requires c =
    let a = c.args in
    let l = c.loop-line in
    rw c.bytes_of.ensures (omega (arith, record-room a.lines.now l.line-index c.loop-line-test.true a.log.now l.invariant.left, c.requires.room))

pub loop-line-preserved : goal.loop-line-preserved
loop-line-preserved c =
    let a = c.args in
    let l = c.loop-line in
    record {
      within = (line-within a.lines.now l.line-index c.loop-line-test.true a.log.now l.invariant.within).1;
      left = record-rest a.lines.now l.line-index c.loop-line-test.true a.log.now l.invariant.left (rw c.bytes_of.ensures at c.copy_into-at.ensures);
    }

pub returns : goal.returns
returns c = let a = c.args in records-done a.lines.now c.loop-line.line-index c.loop-line-test.false a.log.now _ _ c.loop-line.invariant.left
