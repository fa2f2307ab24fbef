-- `salvage_kept` meets its contract. Assumes nothing.
use Rattle.salvaging.proofs.Calls.{short-output, all-within, all-put}
use Rattle.salvaging.proofs.salvaged.salvage_kept.Goals as goal

pub returns-then-out-written-clause-left : goal.returns-then-out-written-clause-left
returns-then-out-written-clause-left c =
    let a = c.args in
    short-output a.d a.log.now a.out.now a.list.now c.in-Ok.lines c.in-Ok.ensures c.if-out-written.true

pub put_records-requires-clause-within : goal.put_records-requires-clause-within
put_records-requires-clause-within c =
    let a = c.args in
    all-within a.d a.log.now a.out.now a.list.now c.in-Ok.lines c.in-Ok.ensures _ c.all.ensures

pub returns-clause-left : goal.returns-clause-left
returns-clause-left c =
    let a = c.args in
    all-put a.d a.log.now a.out.now a.list.now c.in-Ok.lines c.in-Ok.ensures _ _ c.all.ensures c.all-2.ensures c.if-out-written.false _ _ c.put_records.ensures c.put_lines.ensures
