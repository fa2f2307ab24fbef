-- `all_kept` meets its contract. Assumes nothing.
use Rattle.std.proofs.Common.{◌∙◌, sym}
use Rattle.directory.proofs.Tables.{no_table_lem, lasting_at, lasting-end}
use Rattle.directory.proofs.slice.all_kept.Goals as goal

pub returns-then-not-stands_alone : goal.returns-then-not-stands_alone
returns-then-not-stands_alone c =
    let e = lasting_at c.args.tables.now c.loop-row.row no_table_lem c.loop-row-test.true c.stands_alone.result c.stands_alone.ensures in
    sym (rw c.if-not-stands_alone.true at e) ∙ c.loop-row.invariant

pub loop-row-preserved : goal.loop-row-preserved
loop-row-preserved c =
    let e = lasting_at c.args.tables.now c.loop-row.row no_table_lem c.loop-row-test.true c.stands_alone.result c.stands_alone.ensures in
    sym (rw c.if-not-stands_alone.false at e) ∙ c.loop-row.invariant

pub returns : goal.returns
returns c = sym (lasting-end c.args.tables.now c.loop-row.row c.loop-row-test.false) ∙ c.loop-row.invariant
