-- `found` meets its contract. Assumes nothing.
use Rattle.std.proofs.Common.{◌∙◌, sym}
use Rattle.directory.proofs.Tables.{no_table_lem, hit, miss, past}
use Rattle.directory.proofs.slice.found.Goals as goal

pub returns-then-is-clause-first : goal.returns-then-is-clause-first
returns-then-is-clause-first c =
    let a = c.args in
    sym (hit a.tables.now a.kind a.number c.loop-row.row no_table_lem c.loop-row-test.true (sym c.is.ensures ∙ c.if-is.true)) ∙ c.loop-row.invariant

pub loop-row-preserved : goal.loop-row-preserved
loop-row-preserved c =
    let a = c.args in
    sym (miss a.tables.now a.kind a.number c.loop-row.row no_table_lem c.loop-row-test.true (sym c.is.ensures ∙ c.if-is.false)) ∙ c.loop-row.invariant

pub returns : goal.returns
returns c =
    let a = c.args in
    record { first = sym (past a.tables.now a.kind a.number c.loop-row.row c.loop-row-test.false) ∙ c.loop-row.invariant; within = tt }
