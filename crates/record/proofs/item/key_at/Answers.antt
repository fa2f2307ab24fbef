-- `key_at` meets its contract: the index is below the table's count, or not. Assumes nothing.
use mathlib.Core.Path.{sym, ◌∙◌}
use borrow.Author.Tests.{lt-ltb, le-ltb}
use Rattle.record.proofs.Parts.{key_met}
use Rattle.record.proofs.item.key_at.Goals as goal

pub returns-then-index-from : goal.returns-then-index-from
returns-then-index-from c =
    sym (key_met _ _ _ _ _ _ _ c.if-log-body-lt10.false c.u16_at-table.ensures c.u64_at-index.ensures (sym c.in-Some.is ∙ c.find.ensures)
    ∙ rw (lt-ltb _ _ (rw c.from.ensures at c.if-index-from.true)))

pub returns-else-index-from : goal.returns-else-index-from
returns-else-index-from c =
    sym (key_met _ _ _ _ _ _ _ c.if-log-body-lt10.false c.u16_at-table.ensures c.u64_at-index.ensures (sym c.in-Some.is ∙ c.find.ensures)
    ∙ rw (le-ltb _ _ (rw c.from.ensures at c.if-index-from.false)))
