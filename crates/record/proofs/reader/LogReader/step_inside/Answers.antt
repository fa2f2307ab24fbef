-- `LogReader::step_inside` meets its contract: what was read lies within the log. Assumes nothing.
use mathlib.Core.Path.{sym, ap, ◌∙◌}
use native.Mathlib.Omega.{arith}
use Rattle.record.specs.Inner.{got_item}
use Rattle.record.specs.Record.{inside}
use Rattle.record.proofs.Formats.{within}
use Rattle.record.proofs.Mapped.{mapped_ok}
use Rattle.record.proofs.reader.LogReader.step_inside.Goals as goal

pub overflow_add-item : goal.overflow_add-item
overflow_add-item c =
    let w = within (inside _ _ _) _ _ _ _ c.requires (sym c.item_at-read.ensures ∙ ap got_item (mapped_ok _ _ _ _ c.map_err.ensures.cases c.in_ok-item.was)) in
    omega (arith, w.inside)

pub after-requires : goal.after-requires
after-requires c =
    let w = within (inside _ _ _) _ _ _ _ c.requires (sym c.item_at-read.ensures ∙ ap got_item (mapped_ok _ _ _ _ c.map_err.ensures.cases c.in_ok-item.was)) in
    (w.behind, w.inside)
