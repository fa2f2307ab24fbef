-- `salvage` meets its contract. Assumes nothing.
use mathlib.Core.Path.{sym, ◌∙◌}
use Rattle.salvaging.proofs.Calls.{bad_directory, bad_memory, door}
use Rattle.salvaging.proofs.salvaged.salvage.Goals as goal
use Rattle.salvaging.proofs.salvaged.salvage.Goals.{then-not-kept-via-then-not-kept, then-not-kept-via-else-not-kept+then-list-ne256}

pub returns-then-not-kept-clause-left : goal.returns-then-not-kept-clause-left
returns-then-not-kept-clause-left c =
    let a = c.args in
    elim c.then-not-kept.branch [
      | then-not-kept-via-then-not-kept w ↦ bad_directory a.d a.log.now a.out.now a.list.now (sym c.kept.ensures ∙ w.if-not-kept.true)
      | then-not-kept-via-else-not-kept+then-list-ne256 w ↦ bad_memory a.d a.log.now a.out.now a.list.now (sym c.kept.ensures ∙ w.if-not-kept.false) w.if-list-ne256.true
    ]

pub returns-clause-left : goal.returns-clause-left
returns-clause-left c =
    let a = c.args in
    c.salvage_kept.ensures.left ∙ door a.d a.log.now a.out.now a.list.now (sym c.kept.ensures ∙ c.if-not-kept.false) c.if-list-ne256.false
