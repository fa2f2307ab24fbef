-- `stands_alone` meets its contract. Assumes nothing.
use Rattle.std.proofs.Common.{◌∙◌, not, ap, rules}
use Rattle.std.proofs.lemmas.Iterator.{YieldsList-from_slice}
use Rattle.std.proofs.lemmas.Iterator.Search.{any_from_yields_List}
use Rattle.directory.specs.Table.{is_table}
use Rattle.directory.proofs.Tables.{stands-any}
use Rattle.directory.proofs.slice.stands_alone.Goals as goal

pub returns-then-kept : goal.returns-then-kept
returns-then-kept c =
    let t = c.args.t in
    let e = any_from_yields_List (λ o. is_table o t.kind t.number) _ _ _ c.any.ensures.ran (YieldsList-from_slice c.args.others.now cc) (λ x b q k. search rules) in
    rw (← c.if-kept.ensures) (ap not (e ∙ stands-any t.kind t.number c.args.others.now))
