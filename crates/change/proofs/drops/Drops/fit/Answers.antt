-- `Drops::fit` meets its contract. Assumes nothing.
use mathlib.Core.Path.{◌∙◌}
use Rattle.std.proofs.Common.{rules, take}
use borrow.Author.Tests.{tests}
use Rattle.std.proofs.lemmas.Iterator.{YieldsList-from_slice}
use Rattle.std.proofs.lemmas.Iterator.Search.{all_from_yields_List}
use Rattle.directory.specs.Directory.{tables_of, stands}
use Rattle.change.specs.Change.{drops_fit}
use Rattle.change.proofs.Fitting.{every-all}
use Rattle.change.proofs.drops.Drops.fit.Goals as goal

pub returns : goal.returns
unfolding drops_fit
returns c =
    let s = c.args.self in
    let there = stands (tables_of c.args.directory) c.args.kind in
    all_from_yields_List there _ _ _ c.all.ensures.ran (YieldsList-from_slice (take s.count s.tables) cc) (λ x b q k. search (rules, tests))
    ∙ every-all there (take s.count s.tables)
