-- The list's rules, then the shared memories'. Assumes nothing.
use mathlib.Core.Path.{sym, ◌∙◌}
use Rattle.edge_lookups.specs.Lookups.{listed_spot}
use Rattle.edge_lookups.proofs.lookups.listed_spot.Goals as goal

pub returns-then-not-ruled : goal.returns-then-not-ruled
unfolding listed_spot
returns-then-not-ruled c = let e = sym c.ruled.ensures ∙ c.if-not-ruled.true in rw e

pub returns-then-not-shared_kept : goal.returns-then-not-shared_kept
unfolding listed_spot
returns-then-not-shared_kept c =
    let e = sym c.ruled.ensures ∙ c.if-not-ruled.false in
    let f = sym c.shared_kept.ensures ∙ c.if-not-shared_kept.true in
    rw (e, f)

pub listed_spot_kept-requires : goal.listed_spot_kept-requires
listed_spot_kept-requires c = (sym c.ruled.ensures ∙ c.if-not-ruled.false, sym c.shared_kept.ensures ∙ c.if-not-shared_kept.false)

pub returns : goal.returns
unfolding listed_spot
returns c =
    let e = sym c.ruled.ensures ∙ c.if-not-ruled.false in
    let f = sym c.shared_kept.ensures ∙ c.if-not-shared_kept.false in
    rw (e, f, c.listed_spot_kept.ensures)
