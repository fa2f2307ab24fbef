-- 13 for either, or the kept form. Assumes nothing.
use mathlib.Core.Path.{refl, sym, ◌∙◌}
use Rattle.keys.specs.Keys.{rank}
use Rattle.edge_lookups.proofs.Copies.{listed_broken, listed_not, listed_done, copied_nothing}
use Rattle.edge_lookups.proofs.values.copied_listed.Goals as goal

pub returns-then-not-ruled : goal.returns-then-not-ruled
returns-then-not-ruled c =
    let a = c.args in
    let e = listed_broken a.overlays a.words.now a.bytes.now (rank a.table a.index) a.list a.items.now a.chunks.now (sym c.ruled.ensures ∙ c.if-not-ruled.true) in
    record { told = (refl, e); copied = copied_nothing _ e a.dest.now }

pub returns-then-not-shared_kept : goal.returns-then-not-shared_kept
returns-then-not-shared_kept c =
    let a = c.args in
    let e = listed_not a.overlays a.words.now a.bytes.now (rank a.table a.index) a.list a.items.now a.chunks.now (sym c.shared_kept.ensures ∙ c.if-not-shared_kept.true) in
    record { told = (refl, e); copied = copied_nothing _ e a.dest.now }

pub copied_listed_kept-requires : goal.copied_listed_kept-requires
copied_listed_kept-requires c = (sym c.ruled.ensures ∙ c.if-not-ruled.false, sym c.shared_kept.ensures ∙ c.if-not-shared_kept.false)

pub returns : goal.returns
returns c =
    let a = c.args in
    record {
      told = (listed_done a.overlays a.words.now a.bytes.now (rank a.table a.index) a.list a.items.now a.chunks.now (sym c.ruled.ensures ∙ c.if-not-ruled.false) (sym c.shared_kept.ensures ∙ c.if-not-shared_kept.false), c.copied_listed_kept.ensures.told);
      copied = c.copied_listed_kept.ensures.copied;
    }
