-- 13, or the kept form. Assumes nothing.
use mathlib.Core.Path.{refl, sym, ◌∙◌}
use Rattle.keys.specs.Keys.{rank}
use Rattle.edge_lookups.proofs.Copies.{value_not, value_done, copied_nothing}
use Rattle.edge_lookups.proofs.values.copied.Goals as goal

pub returns-then-not-shared_kept : goal.returns-then-not-shared_kept
returns-then-not-shared_kept c =
    let a = c.args in
    let e = value_not a.overlays a.words.now a.bytes.now (rank a.table a.index) (sym c.shared_kept.ensures ∙ c.if-not-shared_kept.true) in
    record { told = (refl, e); copied = copied_nothing _ e a.dest.now }

pub copied_kept-requires : goal.copied_kept-requires
copied_kept-requires c = sym c.shared_kept.ensures ∙ c.if-not-shared_kept.false

pub returns : goal.returns
returns c =
    let a = c.args in
    record {
      told = (value_done a.overlays a.words.now a.bytes.now (rank a.table a.index) (sym c.shared_kept.ensures ∙ c.if-not-shared_kept.false), c.copied_kept.ensures.told);
      copied = c.copied_kept.ensures.copied;
    }
