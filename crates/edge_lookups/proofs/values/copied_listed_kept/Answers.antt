-- The list is looked in, and the values' parts. Assumes nothing.
use mathlib.Core.Path.{ap, ◌∙◌}
use Rattle.keys.specs.Keys.{rank}
use Rattle.query.specs.Query.{Looked, is_there, bytes_of, copied_over}
use Rattle.edge_lookups.proofs.Copies.{lent_kept, lent_listed}
use Rattle.edge_lookups.proofs.values.copied_listed_kept.Goals as goal

pub value_kept-requires : goal.value_kept-requires
value_kept-requires c = let a = c.args in let s = c.shared_values.ensures in (c.requires.0, lent_kept a.overlays a.words.now a.bytes.now c.requires.1 _ _ _ s.overlays s.words s.bytes)

pub returns : goal.returns
returns c =
    let a = c.args in
    let s = c.shared_values.ensures in
    let e = lent_listed a.overlays a.words.now a.bytes.now c.requires.1 _ _ _ s.overlays s.words s.bytes a.list a.items.now a.chunks.now (rank a.table a.index) in
    record {
      told = c.value_kept.ensures.told ∙ ap (λ (l : Looked). is_there l.entry) e;
      copied = c.value_kept.ensures.copied ∙ ap (λ (l : Looked). copied_over (bytes_of l.entry) a.dest.now) e;
    }
