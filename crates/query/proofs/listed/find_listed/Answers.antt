-- `find_listed` meets its contract: the kind's two parts lent at once, and a part of the second handed out. Assumes nothing.
use mathlib.Core.Path.{sym, ap, ◌∙◌}
use native.Mathlib.Omega.{arith}
use Rattle.keys.specs.Keys.{rank}
use Rattle.overlay.specs.Rules.{Overlay}
use Rattle.memory.specs.declared.span.Holder.TheVariants as holder
use Rattle.memory.proofs.Spans.{words-all, bytes-all, of_parts}
use Rattle.memory.proofs.Lent.{fits, lent_is, lent-kept}
use Rattle.query.specs.Inner.{found_in}
use Rattle.query.proofs.listed.find_listed.Goals as goal

pub offset_bounds-words-s : goal.offset_bounds-words-s
offset_bounds-words-s c = let l = fits holder.List c.args.kind c.span_of-s.result c.span_of-s.ensures in omega (arith, l.words-rise, l.words_in, l.words-most)

pub slice_bounds-find_in-count : goal.slice_bounds-find_in-count
slice_bounds-find_in-count c = (fits holder.List c.args.kind c.span_of-s.result c.span_of-s.ensures).words-rise

pub slice_bounds-find_in-start : goal.slice_bounds-find_in-start
slice_bounds-find_in-start c = (fits holder.List c.args.kind c.span_of-s.result c.span_of-s.ensures).words-rise

pub slice_bounds-find_in-end : goal.slice_bounds-find_in-end
slice_bounds-find_in-end c = omega (arith, (fits holder.List c.args.kind c.span_of-s.result c.span_of-s.ensures).words_in, words-all holder.List c.args.counts c.args.words.now c.args.bytes.now c.requires)

pub slice_bounds-find_in-count-2 : goal.slice_bounds-find_in-count-2
slice_bounds-find_in-count-2 c = (fits holder.List c.args.kind c.span_of-s.result c.span_of-s.ensures).bytes-rise

pub slice_bounds-find_in-start-2 : goal.slice_bounds-find_in-start-2
slice_bounds-find_in-start-2 c = (fits holder.List c.args.kind c.span_of-s.result c.span_of-s.ensures).bytes-rise

pub slice_bounds-find_in-end-2 : goal.slice_bounds-find_in-end-2
slice_bounds-find_in-end-2 c = omega (arith, (fits holder.List c.args.kind c.span_of-s.result c.span_of-s.ensures).bytes_in, bytes-all holder.List c.args.counts c.args.words.now c.args.bytes.now c.requires)

pub find_in-requires : goal.find_in-requires
find_in-requires c =
    let a = c.args in
    lent-kept holder.List a.kind a.counts a.words.now a.bytes.now c.requires c.span_of-s.result c.span_of-s.ensures c.of.result c.of.ensures

pub returns : goal.returns
returns c =
    let a = c.args in
    c.find_in.ensures
    ∙ ap (λ (o : Overlay). found_in a.kind o (rank a.table a.index))
    (lent_is holder.List a.kind a.counts a.words.now a.bytes.now c.span_of-s.result c.span_of-s.ensures c.of.result c.of.ensures ∙ sym (of_parts holder.List a.kind a.counts a.words.now a.bytes.now))
