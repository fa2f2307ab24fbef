-- `remove_in` meets its contract: the kind's two parts come back without the entry, the other parts as they were. Assumes nothing.
use native.Mathlib.Omega.{arith}
use Rattle.keys.specs.Keys.{rank}
use Rattle.overlay.specs.Rules.{Overlay}
use Rattle.overlay.specs.Overlay.{removed_from}
use Rattle.memory.specs.Parts.{remove_from}
use Rattle.memory.proofs.Spans.{words-all, bytes-all}
use Rattle.memory.proofs.Lent.{fits, lent-kept, comes_back}
use Rattle.memory.proofs.together.remove_in.Goals as goal

pub slice_bounds-remove-end : goal.slice_bounds-remove-end
slice_bounds-remove-end c =
    let a = c.args in
    omega (arith, (fits a.holder a.kind c.span_of-s.result c.span_of-s.ensures).words_in, words-all a.holder a.counts a.words.now a.bytes.now c.requires)

pub slice_bounds-remove-end-2 : goal.slice_bounds-remove-end-2
slice_bounds-remove-end-2 c =
    let a = c.args in
    omega (arith, (fits a.holder a.kind c.span_of-s.result c.span_of-s.ensures).bytes_in, bytes-all a.holder a.counts a.words.now a.bytes.now c.requires)

pub slice_bounds-remove-count-2 : goal.slice_bounds-remove-count-2
slice_bounds-remove-count-2 c = let a = c.args in (fits a.holder a.kind c.span_of-s.result c.span_of-s.ensures).bytes-rise

pub slice_bounds-remove-start-2 : goal.slice_bounds-remove-start-2
slice_bounds-remove-start-2 c = let a = c.args in (fits a.holder a.kind c.span_of-s.result c.span_of-s.ensures).bytes-rise

pub remove-n-requires : goal.remove-n-requires
remove-n-requires c =
    let a = c.args in
    lent-kept a.holder a.kind a.counts a.words.now a.bytes.now c.requires c.span_of-s.result c.span_of-s.ensures c.of.result c.of.ensures

pub returns : goal.returns
unfolding remove_from
returns c =
    let a = c.args in
    comes_back a.holder a.kind a.counts a.words.now a.bytes.now c.requires (λ (o : Overlay). removed_from a.kind o (rank a.table a.index) a.id) c.span_of-s.result c.span_of-s.ensures c.of.result c.of.ensures c.remove-n.result c.with.result c.with.ensures
    c.remove-n.new.words c.remove-n.new.bytes c.words-1.given.0 c.bytes-1.given.0 c.remove-n.ensures
