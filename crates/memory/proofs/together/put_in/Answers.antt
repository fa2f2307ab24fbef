-- `put_in` meets its contract: the kind's two parts come back with the put, the other parts as they were. Assumes nothing.
use native.Mathlib.Omega.{arith}
use Rattle.keys.specs.Keys.{rank}
use Rattle.overlay.specs.Rules.{Overlay}
use Rattle.overlay.specs.Overlay.{put_over}
use Rattle.memory.specs.Parts.{put_into}
use Rattle.memory.proofs.Spans.{words-all, bytes-all}
use Rattle.memory.proofs.Lent.{fits, lent-kept, lent-takes, comes_back}
use Rattle.memory.proofs.together.put_in.Goals as goal

pub slice_bounds-put-end : goal.slice_bounds-put-end
slice_bounds-put-end c =
    let a = c.args in
    omega (arith, (fits a.holder a.kind c.span_of-s.result c.span_of-s.ensures).words_in, words-all a.holder a.counts a.words.now a.bytes.now c.requires.0)

pub slice_bounds-put-end-2 : goal.slice_bounds-put-end-2
slice_bounds-put-end-2 c =
    let a = c.args in
    omega (arith, (fits a.holder a.kind c.span_of-s.result c.span_of-s.ensures).bytes_in, bytes-all a.holder a.counts a.words.now a.bytes.now c.requires.0)

pub put-n-requires : goal.put-n-requires
put-n-requires c =
    let a = c.args in (
      lent-kept a.holder a.kind a.counts a.words.now a.bytes.now c.requires.0 c.span_of-s.result c.span_of-s.ensures c.of.result c.of.ensures,
      c.requires.1,
      lent-takes a.holder a.kind a.counts a.words.now a.bytes.now c.requires.0 c.span_of-s.result c.span_of-s.ensures c.of.result c.of.ensures (rank a.e.table a.e.index) c.requires.2,
    )

pub returns : goal.returns
unfolding put_into
returns c =
    let a = c.args in
    comes_back a.holder a.kind a.counts a.words.now a.bytes.now c.requires.0 (λ (o : Overlay). put_over a.kind o a.e.table a.e.index a.e.id a.e.mark a.e.bytes.now) c.span_of-s.result c.span_of-s.ensures c.of.result c.of.ensures c.put-n.result c.with.result c.with.ensures
    c.put-n.new.words c.put-n.new.bytes c.words-1.given.0 c.bytes-1.given.0 c.put-n.ensures
