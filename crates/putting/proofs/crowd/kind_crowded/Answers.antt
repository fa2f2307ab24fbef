-- `kind_crowded` meets its contract: the kind's part of each memory. Assumes nothing.
use mathlib.Core.Path.{refl}
use Rattle.memory.specs.Parts.{span_of}
use Rattle.memory.specs.declared.span.Holder.TheVariants.{Shared, List}
use Rattle.overlay.proofs.Ruled.{keys-room, keys-order}
use Rattle.putting.proofs.Parts.{words-five, words-ruled}
use Rattle.putting.proofs.Crowds.{few_shared, crowd_as}
use Rattle.putting.proofs.crowd.kind_crowded.Goals as goal

pub lacking-more-requires-clause-words_len : goal.lacking-more-requires-clause-words_len
lacking-more-requires-clause-words_len c =
    let a = c.args in
    let s = span_of Shared a.kind in
    let r = words-ruled Shared a.kind a.counts a.words.now c.requires.1 s refl c.of-n.result c.of-n.ensures in
    rw (c.room.ensures, c.words.ensures) (words-five Shared a.kind a.counts a.words.now c.requires.1 s refl, keys-room a.kind s.room _ _ _ r, keys-order a.kind s.room _ _ _ r)

pub lacking-more-requires-clause-listed_len : goal.lacking-more-requires-clause-listed_len
lacking-more-requires-clause-listed_len c =
    let a = c.args in
    let s = span_of List a.kind in
    let r = words-ruled List a.kind a.list a.list_words.now c.requires.0 s refl c.of.result c.of.ensures in
    rw (c.room-2.ensures, c.words-2.ensures) (words-five List a.kind a.list a.list_words.now c.requires.0 s refl, keys-room a.kind s.room _ _ _ r, keys-order a.kind s.room _ _ _ r)

pub overflow_sub-result : goal.overflow_sub-result
overflow_sub-result c = let a = c.args in few_shared a.kind a.list a.counts a.list_words.now a.words.now c.requires.1 c.of-n.result c.of-n.ensures

pub returns : goal.returns
returns c =
    let a = c.args in
    crowd_as a.kind a.list a.counts a.list_words.now a.words.now c.requires.1 (span_of Shared a.kind) refl (span_of List a.kind) refl c.of-n.result c.of-n.ensures c.of.result c.of.ensures c.lacking-more.result
    (rw (c.room.ensures, c.words.ensures, c.room-2.ensures, c.words-2.ensures) at c.lacking-more.ensures)
