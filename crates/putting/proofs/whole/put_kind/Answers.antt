-- `put_kind` meets its contract: the list's parts of the kind lent at once. Assumes nothing.
use mathlib.Core.Path.{refl}
use Rattle.memory.specs.Parts.{Parts, span_of}
use Rattle.putting.specs.Inner.{parts_at}
use Rattle.memory.specs.declared.span.Holder.TheVariants.{Shared, List}
use Rattle.putting.proofs.Long.{at_words, at-bytes}
use Rattle.putting.proofs.Kept.{kind-goes, kind-put}
use Rattle.putting.proofs.whole.put_kind.Goals as goal

pub words-requires : goal.words-requires
words-requires c = let a = c.args in at_words List a.list a.list_words.now a.list_bytes.now c.requires.listed

pub bytes-requires : goal.bytes-requires
bytes-requires c = let a = c.args in at-bytes List a.list a.list_words.now a.list_bytes.now c.requires.listed

pub put_listed-requires : goal.put_listed-requires
put_listed-requires c =
    let a = c.args in
    let shared : Parts = parts_at Shared a.counts a.words.now a.bytes.now in
    rw (c.room.ensures, c.words.ensures, c.bytes.ensures) (kind-goes a.kind a.list a.list_words.now a.list_bytes.now shared (span_of List a.kind) refl c.of.result c.of.ensures c.requires)

pub returns : goal.returns
returns c =
    let a = c.args in
    let shared : Parts = parts_at Shared a.counts a.words.now a.bytes.now in
    kind-put a.kind a.list a.list_words.now a.list_bytes.now shared (span_of List a.kind) refl c.of.result c.of.ensures a.id _ (rw (c.room.ensures, c.words.ensures, c.bytes.ensures) at c.put_listed.ensures)
