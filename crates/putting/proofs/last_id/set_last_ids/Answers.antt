-- `set_last_ids` meets its contract: the values' part of the list's words. Assumes nothing.
use mathlib.Core.Path.{refl}
use native.Mathlib.Omega.{arith}
use Rattle.directory.specs.declared.table.TableKind.TheVariants.{Value}
use Rattle.memory.specs.Parts.{span_of}
use Rattle.memory.specs.declared.span.Holder.TheVariants.{List}
use Rattle.putting.proofs.Parts.{words-five, words-ruled}
use Rattle.putting.proofs.last_id.set_last_ids.Goals as goal

pub last_ids-requires : goal.last_ids-requires
last_ids-requires c =
    let a = c.args in
    let s = span_of List Value in
    rw (c.room.ensures, c.words-mine.ensures) (words-five List Value a.list a.list_words.now c.requires s refl, omega arith, words-ruled List Value a.list a.list_words.now c.requires s refl a.list.value refl)
