-- `clear_action` meets its contract: the key that the action names, if it names one. Assumes nothing.
use mathlib.Core.Path.{◌≡◌}
use Rattle.keys.specs.Keys.{rank}
use Rattle.memory.specs.declared.span.Holder.TheVariants.{Shared}
use Rattle.memory.specs.Parts.{Parts, parts_of, remove_from}
use Rattle.clearing.proofs.Walk.{no_key, one_key}
use Rattle.clearing.proofs.clear.clear_action.Goals as goal

pub returns-in-None : goal.returns-in-None
returns-in-None c =
    let parts : Parts = parts_of Shared c.args.counts c.args.words.now c.args.bytes.now in
    no_key c.args.id c.args.action parts c.named_by.ensures c.in-None.is

pub returns-in-Some : goal.returns-in-Some
returns-in-Some c =
    let parts : Parts = parts_of Shared c.args.counts c.args.words.now c.args.bytes.now in
    let a = c.args in
    let q : Parts = parts_of Shared c.remove_in.result c.remove_in.new.words c.remove_in.new.bytes in
    let e : q ≡ remove_from c.in-Some.kind parts (rank c.in-Some.table c.in-Some.index) a.id = c.remove_in.ensures in
    one_key a.id a.action parts c.named_by.ensures c.in-Some.kind c.in-Some.table c.in-Some.index c.in-Some.is {q = q} e
