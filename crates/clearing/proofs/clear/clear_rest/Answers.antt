-- `clear_rest` meets its contract. The invariant: what is left of the record, cleared from the overlays as they stand, is the record cleared
-- from the overlays as they were. Assumes nothing.
use mathlib.Core.Path.{refl, sym, ap, ◌∙◌}
use native.Mathlib.Omega.{arith}
use Rattle.record.specs.declared.reader.LogReader.{LogReader}
use Rattle.replay.specs.Inner.{is_walked, moved_to}
use Rattle.replay.specs.Replay.{rest_in}
use Rattle.replay.proofs.Items.{item_refused, item_taken, item_place, item_next}
use Rattle.replay.proofs.Rest.{unstopped}
use Rattle.memory.specs.declared.span.Holder.TheVariants.{Shared}
use Rattle.memory.specs.Parts.{parts_of}
use Rattle.clearing.specs.Inner.{cleared_walk}
use Rattle.clearing.proofs.Walk.{last-cleared, more-cleared}
use Rattle.clearing.proofs.clear.clear_rest.Goals as goal

pub loop-i-init : goal.loop-i-init
loop-i-init c = (c.requires.0.within, refl, refl, c.requires.1, c.requires.2, refl)

pub returns-in_default : goal.returns-in_default
returns-in_default c =
    let a = c.args in
    let l = c.loop-i in
    let d = a.directory.now in
    absurd (unstopped d a.log.now (moved_to a.r l.at) _ l.invariant.4
    (item_refused d a.log.now a.r c.requires.0 l.at l.invariant.0 _ c.in_default.ensures))

pub returns-then-is_end : goal.returns-then-is_end
returns-then-is_end c =
    let a = c.args in
    let l = c.loop-i in
    let d = a.directory.now in
    last-cleared a.r.record_id d a.log.now (moved_to a.r l.at) _ (parts_of Shared l.left l.words l.bytes)
    (item_taken d a.log.now a.r c.requires.0 l.at l.invariant.0 _ c.in-Ok.ensures) (sym c.is_end.ensures ∙ c.if-is_end.true)
    ∙ l.invariant.5

pub overflow_add-at : goal.overflow_add-at
overflow_add-at c =
    let a = c.args in
    let l = c.loop-i in
    let d = a.directory.now in
    omega (arith, (item_place d a.log.now a.r c.requires.0 l.at l.invariant.0 _ c.in-Ok.ensures).1)

pub loop-i-smaller : goal.loop-i-smaller
loop-i-smaller c =
    let a = c.args in
    let l = c.loop-i in
    let d = a.directory.now in
    let p = item_place d a.log.now a.r c.requires.0 l.at l.invariant.0 _ c.in-Ok.ensures in
    omega (arith, p.0, p.1)

pub loop-i-preserved : goal.loop-i-preserved
loop-i-preserved c =
    let a = c.args in
    let l = c.loop-i in
    let d = a.directory.now in
    let log = a.log.now in
    let taken = c.in-Ok.ensures in
    let took = item_taken d log a.r c.requires.0 l.at l.invariant.0 _ taken in
    let ended = sym c.is_end.ensures ∙ c.if-is_end.false in
    let next = item_next d log a.r c.requires.0 l.at l.invariant.0 _ taken ended in
    let cleared = c.clear_action-left in
    let m = more-cleared a.r.record_id d log (moved_to a.r l.at) _ (parts_of Shared l.left l.words l.bytes) took cleared.ensures ended l.invariant.3 l.invariant.4 in (
      (item_place d log a.r c.requires.0 l.at l.invariant.0 _ taken).1,
      cleared.auto.words ∙ l.invariant.1,
      cleared.auto.bytes ∙ l.invariant.2,
      m.0,
      ap (λ (x : LogReader). is_walked (rest_in d log x)) (sym next) ∙ m.1,
      ap (λ (x : LogReader). cleared_walk a.r.record_id (rest_in d log x) (parts_of Shared cleared.result cleared.new.words cleared.new.bytes)) (sym next) ∙ m.2 ∙ l.invariant.5,
    )
