-- `apply_rest` meets its contract. Assumes nothing.
use mathlib.Core.Path.{sym, ap, ap₂, ◌∙◌, subst}
use mathlib.Core.List.{List}
use Prim.Native.Nat.{ℕ}
use native.Mathlib.Omega.{arith}
use Rattle.record.specs.declared.reader.LogReader.{LogReader}
use Rattle.effect.specs.Effect.{written, done}
use Rattle.effect.specs.Meaning.{SizedBy}
use Rattle.effect.proofs.Sized.{payload-sized}
use Rattle.replay.specs.Inner.{is_walked, moved_to}
use Rattle.replay.specs.Replay.{rest_in, image_after}
use Rattle.replay.proofs.Items.{payload-part, item_refused, item_taken, item_place, item_next}
use Rattle.replay.proofs.Rest.{unstopped, last_applied, more_applied}
use Rattle.replay.proofs.apply.apply_rest.Goals as goal

pub returns : goal.returns
returns c =
    let a = c.args in
    let l = c.loop-item in
    let d = a.layout.now.directory in
    absurd (unstopped d a.log.now (moved_to a.r l.at) _ l.invariant.walks (item_refused d a.log.now a.r c.requires.walker l.at l.invariant.in_bounds _ c.in_default.ensures))

pub returns-then-is_end : goal.returns-then-is_end
returns-then-is_end c =
    let a = c.args in
    let l = c.loop-item in
    let d = a.layout.now.directory in
    let e = item_taken d a.log.now a.r c.requires.walker l.at l.invariant.in_bounds _ c.in-Ok.ensures in
    last_applied d a.log.now (moved_to a.r l.at) _ l.image e (sym c.is_end.ensures ∙ c.if-is_end.true) ∙ l.invariant.same

pub apply_action-requires : goal.apply_action-requires
apply_action-requires c =
    let a = c.args in
    let l = c.loop-item in
    let i = c.in-Ok.item in
    let d = a.layout.now.directory in
    let p = payload-sized d a.log.now (moved_to a.r l.at) _ (item_taken d a.log.now a.r c.requires.walker l.at l.invariant.in_bounds _ c.in-Ok.ensures) in
    record {
      image = l.invariant.long ∙ c.requires.image;
      sized_by = subst (SizedBy d i.action) (sym (payload-part i.start i.length a.log.now)) p.sized;
    }

pub slice_bounds-apply_action-end : goal.slice_bounds-apply_action-end
slice_bounds-apply_action-end c =
    let a = c.args in
    let l = c.loop-item in
    omega (arith, (item_place a.layout.now.directory a.log.now a.r c.requires.walker l.at l.invariant.in_bounds _ c.in-Ok.ensures).1)

pub overflow_add-at : goal.overflow_add-at
overflow_add-at c =
    let a = c.args in
    let l = c.loop-item in
    omega (arith, (item_place a.layout.now.directory a.log.now a.r c.requires.walker l.at l.invariant.in_bounds _ c.in-Ok.ensures).1)

pub loop-item-smaller : goal.loop-item-smaller
loop-item-smaller c =
    let a = c.args in
    let l = c.loop-item in
    let p = item_place a.layout.now.directory a.log.now a.r c.requires.walker l.at l.invariant.in_bounds _ c.in-Ok.ensures in
    omega (arith, p.0, p.1)

pub loop-item-preserved : goal.loop-item-preserved
loop-item-preserved c =
    let a = c.args in
    let l = c.loop-item in
    let d = a.layout.now.directory in
    let log = a.log.now in
    let taken = c.in-Ok.ensures in
    let ended = sym c.is_end.ensures ∙ c.if-is_end.false in
    let m = more_applied d log (moved_to a.r l.at) _ l.image (item_taken d log a.r c.requires.walker l.at l.invariant.in_bounds _ taken) ended l.invariant.walks in
    let next = item_next d log a.r c.requires.walker l.at l.invariant.in_bounds _ taken ended in
    record {
      in_bounds = (item_place d log a.r c.requires.walker l.at l.invariant.in_bounds _ taken).1;
      long = c.apply_action.auto.image ∙ l.invariant.long;
      walks = ap (λ (x : LogReader). is_walked (rest_in d log x)) (sym next) ∙ m.0;
      same =
          ap₂ (λ (i : List ℕ) (x : LogReader). image_after d i (rest_in d log x))
          (c.apply_action.ensures ∙ ap (λ (bs : List ℕ). done d (written c.in-Ok.item.action bs) l.image) (payload-part c.in-Ok.item.start c.in-Ok.item.length log)) (sym next)
          ∙ sym m.1
          ∙ l.invariant.same;
    }
