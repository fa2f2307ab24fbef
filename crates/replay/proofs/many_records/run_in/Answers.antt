-- `run_in` meets its contract. Assumes nothing.
use mathlib.Core.Path.{sym, ap, ◌∙◌}
use mathlib.Core.List.{[]}
use Prim.Native.Nat.{◌+◌}
use native.Mathlib.Omega.{arith}
use borrow.Author.Tests.{eq-eqb, ne_eqb}
use Rattle.answer.specs.declared.answer.Refusal.{Refusal}
use Rattle.replay.specs.Run.{Outcome, stops}
use Rattle.replay.proofs.Records.{turn-stop, turn_last, turn_more, turn_on}
use Rattle.replay.proofs.many_records.run_in.Goals as goal

pub returns-in-Err : goal.returns-in-Err
returns-in-Err c =
    let l = c.loop-refusal in
    let a = c.args in
    let e = sym (turn-stop a.layout.now.directory a.log.now l.position l.id l.count l.image _ c.replay_in.ensures.image _ (sym c.in-Err.is ∙ c.replay_in.ensures.told)) ∙ l.invariant.same in
    record { told = c.stopped.ensures ∙ ap (λ (o : Outcome). o.ran) e; image = ap (λ (o : Outcome). o.image) e }

pub overflow_add-count : goal.overflow_add-count
overflow_add-count c =
    let l = c.loop-refusal in
    let a = c.args in
    let o = turn_on a.layout.now.directory a.log.now l.position l.id l.count l.image _ c.replay_in.ensures.image _ (sym c.in-Ok.is ∙ c.replay_in.ensures.told) in
    omega (arith, o.forward, o.inside, l.invariant.counted)

pub returns-then-id : goal.returns-then-id
returns-then-id c =
    let l = c.loop-refusal in
    let a = c.args in
    let e = sym (turn_last a.layout.now.directory a.log.now l.position l.id l.count l.image _ c.replay_in.ensures.image _ (sym c.in-Ok.is ∙ c.replay_in.ensures.told) (eq-eqb _ _ c.if-id.true)) ∙ l.invariant.same in
    let s = c.stopped-then-id.ensures ∙ ap (λ (x : Refusal). (stops x c.in-Ok.end (l.count + 1) []).ran) c.new.ensures in
    record { told = s ∙ ap (λ (o : Outcome). o.ran) e; image = ap (λ (o : Outcome). o.image) e }

pub loop-refusal-smaller : goal.loop-refusal-smaller
loop-refusal-smaller c =
    let l = c.loop-refusal in
    let a = c.args in
    let o = turn_on a.layout.now.directory a.log.now l.position l.id l.count l.image _ c.replay_in.ensures.image _ (sym c.in-Ok.is ∙ c.replay_in.ensures.told) in
    omega (arith, o.forward, o.inside)

pub loop-refusal-preserved : goal.loop-refusal-preserved
loop-refusal-preserved c =
    let l = c.loop-refusal in
    let a = c.args in
    let o = turn_on a.layout.now.directory a.log.now l.position l.id l.count l.image _ c.replay_in.ensures.image _ (sym c.in-Ok.is ∙ c.replay_in.ensures.told) in
    record {
      long = c.replay_in.auto.image ∙ l.invariant.long;
      counted = omega (arith, o.forward, l.invariant.counted);
      fits = omega (arith, l.invariant.fits);
      same =
          sym (turn_more a.layout.now.directory a.log.now l.position l.id l.count l.image _ c.replay_in.ensures.image _ (sym c.in-Ok.is ∙ c.replay_in.ensures.told) (ne_eqb _ _ c.if-id.false)) ∙ l.invariant.same;
    }
