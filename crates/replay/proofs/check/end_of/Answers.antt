-- `end_of` meets its contract. Assumes nothing.
use borrow.Author.Rules.{rules}
use mathlib.Core.Path.{◌≡◌, sym, ap, ◌∙◌}
use Prim.Native.Nat.{◌+◌}
use native.Mathlib.Omega.{arith}
use Rattle.std.specs.Prelude.{Ok}
use Rattle.std.proofs.lemmas.Result.{err_from_is_err_and}
use Rattle.answer.specs.Answer.{refusal}
use Rattle.record.specs.Inner.{got_item}
use Rattle.record.specs.declared.reader.LogReader.{LogReader}
use Rattle.record.proofs.Mapped.{mapped_ok, mapped_err}
use Rattle.replay.specs.Inner.{moved_to}
use Rattle.replay.specs.Replay.{rest_in, end_in}
use Rattle.replay.proofs.Checked.{ended-place}
use Rattle.replay.proofs.Items.{item_refused, item_taken, item_place, item_ends, item_next}
use Rattle.replay.proofs.Rest.{stop, last, more-ends}
use Rattle.replay.proofs.check.end_of.Goals as goal

pub returns-in_err-item-clause-end : goal.returns-in_err-item-clause-end
returns-in_err-item-clause-end c =
    let a = c.args in
    let d = a.directory.now in
    let l = c.loop-item in
    let m = mapped_err _ _ _ _ c.map_err.ensures.cases c.in_err-item.was in
    let p = err_from_is_err_and c.from_residual.result c.from_residual.ensures.1 in
    let q : c.in_err-item.field-0.0 ≡ refusal m.0 l.at = search rules in
    rw (p.1, p.2, q)
    (sym (ap end_in (stop d a.log.now (moved_to a.r l.at) _ (item_refused d a.log.now a.r c.requires l.at l.invariant.in_bounds _ (sym (ap got_item m.1) ∙ c.item_at-read.ensures))))
    ∙ l.invariant.same)

pub overflow_add-at : goal.overflow_add-at
overflow_add-at c =
    let a = c.args in
    let taken = sym (ap got_item (mapped_ok _ _ _ _ c.map_err.ensures.cases c.in_ok-item.was)) ∙ c.item_at-read.ensures in
    omega (arith, (item_place a.directory.now a.log.now a.r c.requires c.loop-item.at c.loop-item.invariant.in_bounds c.in_ok-item.item taken).1)

pub returns-then-is_end : goal.returns-then-is_end
returns-then-is_end c =
    let a = c.args in
    let d = a.directory.now in
    let l = c.loop-item in
    let i = c.in_ok-item.item in
    let taken = sym (ap got_item (mapped_ok _ _ _ _ c.map_err.ensures.cases c.in_ok-item.was)) ∙ c.item_at-read.ensures in
    let e = item_taken d a.log.now a.r c.requires l.at l.invariant.in_bounds i taken in
    let ended =
    ap Ok (sym (item_ends d a.log.now a.r c.requires l.at l.invariant.in_bounds _ taken))
    ∙ sym (ap end_in (last d a.log.now (moved_to a.r l.at) _ e (sym c.is_end.ensures ∙ c.if-is_end.true)))
    ∙ l.invariant.same in
    let place = ended-place d a.log.now a.r (i.start + i.length) c.requires ended in
    record { end = ended; in_bounds = (place.five, place.inside) }

pub loop-item-smaller : goal.loop-item-smaller
loop-item-smaller c =
    let a = c.args in
    let taken = sym (ap got_item (mapped_ok _ _ _ _ c.map_err.ensures.cases c.in_ok-item.was)) ∙ c.item_at-read.ensures in
    let p = item_place a.directory.now a.log.now a.r c.requires c.loop-item.at c.loop-item.invariant.in_bounds c.in_ok-item.item taken in
    omega (arith, p.0, p.1)

pub loop-item-preserved : goal.loop-item-preserved
loop-item-preserved c =
    let a = c.args in
    let d = a.directory.now in
    let log = a.log.now in
    let l = c.loop-item in
    let i = c.in_ok-item.item in
    let taken = sym (ap got_item (mapped_ok _ _ _ _ c.map_err.ensures.cases c.in_ok-item.was)) ∙ c.item_at-read.ensures in
    let e = item_taken d log a.r c.requires l.at l.invariant.in_bounds i taken in
    let ended = sym c.is_end.ensures ∙ c.if-is_end.false in
    record {
      in_bounds = (item_place d log a.r c.requires l.at l.invariant.in_bounds i taken).1;
      same =
          ap (λ (x : LogReader). end_in (rest_in d log x)) (sym (item_next d log a.r c.requires l.at l.invariant.in_bounds _ taken ended))
          ∙ sym (more-ends d log (moved_to a.r l.at) _ e ended)
          ∙ l.invariant.same;
    }
