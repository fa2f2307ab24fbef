-- `item_at` meets its contract: the drops. Assumes nothing.
use mathlib.Core.Path.{◌≡◌, sym, ◌∙◌}
use Prim.Native.Nat.{◌≤◌, ◌-◌}
use borrow.Author.Rules.{rules}
use lib.ListN.{length, get_or}
use Rattle.std.proofs.lemmas.Result.{err_from_is_err_and}
use Rattle.directory.specs.declared.table.TableKind.TheVariants.{Index, RefCount}
use Rattle.record.specs.Record.{drop_index, drop_ref_count, inside_by}
use Rattle.record.proofs.Parts.{dropped-stop, dropped_met, inside_met}
use Rattle.record.proofs.item.item_at.Goals as goal

pub returns-in_err-number-in-5 : goal.returns-in_err-number-in-5
unfolding inside_by
returns-in_err-number-in-5 c =
    let tag : get_or c.args.log.now c.args.at 0 ≡ 5 = search rules in
    let room : 1 ≤ length c.args.log.now - c.args.at = search rules in
    let p = err_from_is_err_and c.from_residual.result c.from_residual.ensures.1 in
    rw (p.1, p.2) (dropped-stop _ _ _ Index drop_index _ c.in_err-number-in-5.ensures ∙ sym (inside_met _ _ _ _ _ 5 room tag))

pub returns-in_ok-number-in-5 : goal.returns-in_ok-number-in-5
unfolding inside_by
returns-in_ok-number-in-5 c =
    let tag : get_or c.args.log.now c.args.at 0 ≡ 5 = search rules in
    let room : 1 ≤ length c.args.log.now - c.args.at = search rules in
    rw c.bare.ensures (dropped_met _ _ _ Index drop_index _ c.in_ok-number-in-5.ensures ∙ sym (inside_met _ _ _ _ _ 5 room tag))

pub returns-in_err-number-in-7 : goal.returns-in_err-number-in-7
unfolding inside_by
returns-in_err-number-in-7 c =
    let tag : get_or c.args.log.now c.args.at 0 ≡ 7 = search rules in
    let room : 1 ≤ length c.args.log.now - c.args.at = search rules in
    let p = err_from_is_err_and c.from_residual-in_err-number-in-7.result c.from_residual-in_err-number-in-7.ensures.1 in
    rw (p.1, p.2) (dropped-stop _ _ _ RefCount drop_ref_count _ c.in_err-number-in-7.ensures ∙ sym (inside_met _ _ _ _ _ 7 room tag))

pub returns-in_ok-number-in-7 : goal.returns-in_ok-number-in-7
unfolding inside_by
returns-in_ok-number-in-7 c =
    let tag : get_or c.args.log.now c.args.at 0 ≡ 7 = search rules in
    let room : 1 ≤ length c.args.log.now - c.args.at = search rules in
    rw c.bare-in-7.ensures (dropped_met _ _ _ RefCount drop_ref_count _ c.in_ok-number-in-7.ensures ∙ sym (inside_met _ _ _ _ _ 7 room tag))
