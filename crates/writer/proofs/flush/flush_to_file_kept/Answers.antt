-- `flush_to_file_kept` meets its contract: the record is as long as was computed. Assumes nothing.
use mathlib.Core.Path.{◌≡◌, sym, ◌∙◌}
use Prim.Native.Nat.{ℕ, ◌<◌}
use native.Mathlib.Omega.{arith}
use mir.Syntax.{w16, w64}
use mir.Val.{Fits}
use lib.ListN.{length, get_or}
use borrow.Author.Rules.{rules, elem_Fits, elem_fits_field}
use Rattle.change.specs.Change.{Change, change_of}
use Rattle.change.specs.Ruled.{list_of}
use Rattle.writer.specs.Bytes.{record_of}
use Rattle.writer.specs.Typed.{Typed}
use Rattle.writer.proofs.Answers.{too_short, flushes}
use Rattle.writer.proofs.Sizes.{length_record}
use Rattle.writer.proofs.Words.{typed}
use Rattle.writer.proofs.flush.flush_to_file_kept.Goals as goal

pub invariant_of-lent : goal.invariant_of-lent
invariant_of-lent c = record { ruled = c.requires }

pub returns-then-out-size : goal.returns-then-out-size
unfolding list_of
returns-then-out-size c =
    let list : Change = change_of c.args.list c.args.words.now c.args.bytes.now in
    too_short list c.args.out.now c.record_size-size.result c.record_size-size.ensures c.if-out-size.true

pub put_record-requires : goal.put_record-requires
unfolding list_of
put_record-requires c =
    let list : Change = change_of c.args.list c.args.words.now c.args.bytes.now in
    let words-fit : (i : ℕ) → get_or c.args.words.now i 0 < 18446744073709551616 = λ i. omega (arith, c.type_inv.words i) in
    let id-fits : Fits w64 c.args.list.record_id = search rules in
    let drops-fit : (i : ℕ) → Fits w16 (get_or c.args.list.dropped_tables.tables i 0) = λ i. search (c.well_formed.0.1.1.1.1.0.1.1.0.1.1, elem_Fits, elem_fits_field) in
    let count-drops-fit : (i : ℕ) → Fits w16 (get_or c.args.list.dropped_ref_count_tables.tables i 0) = λ i. search (c.well_formed.0.1.1.1.1.1.0.1.1.0.1.1, elem_Fits, elem_fits_field) in
    let list-typed : Typed list = typed c.args.list c.args.words.now c.args.bytes.now words-fit id-fits.fits (λ i. (drops-fit i).fits) (λ i. (count-drops-fit i).fits) (search rules) (search rules) in
    let long : length (record_of list) ≡ c.record_size-size.result = length_record list c.requires list-typed ∙ sym c.record_size-size.ensures in
    omega (arith, long, c.if-out-size.false)

pub returns : goal.returns
unfolding list_of
returns c =
    let list : Change = change_of c.args.list c.args.words.now c.args.bytes.now in
    flushes list c.args.out.now c.record_size-size.result c.record_size-size.ensures c.if-out-size.false _ c.put_record.ensures
