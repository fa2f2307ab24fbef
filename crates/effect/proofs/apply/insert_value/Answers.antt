-- `insert_value` meets its contract. Assumes nothing.
use mathlib.Core.Path.{◌≡◌, sym, ◌∙◌}
use native.Mathlib.Omega.{arith}
use lib.ListN.{length, take, length-take, length-drop}
use Rattle.directory.specs.declared.table.TableKind.TheVariants.{Value}
use Rattle.effect.proofs.Places.{value-slot}
use Rattle.effect.proofs.Spots.{spotted, puts-nowhere, puts-value}
use Rattle.effect.proofs.Steps.{stored}
use Rattle.effect.proofs.apply.insert_value.Goals as goal

pub overflow_add-at : goal.overflow_add-at
overflow_add-at c = let s = spotted _ Value _ _ _ _ (sym c.in-Some.ensures) in omega (arith, s.room)

pub slice_bounds-copy_from_slice-end : goal.slice_bounds-copy_from_slice-end
slice_bounds-copy_from_slice-end c = let s = spotted _ Value _ _ _ _ (sym c.in-Some.ensures) in omega (arith, s.room)

pub slice_bounds-copy_from_slice-end-in-Some : goal.slice_bounds-copy_from_slice-end-in-Some
slice_bounds-copy_from_slice-end-in-Some c =
    let s = spotted _ Value _ _ _ _ (sym c.in-Some.ensures) in
    simp length-take (omega (arith, s.long, c.requires.one_value s.place s.is ∙ value-slot _ _ s.place s.is))

pub copy_from_slice-requires : goal.copy_from_slice-requires
copy_from_slice-requires c =
    let s = spotted _ Value _ _ _ _ (sym c.in-Some.ensures) in
    simp (length-take, length-drop) (omega (arith, s.room, s.long, c.requires.one_value s.place s.is ∙ value-slot _ _ s.place s.is))

pub returns-in-Some : goal.returns-in-Some
returns-in-Some c =
    let s = spotted _ Value _ _ _ _ (sym c.in-Some.ensures) in
    let n : length (take c.in-Some.unit c.args.payload.now) ≡ c.in-Some.unit = simp length-take (omega (arith, s.long, c.requires.one_value s.place s.is ∙ value-slot _ _ s.place s.is)) in
    rw c.copy_from_slice.ensures.after (stored c.args.image.now (take c.in-Some.unit c.args.payload.now) c.in-Some.at c.in-Some.unit (omega (arith, s.room)) n)
    ∙ puts-value _ Value _ _ _ _ _ (sym c.in-Some.ensures) _

pub returns-in_default : goal.returns-in_default
returns-in_default c = puts-nowhere _ Value _ _ _ (sym c.in_default.ensures) _
