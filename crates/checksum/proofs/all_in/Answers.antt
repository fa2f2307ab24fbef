-- `checksum::all_in` meets its contract: the parts are the ends of the bytes. Assumes nothing.
use mathlib.Core.Path.{◌≡◌, sym, ap, ◌∙◌}
use mathlib.Core.List.{List}
use Prim.Native.Nat.{ℕ, ◌-◌, ◌*◌, ◌/◌}
use native.Mathlib.Omega.{arith}
use lib.ListN.{length, take, drop, length-drop}
use lib.Seq.{take_all}
use Rattle.checksum.specs.Checksum.{updated}
use Rattle.checksum.specs.Inner.{ahead, carried_number}
use Rattle.checksum.proofs.all_in.Goals as goal

pub returns : goal.returns
returns c =
    let bs : List ℕ = c.args.bytes.now in
    let at : ℕ = (length bs - 40) / 8 * 8 in
    let last : take (length bs - at) (drop at bs) ≡ drop at bs = take_all (length bs - at) (drop at bs) (omega (arith, length-drop at bs)) in
    let rest : take (length (drop at bs) - 40) (drop 40 (drop at bs)) ≡ drop 40 (drop at bs) = take_all (length (drop at bs) - 40) (drop 40 (drop at bs)) (omega (arith, length-drop 40 (drop at bs))) in
    c.bytes_in-2.ensures
    ∙ ap (λ (l : List ℕ). updated c.forty_in-r.result (take (length l - 40) (drop 40 l))) last
    ∙ ap (updated c.forty_in-r.result) rest
    ∙ ap (λ (l : List ℕ). updated c.forty_in-r.result (drop 40 l)) (sym last)
    ∙ c.forty_in-r.ensures
    ∙ ap (ahead (carried_number c.carry_all.result)) last
    ∙ c.carry_all.ensures
