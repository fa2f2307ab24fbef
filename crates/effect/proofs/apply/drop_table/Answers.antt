-- `drop_table` meets its contract. Assumes nothing.
use mathlib.Core.Path.{◌≡◌, sym, ap, ◌∙◌}
use Prim.Native.Nat.{ℕ, ◌+◌, ◌-◌, ◌≤◌}
use native.Mathlib.Omega.{arith}
use borrow.Author.Rules.{rules}
use lib.ListN.{length, take, drop, replicate, length-take, length-drop, length-replicate}
use Rattle.effect.proofs.Spots.{table_room, puts_undropped, puts-dropped}
use Rattle.effect.proofs.Steps.{stored}
use Rattle.effect.proofs.apply.drop_table.Goals as goal

pub overflow_add-end : goal.overflow_add-end
overflow_add-end c = let h = table_room _ _ _ _ _ (sym c.in-Some.ensures) in omega (arith, h, c.size.ensures.0)

pub slice_bounds-fill-end : goal.slice_bounds-fill-end
slice_bounds-fill-end c = let h = table_room _ _ _ _ _ (sym c.in-Some.ensures) in omega (arith, h, c.size.ensures.0)

pub returns-in-Some : goal.returns-in-Some
returns-in-Some c =
    let l = c.args.image.now in
    let at = c.in-Some.at in
    let n = c.size.result in
    let h = table_room _ _ _ _ _ (sym c.in-Some.ensures) in
    let room : at + n ≤ length l = omega (arith, h, c.size.ensures.0) in
    let k : length (take (at + n - at) (drop at l)) ≡ n = simp (length-take, length-drop) (omega arith) in
    let z : c.fill.new.self ≡ replicate n 0 = c.fill.ensures.after (λ y e. search rules) ∙ ap (λ (m : ℕ). replicate m 0) k in
    rw z (stored l (replicate n 0) at n room (length-replicate n 0)) ∙ puts-dropped _ _ _ _ _ _ (sym c.in-Some.ensures) _ c.size.ensures.0

pub returns-in_default : goal.returns-in_default
returns-in_default c = puts_undropped _ _ _ _ (sym c.in_default.ensures)
