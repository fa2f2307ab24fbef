-- `insert_chunk` meets its contract. Assumes nothing.
use mathlib.Core.Path.{◌≡◌, sym, ◌∙◌}
use mathlib.Core.List.{List}
use Prim.Native.Nat.{ℕ, ◌-◌}
use native.Mathlib.Omega.{arith}
use lib.ListN.{length, take, drop, length-take, length-drop}
use lib.Seq.{take_all}
use Rattle.effect.proofs.Masks.{entries-held}
use Rattle.effect.proofs.Spots.{spotted, puts-nowhere, puts-chunk}
use Rattle.effect.proofs.apply.insert_chunk.Goals as goal

pub put_slots-requires : goal.put_slots-requires
put_slots-requires c =
    let s = spotted _ _ _ _ _ _ (sym c.in-Some.ensures) in
    let a = c.args in (
      omega (arith, s.room, s.long, c.requires.chunks s.place.table s.kinds),
      simp (length-take, length-drop) (omega (arith, entries-held a.width _ a.payload.now c.u64_at.ensures c.requires.entries)),
    )

pub returns-in-Some : goal.returns-in-Some
returns-in-Some c =
    let a = c.args in
    let p : List ℕ = a.payload.now in
    let e : take (length p - 8) (drop 8 p) ≡ drop 8 p = take_all (length p - 8) (drop 8 p) (simp length-drop (omega arith)) in
    rw e at c.put_slots.ensures ∙ puts-chunk _ _ _ _ a.image.now _ _ (sym c.in-Some.ensures) p _ _ c.u64_at.ensures

pub returns-in_default : goal.returns-in_default
returns-in_default c = puts-nowhere _ _ _ _ _ (sym c.in_default.ensures) _
