-- `checksum::by_nibbles` meets its contract. Assumes nothing.
use mathlib.Core.Path.{◌≡◌, refl}
use Prim.Native.Nat.{◌+◌, ◌-◌}
use native.Mathlib.Omega.{arith}
use borrow.Author.Rules.{rules}
use Rattle.checksum.proofs.Looked.{look_turn, look_end}
use Rattle.checksum.proofs.by_nibbles.Goals as goal

pub loop-part-init : goal.loop-part-init
loop-part-init c =
    let e : c.args.base + 8 - c.args.base ≡ 8 = omega arith in
    rw e (record { most = omega arith; small = search rules; same = refl })

pub loop-part-preserved : goal.loop-part-preserved
loop-part-preserved c =
    let base = c.args.base in
    let part = c.loop-part.part in
    let e : base + (part - base - 1) ≡ part - 1 = omega arith in
    let f : part - base - 1 ≡ part - 1 - base = omega arith in
    rw (e, f) at (look_turn c.args.t.now c.requires.moved (omega arith) (omega arith) c.loop-part.invariant)

pub returns : goal.returns
returns c = look_end (omega arith) c.loop-part.invariant
