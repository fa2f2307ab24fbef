-- `taken` meets its contract. Assumes nothing.
use mathlib.Core.Path.{◌≡◌, sym, ap, ◌∙◌}
use Prim.Native.Nat.{◌≤◌}
use native.Mathlib.Omega.{arith}
use lib.ListN.{length}
use borrow.Author.Rules.{rules}
use Rattle.words.proofs.Little.{Bytes}
use Rattle.checker.proofs.Calls.{takes-room, unread-long, front_of}
use Rattle.checker.proofs.checker.LogChecker.taken.Goals as goal

pub unread-old-requires : goal.unread-old-requires
unread-old-requires c = takes-room c.args.self c.args.bytes.now c.requires

pub stepped-requires : goal.stepped-requires
stepped-requires c =
    let s = c.args.self in
    let o = c.unread-old in
    let sized : length s.part ≡ 1043 = search rules in
    let held : length o.result.now ≡ s.held = ap length o.ensures ∙ sym (unread-long s sized (takes-room s c.args.bytes.now c.requires)) in
    let room : length o.result.now ≤ 1043 = omega (arith, takes-room s c.args.bytes.now c.requires) in
    let known : Bytes o.result.now = search rules in
    (c.requires, front_of o.result.now c.args.bytes.now _ room c.min-more.ensures s o.ensures held known (λ k. (c.type_inv.bytes k).fits) _ c.join-part.ensures)
