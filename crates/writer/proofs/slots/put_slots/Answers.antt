-- `put_slots` meets its contract. Assumes nothing.
use mathlib.Core.Path.{◌≡◌, refl, ap, ◌∙◌}
use Prim.Native.Nat.{ℕ, ◌+◌, ◌*◌, ◌≤◌}
use native.Mathlib.Nat.{zero-mul}
use native.Mathlib.Omega.{arith}
use lib.ListN.{length}
use Rattle.words.specs.declared.mask.BitRuns.{BitRuns}
use Rattle.words.proofs.Runs.{passed-wide}
use Rattle.output.proofs.Laws.{all_left}
use Rattle.writer.proofs.Masks.{slots-room, slots-rest, slots-done}
use Rattle.writer.proofs.slots.put_slots.Goals as goal

pub loop-r-init : goal.loop-r-init
loop-r-init c =
    let e = c.into_iter-r-iterator.ensures.into_iter_gives in
    let first : c.into_iter-r-iterator.result.from ≡ 0 = ap (λ (s : BitRuns). s.from) e ∙ c.of-r-items.ensures.0 in
    let all : c.into_iter-r-iterator.result.rest ≡ c.args.mask = ap (λ (s : BitRuns). s.rest) e ∙ c.of-r-items.ensures.1 in
    record { can_next = tt; is_finite = tt; long = refl; left = rw (first, all, zero-mul) (all_left _ _ _) }

pub slice_bounds-copy_into-end : goal.slice_bounds-copy_into-end
slice_bounds-copy_into-end c = omega (arith, passed-wide c.in-Some.ensures.steps c.next.new.self.within c.args.width, c.requires.0)

pub copy_into-o-requires : goal.copy_into-o-requires
copy_into-o-requires c =
    omega (arith, slots-room c.args.width c.args.chunk.now c.in-Some.ensures.steps c.next.new.self.within c.loop-r.invariant.left, c.loop-r.invariant.long, c.requires.1)

pub loop-r-preserved : goal.loop-r-preserved
loop-r-preserved c =
    let l = c.loop-r in
    record {
      can_next = tt;
      is_finite = tt;
      long = c.copy_into-o.auto.out ∙ l.invariant.long;
      left = slots-rest c.args.width c.args.chunk.now c.in-Some.ensures.steps c.next.new.self.within l.invariant.left c.copy_into-o.ensures;
    }

pub returns : goal.returns
returns c = slots-done _ _ c.loop-r.r-iterator.rest _ (omega (arith, c.in-None.ensures.steps)) c.loop-r.invariant.left
