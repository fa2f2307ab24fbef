-- `put_slots` meets its contract. Assumes nothing.
use Prim.Native.Nat.{ℕ, ◌+◌, ◌-◌, ◌*◌, ◌≤◌}
use mathlib.Core.Path.{◌≡◌, refl, sym, ap, ◌∙◌}
use native.Mathlib.Omega.{arith}
use lib.Count.{ones}
use lib.ListN.{length, take, drop, length-take, length-drop}
use lib.Seq.{length-sets}
use Rattle.words.specs.declared.mask.BitRuns.{BitRuns}
use Rattle.words.proofs.Runs.{passed-wide, passed-ones}
use Rattle.effect.proofs.Steps.{stored, slots-first, slots-run, slots-last}
use Rattle.effect.proofs.store.put_slots.Goals as goal

pub loop-r-init : goal.loop-r-init
loop-r-init c =
    let a = c.args in
    let e = c.into_iter-r-iterator.ensures.into_iter_gives in
    let first : c.into_iter-r-iterator.result.from ≡ 0 = ap (λ (s : BitRuns). s.from) e ∙ c.of-r-items.ensures.0 in
    let all : c.into_iter-r-iterator.result.rest ≡ a.mask = ap (λ (s : BitRuns). s.rest) e ∙ c.of-r-items.ensures.1 in
    record {
      can_next = tt;
      is_finite = tt;
      puts = rw (first, all) (slots-first a.image.now a.entries.now a.width a.at a.mask);
      long = refl;
      held = rw all (omega (arith, c.requires.1));
    }

pub slice_bounds-copy_from_slice-end : goal.slice_bounds-copy_from_slice-end
slice_bounds-copy_from_slice-end c = omega (arith, passed-wide c.in-Some.ensures.steps c.next.new.self.within c.args.width, c.requires.0, c.loop-r.invariant.long)

pub slice_bounds-copy_from_slice-end-in-loop-r : goal.slice_bounds-copy_from_slice-end-in-loop-r
slice_bounds-copy_from_slice-end-in-loop-r c = omega (arith, passed-ones c.in-Some.ensures.steps c.args.width, c.loop-r.invariant.held)

pub loop-r-preserved : goal.loop-r-preserved
loop-r-preserved c =
    let a = c.args in
    let l = c.loop-r in
    let passes = c.in-Some.ensures.steps in
    let n : ℕ = c.in-Some.r.count * a.width in
    let p : ℕ = a.at + c.in-Some.r.from * a.width in
    let held : l.f + n + ones c.next.new.self.rest * a.width ≤ length a.entries.now = omega (arith, passed-ones passes a.width, l.invariant.held) in
    let long : length (take n (drop l.f a.entries.now)) ≡ n = simp (length-take, length-drop) (omega (arith, held)) in
    let cut : l.f + n - l.f ≡ n = omega arith in
    let e : c.copy_from_slice.new.to ≡ take n (drop l.f a.entries.now) = c.copy_from_slice.ensures.after ∙ ap (λ (k : ℕ). take k (drop l.f a.entries.now)) cut in
    let s = stored l.image (take n (drop l.f a.entries.now)) p n (omega (arith, passed-wide passes c.next.new.self.within a.width, l.invariant.long)) long in
    record {
      can_next = tt;
      is_finite = tt;
      puts = rw (e, s) (slots-run l.image a.entries.now a.width a.at l.f passes c.next.new.self.within ∙ l.invariant.puts);
      long = rw (e, s) (simp length-sets l.invariant.long);
      held = held;
    }

pub returns : goal.returns
returns c =
    let l = c.loop-r in
    let a = c.args in
    sym (slots-last l.image a.entries.now (64 - l.r-iterator.from) a.width (a.at + l.r-iterator.from * a.width) l.r-iterator.rest l.f (omega (arith, c.in-None.ensures.steps))) ∙ l.invariant.puts
