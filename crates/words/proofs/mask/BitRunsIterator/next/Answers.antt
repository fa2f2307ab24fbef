-- The next run of the mask is that of its rest: it lies within the 64 bits.
use Rattle.std.proofs.Common.{refl, arith}
use Rattle.words.proofs.Runs.{turn}
use Rattle.words.proofs.mask.BitRunsIterator.next.Goals as goal

pub overflow_add-self : goal.overflow_add-self
overflow_add-self c =
    let s = c.args.self.now in
    let t = turn s.from s.rest _ _ _ s.within s.below c.next_run-run.ensures.0 c.next_run-run.ensures.1 in
    omega (arith, t.slots)

pub overflow_add-from : goal.overflow_add-from
overflow_add-from c =
    let s = c.args.self.now in
    let t = turn s.from s.rest _ _ _ s.within s.below c.next_run-run.ensures.0 c.next_run-run.ensures.1 in
    omega (arith, t.slots)

pub invariant_of-self : goal.invariant_of-self
invariant_of-self c =
    let s = c.args.self.now in
    let t = turn s.from s.rest _ _ _ s.within s.below c.next_run-run.ensures.0 c.next_run-run.ensures.1 in
    record { within = t.slots; below = t.below }

pub returns-clause-steps : goal.returns-clause-steps
returns-clause-steps c = record { clear = c.next_run-run.result.clear; begins = refl; ends = refl; some = c.next_run-run.ensures.1; bits = c.next_run-run.ensures.0 }
