-- `next_log_id_in` meets its contract: refused for the length, for a flag or for the next number. Assumes nothing.
use Rattle.std.proofs.Common.{refl}
use Rattle.host_words.proofs.Parts.{narrowed}
use Rattle.host_queues.proofs.Heads.{formed_as, other_length, no-flag-0, no-flag-68, no-flag-330}
use Rattle.host_queues.proofs.next_log_id_in.Goals as goal
use Rattle.host_queues.proofs.next_log_id_in.Goals.{then-words-ne331-via-then-words-ne331, then-words-ne331-via-else-words-ne331+then-words-gt1, then-words-ne331-via-else-words-ne331+else-words-gt1+then-words-gt1-2, then-words-ne331-via-else-words-ne331+else-words-gt1+else-words-gt1-2+then-words-gt1-3}

pub returns-then-words-ne331-clause-is : goal.returns-then-words-ne331-clause-is
returns-then-words-ne331-clause-is c =
    let w = c.args.words.now in
    elim c.then-words-ne331.branch [
      | then-words-ne331-via-then-words-ne331 v ↦ rw (other_length w v.if-words-ne331.true)
      | then-words-ne331-via-else-words-ne331+then-words-gt1 v ↦ rw (no-flag-0 w v.if-words-ne331.false v.if-words-gt1.true)
      | then-words-ne331-via-else-words-ne331+else-words-gt1+then-words-gt1-2 v ↦ rw (no-flag-68 w v.if-words-ne331.false v.if-words-gt1.false v.if-words-gt1-2.true)
      | then-words-ne331-via-else-words-ne331+else-words-gt1+else-words-gt1-2+then-words-gt1-3 v ↦ rw (no-flag-330 w v.if-words-ne331.false v.if-words-gt1.false v.if-words-gt1-2.false v.if-words-gt1-3.true)
    ]
