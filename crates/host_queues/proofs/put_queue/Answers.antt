-- `put_queue` meets its contract. Assumes nothing.
use Rattle.std.proofs.Common.{List, ◌∷◌, ap, ◌∙◌, arith}
use Prim.Native.Nat.{ℕ}
use Rattle.host_queues.proofs.Laid.{a_count}
use Rattle.host_queues.proofs.put_queue.Goals as goal

pub returns-clause-words : goal.returns-clause-words
returns-clause-words c = a_count c.args.words.now c.copy_from_slice.new.to c.args.q.now.count (omega arith) ∙ ap (λ (l : List ℕ). c.args.q.now.count ∷ l) c.copy_from_slice.ensures.after
