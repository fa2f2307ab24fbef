-- `put_front` meets its contract: three words, a queue, two words. Assumes nothing.
use Rattle.std.proofs.Common.{rules, [], ◌∷◌, ◌≡◌, length, refl, arith}
use Rattle.numbers.proofs.Methods.{one-from}
use Rattle.numbers.specs.Numbers.{one_if}
use Rattle.host_queues.specs.Queues.{queue_words}
use Rattle.host_queues.proofs.Laid.{three}
use Rattle.host_queues.proofs.put_front.Goals as goal

pub returns-clause-words : goal.returns-clause-words
returns-clause-words c =
    let q = c.args.q.now in
    let a : length q.read_queue.numbers ≡ 64 = c.put_queue.ensures.whole in
    rw (c.copy_from_slice.ensures.after, c.put_queue.ensures.words, c.copy_from_slice-2.ensures.after, c.from.ensures, c.from-2.ensures, one-from q.appending.some, one-from q.reading.some)
    (three c.args.words.now (one_if q.appending.some ∷ q.appending.id ∷ q.appending.size ∷ []) (queue_words q.read_queue) 3 65 refl (omega arith) (one_if q.reading.some ∷ q.reading.id ∷ []))
