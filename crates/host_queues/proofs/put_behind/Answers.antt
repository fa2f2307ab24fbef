-- `put_behind` meets its contract: three queues, one behind the other. Assumes nothing.
use Rattle.std.proofs.Common.{rules, ◌≡◌, length, sym, arith}
use lib.Seq.{length-take-le}
use Rattle.host_queues.specs.Queues.{queue_words}
use Rattle.host_queues.proofs.Laid.{three}
use Rattle.host_queues.proofs.put_behind.Goals as goal

pub slice_bounds-put_queue-end-2 : goal.slice_bounds-put_queue-end-2
slice_bounds-put_queue-end-2 c = sym (length-take-le 65 c.args.words.now (omega arith))

pub returns-clause-words : goal.returns-clause-words
returns-clause-words c =
    let q = c.args.q.now in
    let a : length q.cleanup_queue.numbers ≡ 64 = c.put_queue.ensures.whole in
    let b : length q.log_pool.numbers ≡ 64 = c.put_queue-2.ensures.whole in
    rw (c.put_queue.ensures.words, c.put_queue-2.ensures.words, c.put_queue-3.ensures.words) (three c.args.words.now (queue_words q.cleanup_queue) (queue_words q.log_pool) 65 65 (omega arith) (omega arith) (queue_words q.replay_queue))
