-- `put_queues` meets its contract: the front, the queues behind it, the first ids, and two words. Assumes nothing.
use Rattle.std.proofs.Common.{rules, [], ◌∷◌, ◌≡◌, length, sym, arith, length-append}
use lib.Seq.{length-take-le}
use Rattle.numbers.specs.Numbers.{one_if}
use Rattle.numbers.proofs.Methods.{one-from}
use Rattle.host_queues.specs.Queues.{front_words, behind_words}
use Rattle.host_queues.proofs.Laid.{four}
use Rattle.host_queues.proofs.put_queues.Goals as goal

pub slice_bounds-put_front-end-2 : goal.slice_bounds-put_front-end-2
slice_bounds-put_front-end-2 c = sym (length-take-le 70 c.args.words.now (omega arith))

pub returns : goal.returns
returns c =
    let q = c.args.q.now in
    let a = c.put_front.ensures.whole in
    let b = c.put_behind.ensures.whole.0 in
    let d = c.put_behind.ensures.whole.1 in
    let e = c.put_behind.ensures.whole.2 in
    let f : length q.replay_ids ≡ 64 = search rules in
    rw (c.put_front.ensures.words, c.put_behind.ensures.words, c.copy_from_slice.ensures.after, c.copy_from_slice-2.ensures.after, c.from.ensures, c.from-2.ensures, one-from q.dirty)
    (four c.args.words.now (front_words q) (behind_words q) 70 195 (simp length-append (omega arith)) (simp length-append (omega arith)) q.replay_ids (q.next_log_id ∷ one_if q.dirty ∷ []) 64 f)
