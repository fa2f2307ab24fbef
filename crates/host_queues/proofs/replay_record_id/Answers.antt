-- `replay_record_id` meets its contract: the first of the replay queue's ids, where it holds any. Assumes nothing.
use Rattle.std.proofs.Common.{◌≡◌, ◌∙◌, sym, ap, get_or, Some, ℕ, take, drop, arith}
use borrow.Author.Tests.{ne_eqb}
use lib.Seq.{get_or-drop, get_or-take}
use Rattle.files.specs.Calls.{replay_record_id}
use Rattle.host_queues.specs.Queues.{queues_from}
use Rattle.host_queues.proofs.replay_record_id.Goals as goal

pub returns-in-Some : goal.returns-in-Some
unfolding queues_from replay_record_id
returns-in-Some c =
    let w = c.args.words.now in
    let h = c.if-words-gt0.true in
    let first : get_or (take 64 (drop 265 w)) 0 0 ≡ get_or w 265 0 = get_or-take 64 (drop 265 w) 0 0 (omega arith) ∙ get_or-drop 265 w 0 0 ∙ ap (λ (n : ℕ). get_or w n 0) (omega arith) in
    rw (c.in-Some.ensures.whole.0, ne_eqb (get_or w 200 0) 0 (λ e. omega (arith, e, h))) (ap Some (sym first))
