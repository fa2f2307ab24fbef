-- The words made are those of no files. Assumes nothing.
use Rattle.std.proofs.Common.{ap, ◌∙◌}
use Rattle.answer.specs.Answer.{number_of}
use Rattle.host_words.specs.Head.{head_room, head_after}
use Rattle.host_queues.specs.Queues.{queues_size, queues_words}
use Rattle.edge_queues.proofs.queueing.hongsathep_queues_new.Goals as goal

pub returns-clause-queues : goal.returns-clause-queues
returns-clause-queues c =
    let w = c.args.queues.now in
    c.make.ensures.words ∙ ap (head_after queues_size (number_of (head_room queues_size w)) w) (c.queues_words.ensures ∙ ap queues_words c.new.ensures)
