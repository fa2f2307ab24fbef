-- `Queues::file_set_full` meets its contract. Assumes nothing.
use Rattle.files.proofs.Rule.{kept_facts}
use Rattle.files.proofs.queues.Queues.file_set_full.Goals as goal

pub file_count-requires : goal.file_count-requires
file_count-requires c =
    let r = (kept_facts c.args.self c.requires).room in
    (r.read, r.cleanup, r.pool, r.replay)
