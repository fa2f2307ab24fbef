-- `Queues::replay_next_kept` meets its contract. Assumes nothing.
use native.Mathlib.Omega.{arith}
use mathlib.Core.Path.{ap}
use Rattle.files.specs.declared.queues.Queues.{Queues}
use Rattle.files.proofs.Rule.{kept_facts, cleaned_replay}
use Rattle.files.proofs.queues.Queues.replay_next_kept.Goals as goal

pub reading_cleaned-q-requires : goal.reading_cleaned-q-requires
reading_cleaned-q-requires c = omega (arith, (kept_facts c.args.self c.requires).room.all)

pub front_replayed-requires : goal.front_replayed-requires
front_replayed-requires c =
    let q = c.args.self in
    omega (arith, ap (λ (x : Queues). x.replay_queue.count) c.reading_cleaned-q.ensures, cleaned_replay q, (kept_facts q c.requires).room.replay)
