-- `Queues::clean_logs_kept` meets its contract. Assumes nothing.
use native.Mathlib.Omega.{arith}
use mathlib.Core.Path.{ap}
use Rattle.numbers.specs.declared.queue.NumberQueue.{NumberQueue}
use Rattle.files.specs.Queues.{QueuesTyped}
use Rattle.files.proofs.Rule.{kept_facts}
use Rattle.files.proofs.Clean.{moved-count, pooled-count, clean_as}
use borrow.Author.Rules.{rules}
use Rattle.files.proofs.queues.Queues.clean_logs_kept.Goals as goal

pub insert_all-pool-requires : goal.insert_all-pool-requires
insert_all-pool-requires c =
    let q = c.args.self in
    omega (arith, (kept_facts q c.requires).room.all, moved-count q c.args.max, ap (λ (x : NumberQueue). x.count) c.first-empty.ensures)

pub without_first-q-requires : goal.without_first-q-requires
without_first-q-requires c = (kept_facts c.args.self c.requires).room.cleanup

pub without_first-requires : goal.without_first-requires
without_first-requires c =
    let sized : QueuesTyped c.args.self = record { read = search rules; cleanup = search rules; pool = search rules; replay = search rules } in
    let q = c.args.self in
    let r = (kept_facts q c.requires).room in
    pooled-count q c.args.max sized r _ _ c.first-empty.ensures c.insert_all-pool.ensures

pub returns : goal.returns
returns c = clean_as c.args.self c.args.max _ _ _ _ _ c.first-empty.ensures c.insert_all-pool.ensures c.without_first-q.ensures c.first-q.ensures c.without_first.ensures
