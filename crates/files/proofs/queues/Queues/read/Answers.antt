-- `Queues::read` meets its contract: what was opened, the end of a log, any other refusal. Assumes nothing.
use Prim.Native.Nat.{◌+◌}
use native.Mathlib.Omega.{arith}
use mathlib.Core.Path.{ap}
use Rattle.numbers.specs.Numbers.{one_if}
use Rattle.files.specs.declared.queues.Queues.{Queues}
use Rattle.files.proofs.Rule.{kept_facts}
use Rattle.files.proofs.ReadOf.{now_room}
use Rattle.files.proofs.queues.Queues.read.Goals as goal

pub now_reading-q-requires : goal.now_reading-q-requires
now_reading-q-requires c = (kept_facts c.args.self c.requires.0).room.read

pub reading_cleaned-requires : goal.reading_cleaned-requires
reading_cleaned-requires c =
    let q = c.args.self in
    omega (arith, ap (λ (x : Queues). x.cleanup_queue.count + one_if x.reading.some) c.now_reading-q.ensures, now_room q (kept_facts q c.requires.0).room c.requires.1, (kept_facts q c.requires.0).room.all)
