-- `Queues::kill_logs_kept` meets its contract. Assumes nothing.
use native.Mathlib.Omega.{arith}
use Prim.Native.Nat.{ℕ}
use mathlib.Core.Path.{ap}
use lib.ListN.{length}
use Rattle.std.specs.Prelude.{Option}
use Rattle.numbers.specs.Numbers.{some_of}
use Rattle.numbers.proofs.Laws.{one-le}
use Rattle.files.proofs.Rule.{kept_facts, one-some}
use Rattle.files.proofs.queues.Queues.kill_logs_kept.Goals as goal

pub push_if-remove-requires : goal.push_if-remove-requires
push_if-remove-requires c =
    let r = c.args.self.reading in
    omega (arith, (kept_facts c.args.self c.requires).room.pool, one-le r.some, one-some r.some r.id, ap (λ (o : Option ℕ). length (some_of o)) c.number.ensures)
