-- `Queues::kept` meets its contract. Assumes nothing.
use native.Mathlib.Omega.{arith}
use mathlib.Core.Path.{◌≡◌, sym, ◌∙◌}
use lib.ListN.{length}
use Rattle.files.proofs.Rule.{room_facts}
use borrow.Author.Rules.{rules}
use Rattle.files.proofs.queues.Queues.kept.Goals as goal

pub shared_ref_as_front-pool : goal.shared_ref_as_front-pool
shared_ref_as_front-pool c = let l : length c.args.self.log_pool.numbers ≡ 64 = search rules in omega (arith, l, (room_facts c.args.self (sym c.room_kept.ensures ∙ c.if-not-room_kept.false)).pool)
