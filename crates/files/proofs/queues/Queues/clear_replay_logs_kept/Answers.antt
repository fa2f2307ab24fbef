-- `Queues::clear_replay_logs_kept` meets its contract. Assumes nothing.
use native.Mathlib.Omega.{arith}
use mathlib.Core.Path.{ap, ◌∙◌}
use Rattle.answer.specs.declared.answer.Answer.TheVariants.{Done}
use mathlib.Core.Bool.{false}
use Rattle.files.specs.Moves.{with_dirty, replay_cleaned}
use Rattle.files.specs.declared.queues.Queues.{Queues}
use Rattle.files.proofs.Rule.{kept_facts, cleaned_replay, cleaned_cleanup}
use Rattle.files.proofs.queues.Queues.clear_replay_logs_kept.Goals as goal

pub reading_cleaned-requires : goal.reading_cleaned-requires
reading_cleaned-requires c = omega (arith, (kept_facts c.args.self c.requires).room.all)

pub replay_cleaned-q-requires : goal.replay_cleaned-q-requires
replay_cleaned-q-requires c =
    let q = c.args.self in
    omega (arith, ap (λ (x : Queues). x.replay_queue.count) c.reading_cleaned.ensures, ap (λ (x : Queues). x.cleanup_queue.count) c.reading_cleaned.ensures, cleaned_replay q, cleaned_cleanup q, (kept_facts q c.requires).room.all)

pub returns : goal.returns
returns c = ap (λ (x : Queues). record { answer = Done; queues = with_dirty x false }) (c.replay_cleaned-q.ensures ∙ ap replay_cleaned c.reading_cleaned.ensures)
