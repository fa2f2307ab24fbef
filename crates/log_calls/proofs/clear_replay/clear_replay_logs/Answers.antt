-- `clear_replay_logs` meets its contract: overlays and queues tested, and the second door. Assumes nothing.
use Rattle.std.proofs.Common.{sym, ap, ◌∙◌}
use Rattle.std.specs.Prelude.{Ok}
use Rattle.log_calls.specs.declared.clear_replay.LogsCleared.{LogsCleared}
use Rattle.log_calls.proofs.Kept.{no-overlays, no-queues, cleared}
use Rattle.log_calls.proofs.clear_replay.clear_replay_logs.Goals as goal
use Rattle.log_calls.proofs.clear_replay.clear_replay_logs.Goals.{else-all_kept-via-then-all_kept+else-kept, else-all_kept-via-else-all_kept}

pub clear_replay_logs_kept-requires : goal.clear_replay_logs_kept-requires
clear_replay_logs_kept-requires c = sym c.kept.ensures ∙ c.if-kept.true

pub returns-then-kept : goal.returns-then-kept
returns-then-kept c =
    let a = c.args in
    ap (λ (r : LogsCleared). Ok r) c.clear_replay_logs_kept.ensures ∙ sym (cleared a.overlays a.words.now a.bytes.now a.queues (sym c.all_kept.ensures ∙ c.if-all_kept.true) (sym c.kept.ensures ∙ c.if-kept.true))

pub returns-else-all_kept : goal.returns-else-all_kept
returns-else-all_kept c =
    let a = c.args in
    elim c.else-all_kept.branch [
      | else-all_kept-via-then-all_kept+else-kept w ↦ sym (no-queues a.overlays a.words.now a.bytes.now a.queues (sym c.all_kept.ensures ∙ w.if-all_kept.true) (sym w.kept.ensures ∙ w.if-kept.false))
      | else-all_kept-via-else-all_kept w ↦ sym (no-overlays a.overlays a.words.now a.bytes.now a.queues (sym c.all_kept.ensures ∙ w.if-all_kept.false))
    ]
