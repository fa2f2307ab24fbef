-- `clear_replay_logs` (document 01: "`clear_replay_logs` sends reading, then the replay queue, to cleanup, empties overlays, sets last ids to
-- 0, clears dirty."; log.rs lines 816 to 837).
use Rattle.std.specs.Prelude.{◌&&◌, List, ℕ, Result, Ok, Err}
use Rattle.std.specs.Prelude.{if◌then◌else◌}
use Rattle.answer.specs.declared.answer.Answer.{Answer}
use Rattle.answer.specs.declared.answer.Answer.TheVariants.{BadState}
use Rattle.memory.specs.Parts.{parts_kept}
use Rattle.memory.specs.Overlays.{overlays_of, no_overlays}
use Rattle.memory.specs.declared.overlays.LogOverlays.{LogOverlays}
use Rattle.memory.specs.declared.span.Holder.TheVariants as holder
use Rattle.files.specs.Queues.{queues_kept}
use Rattle.files.specs.Calls.{clear_replay_logs_kept}
use Rattle.files.specs.declared.queues.Queues.{Queues}
use Rattle.log_calls.specs.declared.clear_replay.LogsCleared.{LogsCleared}

-- empty overlays are counts of 0, whatever their memory holds: it is left as it was
abbrev pub logs_cleared_kept : Queues → LogsCleared
logs_cleared_kept q = record { overlays = no_overlays; queues = (clear_replay_logs_kept q).queues }

-- 13 for overlays or queues that break a rule
unfoldable pub logs_cleared : LogOverlays → List ℕ → List ℕ → Queues → Result LogsCleared Answer
logs_cleared o words bytes q =
    if parts_kept holder.Shared (overlays_of o words bytes).parts && queues_kept q then Ok (logs_cleared_kept q) else Err BadState

-- the overlays then: as they were where the call refuses
abbrev pub cleared_overlays : LogOverlays → Result LogsCleared Answer → LogOverlays
cleared_overlays o (Ok c) = c.overlays
cleared_overlays o (Err a) = o

-- and the queues
abbrev pub cleared_queues : Queues → Result LogsCleared Answer → Queues
cleared_queues q (Ok c) = c.queues
cleared_queues q (Err a) = q
