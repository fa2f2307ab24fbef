-- Overlays that kept their rules keep them over `clear_replay_logs` (the queues' rules are kept by their own
-- part of it: `clear-replay_logs`, crates/files/proofs/KeepsRules). Assumes nothing.
use mathlib.Core.Path.{◌≡◌}
use mathlib.Core.Bool.{Bool, true, false, ◌&&◌}
use mathlib.Core.List.{List}
use Prim.Native.Nat.{ℕ}
use Rattle.std.specs.Prelude.{if◌then◌else◌, Ok, Err, IfOk}
use Rattle.answer.specs.declared.answer.Answer.{Answer}
use Rattle.answer.specs.declared.answer.Answer.TheVariants.{BadState}
use Rattle.memory.specs.Parts.{parts_of, parts_kept}
use Rattle.memory.specs.Overlays.{no_overlays}
use Rattle.memory.specs.declared.overlays.LogOverlays.{LogOverlays}
use Rattle.memory.specs.declared.span.Holder.TheVariants as holder
use Rattle.memory.proofs.Empty.{empty_kept}
use Rattle.memory.proofs.Spans.{words-all, bytes-all}
use Rattle.files.specs.Queues.{queues_kept}
use Rattle.files.specs.declared.queues.Queues.{Queues}
use Rattle.log_calls.specs.ClearReplay.{logs_cleared_kept, logs_cleared}
use Rattle.log_calls.specs.declared.clear_replay.LogsCleared.{LogsCleared}

module _ (o : LogOverlays) (words bytes : List ℕ) (q : Queues) where
  pub no-overlays : parts_kept holder.Shared (parts_of holder.Shared o.counts words bytes) ≡ false → logs_cleared o words bytes q ≡ Err BadState
  unfolding logs_cleared
  no-overlays e = rw e

  module _ (e : parts_kept holder.Shared (parts_of holder.Shared o.counts words bytes) ≡ true) where
    pub no-queues : queues_kept q ≡ false → logs_cleared o words bytes q ≡ Err BadState
    unfolding logs_cleared
    no-queues f = rw (e, f)

    pub cleared : queues_kept q ≡ true → logs_cleared o words bytes q ≡ Ok (logs_cleared_kept q)
    unfolding logs_cleared
    cleared f = rw (e, f)

-- "Rules of a state": whatever `clear_replay_logs` answers
module _ (o : LogOverlays) (words bytes : List ℕ) (q : Queues) (ok : parts_kept holder.Shared (parts_of holder.Shared o.counts words bytes) ≡ true) where
  emptied : parts_kept holder.Shared (parts_of holder.Shared no_overlays.counts words bytes) ≡ true
  emptied = empty_kept holder.Shared words bytes (words-all holder.Shared o.counts words bytes ok) (bytes-all holder.Shared o.counts words bytes ok)

  pub overlays_stay : IfOk (logs_cleared o words bytes q) (λ (c : LogsCleared). parts_kept holder.Shared (parts_of holder.Shared c.overlays.counts words bytes) ≡ true)
  unfolding logs_cleared
  overlays_stay = by (parts_kept holder.Shared (parts_of holder.Shared o.counts words bytes) && queues_kept q)
    where
      by : (b : Bool) → IfOk {T = LogsCleared} {E = Answer} (if b then Ok (logs_cleared_kept q) else Err BadState) (λ (c : LogsCleared). parts_kept holder.Shared (parts_of holder.Shared c.overlays.counts words bytes) ≡ true)
      by true = emptied
      by false = tt
