-- `end_read` meets its contract: three tests, and then what was tested. Assumes nothing.
use mathlib.Core.Path.{◌≡◌, sym, ◌∙◌}
use Rattle.answer.specs.Answer.{refusal}
use Rattle.answer.specs.declared.answer.Answer.TheVariants.{BadState}
use Rattle.memory.specs.Overlays.{Overlays, overlays_of}
use Rattle.clearing.specs.EndRead.{to_clear}
use Rattle.replay.specs.Replay.{fault}
use Rattle.clearing.proofs.Ended.{refused-ends, no-directory, no-overlays, no-next, tested-ends}
use Rattle.clearing.proofs.end_of_reading.end_read.Goals as goal
use Rattle.clearing.proofs.end_of_reading.end_read.Goals.{then-not-kept-via-then-not-kept, then-not-kept-via-else-not-kept+then-not-all_kept, then-not-kept-via-else-not-kept+else-not-all_kept+then-next-eq0}

pub returns-then-not-kept : goal.returns-then-not-kept
returns-then-not-kept c =
    let a = c.args in
    let shared : Overlays = overlays_of a.overlays a.words.now a.bytes.now in
    let k = sym c.kept.ensures in
    let broken : to_clear a.directory a.log.now a.position shared a.next ≡ fault (refusal BadState a.position) = elim c.then-not-kept.branch [
      | then-not-kept-via-then-not-kept w ↦ no-directory a.directory a.log.now a.position shared a.next (k ∙ w.if-not-kept.true)
      | then-not-kept-via-else-not-kept+then-not-all_kept w ↦
          no-overlays a.directory a.log.now a.position shared a.next (k ∙ w.if-not-kept.false) (sym w.all_kept.ensures ∙ w.if-not-all_kept.true)
      | then-not-kept-via-else-not-kept+else-not-all_kept+then-next-eq0 w ↦
          no-next a.directory a.log.now a.position shared a.next (k ∙ w.if-not-kept.false) (sym w.all_kept.ensures ∙ w.if-not-all_kept.false) w.if-next-eq0.true
    ] in
    rw c.new.ensures (refused-ends a.position a.next a.overlays a.words.now a.bytes.now (refusal BadState a.position) _ broken)

pub end_read_kept-requires : goal.end_read_kept-requires
end_read_kept-requires c = (sym c.kept.ensures ∙ c.if-not-kept.false, sym c.all_kept.ensures ∙ c.if-not-all_kept.false, c.if-next-eq0.false)

pub returns : goal.returns
returns c =
    let a = c.args in
    tested-ends a.directory a.log.now a.position (overlays_of a.overlays a.words.now a.bytes.now) a.next (sym c.kept.ensures ∙ c.if-not-kept.false)
    (sym c.all_kept.ensures ∙ c.if-not-all_kept.false) c.if-next-eq0.false _ c.end_read_kept.ensures
