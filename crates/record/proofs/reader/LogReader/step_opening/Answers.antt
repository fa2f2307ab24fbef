-- `LogReader::step_opening` meets its contract: the opening lies within the log. Assumes nothing.
use mathlib.Core.Path.{sym, ap, ◌∙◌}
use Prim.Native.Nat.{ℕ, ◌+◌}
use Rattle.std.specs.Prelude.{Result}
use Rattle.answer.specs.declared.answer.Answer.{Answer}
use Rattle.record.specs.Inner.{got_by}
use Rattle.record.specs.Record.{opening}
use Rattle.record.proofs.Formats.{within}
use Rattle.record.proofs.Mapped.{mapped_ok}
use Rattle.record.proofs.reader.LogReader.step_opening.Goals as goal

pub forward-requires : goal.forward-requires
forward-requires c =
    let end = c.args.self.position + 1 + 8 in
    let w = within (opening _) _ _ _ _ c.requires (sym c.opening_at-read.ensures ∙ ap (λ (x : Result ℕ Answer). got_by x end) (mapped_ok _ _ _ _ c.map_err.ensures.cases c.in_ok-record_id.was)) in
    (w.behind, w.inside)
