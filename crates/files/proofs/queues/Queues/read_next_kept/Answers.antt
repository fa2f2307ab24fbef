-- `Queues::read_next_kept` meets its contract: a return at a time. Assumes nothing.
use mathlib.Core.Path.{sym, ap, ◌∙◌}
use Rattle.answer.specs.declared.answer.Answer.TheVariants.{EndOfLog}
use Rattle.record.specs.declared.reader.LogReader.{LogReader}
use Rattle.record.specs.Next.{reader_at, opening_of}
use Rattle.files.specs.Read.{not_read, read_by}
use Rattle.files.proofs.ReadOf.{has_reading, has-waiting, next_reading, next-none, next-front}
use Rattle.files.proofs.queues.Queues.read_next_kept.Goals as goal

pub read-requires : goal.read-requires
read-requires c = (c.requires, has_reading c.args.self c.if-self.true)

pub returns-then-self : goal.returns-then-self
returns-then-self c =
    let a = c.args in
    c.read.ensures ∙ ap (read_by a.self c.new-reader.result) c.open-step.ensures
    ∙ ap (λ (r : LogReader). read_by a.self r (opening_of a.log.now r)) c.new-reader.ensures ∙ sym (next_reading a.self a.log.now a.position a.validate c.if-self.true)

pub returns-then-self-eq0 : goal.returns-then-self-eq0
returns-then-self-eq0 c =
    let a = c.args in
    c.not_read.ensures ∙ ap (λ (r : LogReader). not_read EndOfLog r a.self) c.new-reader.ensures ∙ sym (next-none a.self a.log.now a.position a.validate c.if-self.false c.if-self-eq0.true)

pub read-requires-2 : goal.read-requires-2
read-requires-2 c = (c.requires, has-waiting c.args.self c.if-self.false c.if-self-eq0.false)

pub returns : goal.returns
returns c =
    let a = c.args in
    c.read-2.ensures ∙ ap (λ (r : LogReader). read_by a.self r c.open-step-2.result) c.new-reader.ensures
    ∙ ap (read_by a.self (reader_at a.position a.validate)) (c.open-step-2.ensures ∙ ap (opening_of a.log.now) c.new.ensures)
    ∙ sym (next-front a.self a.log.now a.position a.validate c.if-self.false c.if-self-eq0.false)
