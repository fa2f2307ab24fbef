-- What a step is held against by the theorems that say how far it goes and what it looks at; `Next` says what is answered.
use Rattle.std.specs.Prelude.{List, ℕ, ◌+◌, ◌<◌, ◌≤◌, length, Result, Ok, Err}
use Rattle.record.specs.Next.{refused}
use Rattle.record.specs.declared.reader.LogReader.{LogReader}
use Rattle.record.specs.declared.reader.Stepped.{Stepped}
use Rattle.answer.specs.declared.answer.Refusal.{Refusal}

-- a step goes forward and stays in the log
pub record On (log : List ℕ) (r : LogReader) (s : Stepped) : Type 0 where
  pub forward : r.position < s.reader.position
  pub inside : s.reader.position ≤ length log

-- a step's answer with n bytes more in front
abbrev pub moved_step : ℕ → Result Stepped Refusal → Result Stepped Refusal
moved_step n (Err x) = refused x.answer (n + x.position)
moved_step n (Ok s) = Ok (record {
  action = s.action;
  start = n + s.start;
  length = s.length;
  reader = record { position = n + s.reader.position; record_id = s.reader.record_id; crc32 = s.reader.crc32; validate = s.reader.validate; inside = s.reader.inside };
})
