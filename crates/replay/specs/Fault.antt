-- Where a refused record is at fault, and what stands there (document 02, "Five. Where is it broken?"). For the theorems of proofs/Fault; `Replay`
-- says what is answered.
use Rattle.std.specs.Prelude.{true, ◌≡◌, List, ℕ, ◌+◌, ◌<◌, eqb, length, get_or}
use Rattle.std.specs.Prelude.{if◌then◌else◌}
use Rattle.words.specs.Words.{little_at}
use Rattle.answer.specs.Answer.{refusal}
use Rattle.answer.specs.declared.answer.Answer.TheVariants.{EndOfLog, Cut, WrongId, BadArgument}
use Rattle.answer.specs.declared.answer.Refusal.{Refusal}
use Rattle.directory.specs.declared.directory.Directory.{Directory}
use Rattle.record.specs.Fault.{inside_fault, opening_fault, NotWhole}

-- a record that starts at `at` is refused with x. The tag at fault is the one that the answer speaks of: `opening_fault`, `inside_fault`
pub data AtFault (d : Directory) (log : List ℕ) (at expected : ℕ) (x : Refusal) : Type 0 where
  -- 14: "the position handed in", beyond the log's end
  beyond : x.answer ≡ BadArgument → x.position ≡ at → length log < at → AtFault d log at expected x
  -- 1: no byte is left where the record would start
  no_record : x.answer ≡ EndOfLog → x.position ≡ at → at ≡ length log → AtFault d log at expected x
  -- "for an opening fault the record's start"
  at-opening : opening_fault x.answer (get_or log at 0) ≡ true → x.position ≡ at → at < length log → AtFault d log at expected x
  -- "For 5 that is the begin tag": another id stands behind it
  at-begin : x.answer ≡ WrongId → get_or log at 0 ≡ 1 → (little_at 8 log (at + 1) ≡ expected → ⊥) → x.position ≡ at → at < length log → AtFault d log at expected x
  -- "for 2 with no further action begun, the log's end"
  at-end : x.answer ≡ Cut → x.position ≡ length log → at < x.position → AtFault d log at expected x
  -- "the first byte of the action at fault"; of 2 the action isn't whole
  at-action : inside_fault x.answer (get_or log x.position 0) ≡ true → (x.answer ≡ Cut → NotWhole d log x.position) → at < x.position
      → x.position < length log → AtFault d log at expected x

-- what a log that is cut at a record's fault answers: there is nothing to refuse before it, and nothing behind it
abbrev pub cut_there : ℕ → ℕ → Refusal
cut_there at place = if eqb place at then refusal EndOfLog place else refusal Cut place
