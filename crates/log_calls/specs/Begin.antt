-- `begin_record` (document 01: "The first id is 1, the last handed out 2^64-2."; log.rs lines 839 to 842).
use Rattle.std.specs.Prelude.{ℕ, ◌+◌, eqb, Result, Ok, Err}
use Rattle.std.specs.Prelude.{if◌then◌else◌}
use Rattle.answer.specs.Answer.{last_record_id}
use Rattle.answer.specs.declared.answer.Answer.{Answer}
use Rattle.answer.specs.declared.answer.Answer.TheVariants.{UsedUp, BadState}
use Rattle.change.specs.Change.{new_list}
use Rattle.log_calls.specs.declared.begin.Begun.{Begun}

-- "The first id is 1": what the next id is at first
abbrev pub first_record_id : ℕ
first_record_id = 1

-- the next id, and a new list with it
unfoldable pub begin_record : ℕ → Result Begun Answer
begin_record next =
    if eqb next 0 then Err BadState else  -- 13
    if eqb next last_record_id then Err UsedUp else  -- 12
    Ok (record { next_record_id = next + 1; list = new_list next })

-- the next id then: as it was where the call refuses
abbrev pub begun_next : ℕ → Result Begun Answer → ℕ
begun_next next (Ok b) = b.next_record_id
begun_next next (Err a) = next
