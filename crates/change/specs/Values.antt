-- The values of one table in a list (log.rs lines 376 to 378: `local_values_changes`). The Rust lends out the table's map of values; by table
-- number, then index, they are a run of the order here, and the answer says where it begins and ends.
use Rattle.std.specs.Prelude.{ℕ, ◌+◌, Result, Ok, Err}
use Rattle.std.specs.Prelude.{if◌then◌else◌}
use Rattle.answer.specs.declared.answer.Answer.{Answer}
use Rattle.answer.specs.declared.answer.Answer.TheVariants.{BadState}
use Rattle.keys.specs.Keys.{rank}
use Rattle.overlay.specs.Overlay.{spot_in_of}
use Rattle.change.specs.Change.{Change, change_ruled}
use Rattle.change.specs.declared.values.LocalValues.{LocalValues}

-- where the values of a table begin and end in the order, in a list that keeps its rules
abbrev pub values_of_kept : Change → ℕ → LocalValues
values_of_kept l number =
    record { from = spot_in_of l.parts.value (rank number 0); to = spot_in_of l.parts.value (rank (number + 1) 0) }

-- 13 where the list breaks a rule that needs no directory, as a lookup tests it
unfoldable pub values_of : Change → ℕ → Result LocalValues Answer
values_of l number = if change_ruled l then Ok (values_of_kept l number) else Err BadState
