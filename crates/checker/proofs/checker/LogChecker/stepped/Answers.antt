-- `stepped` meets its contract. Assumes nothing.
use Rattle.checker.proofs.Calls.{front-directory, front-after, front-held, front_length, front-stands, across_told, across_kept, on-back, on-stands, across_on_in}
use Rattle.checker.proofs.checker.LogChecker.stepped.Goals as goal

pub overflow_sub-before : goal.overflow_sub-before
overflow_sub-before c = front-held c.args.self c.args.bytes.now c.args.front.now c.requires.0 c.requires.1

pub one_step-requires : goal.one_step-requires
one_step-requires c = let a = c.args in (front-directory a.self a.bytes.now a.front.now c.requires.0 c.requires.1, front-stands a.self a.bytes.now a.front.now c.requires.0 c.requires.1)

pub keep-requires : goal.keep-requires
keep-requires c = front_length c.args.self c.args.bytes.now c.args.front.now c.requires.0 c.requires.1

pub back-requires : goal.back-requires
back-requires c = on-back c.args.self c.args.bytes.now c.args.front.now c.requires.0 c.requires.1 _ (rw c.in-Ok-Some.field-0-is at c.in-Ok-Some.ensures)

pub walked-requires : goal.walked-requires
walked-requires c =
    let a = c.args in
    (front-after a.self a.bytes.now a.front.now c.requires.0 c.requires.1 _ c.counted-after.ensures, on-stands a.self a.bytes.now a.front.now c.requires.0 c.requires.1 _ (rw c.in-Ok-Some.field-0-is at c.in-Ok-Some.ensures) _ c.back.ensures)

pub returns-in-Err : goal.returns-in-Err
returns-in-Err c = across_told c.args.self c.args.bytes.now c.args.front.now c.requires.0 c.requires.1 _ c.in-Err.ensures _ _ c.counted-after.ensures c.settled.ensures

pub returns-in-Ok-None : goal.returns-in-Ok-None
returns-in-Ok-None c = across_kept c.args.self c.args.bytes.now c.args.front.now c.requires.0 c.requires.1 (rw c.in-Ok-None.field-0-is at c.in-Ok-None.ensures) _ _ _ c.counted-after.ensures c.keep.ensures c.answered.ensures

pub returns-in-Ok-Some : goal.returns-in-Ok-Some
returns-in-Ok-Some c =
    across_on_in c.args.self c.args.bytes.now c.args.front.now c.requires.0 c.requires.1 _ (rw c.in-Ok-Some.field-0-is at c.in-Ok-Some.ensures) _ _ _ c.counted-after.ensures c.back.ensures c.walked.ensures
