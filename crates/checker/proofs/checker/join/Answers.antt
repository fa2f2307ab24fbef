-- `join` meets its contract. Assumes nothing.
use Rattle.checker.proofs.Calls.{joins}
use Rattle.checker.proofs.checker.join.Goals as goal

pub returns : goal.returns
returns c = joins c.args.first.now c.args.second.now _ _ c.stored-part.ensures c.copy_from_slice.ensures.after
