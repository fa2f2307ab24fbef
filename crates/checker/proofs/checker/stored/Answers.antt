-- `stored` meets its contract. Assumes nothing.
use Rattle.checker.proofs.Calls.{stores}
use Rattle.checker.proofs.checker.stored.Goals as goal

pub returns : goal.returns
returns c = stores c.args.bytes.now _ c.copy_from_slice.ensures.after
