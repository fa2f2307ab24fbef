-- `put_payload` meets its contract, by cases on the kind. Assumes nothing.
use mathlib.Core.Path.{sym}
use lib.Seq.{length-take-le}
use Rattle.writer.proofs.entry.put_payload.Goals as goal

pub put_masked-requires : goal.put_masked-requires
put_masked-requires c = rw c.in-Index.is at c.requires

pub slice_bounds-copy_into-end : goal.slice_bounds-copy_into-end
slice_bounds-copy_into-end c = sym (length-take-le _ _ (rw c.in-Value.is at c.requires).0)

pub copy_into-requires : goal.copy_into-requires
copy_into-requires c = (rw c.in-Value.is at c.requires).1

pub put_masked-requires-in-RefCount : goal.put_masked-requires-in-RefCount
put_masked-requires-in-RefCount c = rw c.in-RefCount.is at c.requires

pub returns-in-Index : goal.returns-in-Index
returns-in-Index c = rw c.in-Index.is c.put_masked.ensures

pub returns-in-Value : goal.returns-in-Value
returns-in-Value c = rw c.in-Value.is c.copy_into.ensures

pub returns-in-RefCount : goal.returns-in-RefCount
returns-in-RefCount c = rw c.in-RefCount.is c.put_masked-in-RefCount.ensures
