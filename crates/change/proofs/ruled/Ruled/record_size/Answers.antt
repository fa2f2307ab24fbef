-- `Ruled::record_size` meets its contract: the sum of its parts, none of which wraps. Assumes nothing.
use native.Mathlib.Omega.{arith}
use Rattle.change.specs.Size.{record_size}
use Rattle.change.specs.Ruled.{list_of}
use Rattle.change.proofs.OneKind.{few-drops}
use Rattle.change.proofs.ruled.Ruled.record_size.Goals as goal

pub overflow_add-drops : goal.overflow_add-drops
overflow_add-drops c = omega (arith, few-drops c.args.self)

pub overflow_mul-result : goal.overflow_mul-result
overflow_mul-result c = omega (arith, few-drops c.args.self)

pub overflow_add-result-4 : goal.overflow_add-result-4
overflow_add-result-4 c = omega (arith, few-drops c.args.self, c.kind_size-a.ensures.1, c.kind_size-b.ensures.1, c.kind_size-c.ensures.1)

pub returns : goal.returns
unfolding record_size list_of
returns c = omega (arith, c.kind_size-a.ensures.0, c.kind_size-b.ensures.0, c.kind_size-c.ensures.0)
