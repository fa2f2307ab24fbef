-- `put_drop` meets its contract: two calls, one behind the other. Assumes nothing.
use native.Mathlib.Omega.{arith}
use Rattle.output.specs.Put.{le}
use Rattle.output.proofs.Laws.{◌⨾◌}
use Rattle.writer.specs.Bytes.{drop_bytes}
use Rattle.writer.proofs.drops.put_drop.Goals as goal

pub put_u16-requires : goal.put_u16-requires
unfolding le
put_u16-requires c = omega arith

pub returns : goal.returns
unfolding drop_bytes
returns c = c.put_u8-a.ensures ⨾ c.put_u16.ensures
