-- `entry_size` meets its contract, by cases on the kind. Assumes nothing.
use mathlib.Core.Path.{◌≡◌}
use mathlib.Core.Bool.{true}
use Prim.Native.Nat.{ℕ, ◌≤◌}
use native.Mathlib.Omega.{arith}
use lib.Dec.{leb}
use borrow.Author.Tests.{leb-true}
use Rattle.directory.specs.declared.table.TableKind.{TableKind}
use Rattle.directory.specs.declared.table.TableKind.TheVariants.{Value}
use Rattle.numbers.proofs.Laws.{right_of}
use Rattle.overlay.specs.Rules.{mark_ruled}
use Rattle.change.proofs.size.entry_size.Goals as goal

short : (kind : TableKind) (len : ℕ) → kind ≡ Value → mark_ruled kind len ≡ true → len ≤ 512
short kind len e h = let k : mark_ruled Value len ≡ true = rw e at h in leb-true len 512 (right_of (leb 1 len) _ k)

pub overflow_add-result-in-Value : goal.overflow_add-result-in-Value
overflow_add-result-in-Value c = omega (arith, short c.args.kind c.args.mark c.in-Value.is c.requires)

pub returns-in-Index : goal.returns-in-Index
returns-in-Index c = rw c.in-Index.is (omega (arith, c.set_bits.ensures))

pub returns-in-Value : goal.returns-in-Value
returns-in-Value c = rw c.in-Value.is (omega (arith, short c.args.kind c.args.mark c.in-Value.is c.requires))

pub returns-in-RefCount : goal.returns-in-RefCount
returns-in-RefCount c = rw c.in-RefCount.is (omega (arith, c.set_bits-in-RefCount.ensures))
