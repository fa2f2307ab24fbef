-- `LogChange::ruled` meets its contract: the drops, then the three kinds. Assumes nothing.
use native.Mathlib.Omega.{arith}
use mathlib.Core.Path.{◌∙◌}
use Rattle.std.proofs.Common.{rules}
use Rattle.change.specs.Change.{change_of}
use Rattle.change.proofs.Rules.{ruled-goes, ruled-stops}
use Rattle.change.proofs.change.LogChange.ruled.Goals as goal

pub returns-then-self-le16-2 : goal.returns-then-self-le16-2
returns-then-self-le16-2 c = ruled-goes (change_of c.args.self c.args.words.now c.args.bytes.now) _ c.all_kept.ensures c.if-self-le16-2.true.0 c.if-self-le16-2.true.1

pub returns-else-self-le16-2 : goal.returns-else-self-le16-2
returns-else-self-le16-2 c = search rules ∙ ruled-stops (change_of c.args.self c.args.words.now c.args.bytes.now) (λ h k. omega (arith, c.if-self-le16-2.either))
