-- Two bytes as one number, the lowest first.
use Rattle.std.proofs.Common.{arith}
use Rattle.words.proofs.Little.{first, more}
use Rattle.words.specs.Words.{little}
use Rattle.words.proofs.u16_at.Goals as goal

pub returns : goal.returns
unfolding little
returns c =
    let s = c.args.s.now in
    let at = c.args.at in
    omega (
      arith,
      first s 1 at (omega arith),
      more s 0 at 1 (omega arith),
    )
