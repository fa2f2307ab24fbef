-- Eight bytes as one number, the lowest first.
use Rattle.std.proofs.Common.{arith}
use Rattle.words.proofs.Little.{first, more}
use Rattle.words.specs.Words.{little}
use Rattle.words.proofs.u64_at.Goals as goal

pub returns : goal.returns
unfolding little
returns c =
    let s = c.args.s.now in
    let at = c.args.at in
    omega (
      arith,
      first s 7 at (omega arith),
      more s 6 at 1 (omega arith),
      more s 5 at 2 (omega arith),
      more s 4 at 3 (omega arith),
      more s 3 at 4 (omega arith),
      more s 2 at 5 (omega arith),
      more s 1 at 6 (omega arith),
      more s 0 at 7 (omega arith),
    )
