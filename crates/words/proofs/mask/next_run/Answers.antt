-- The two counts of zeros find the lowest run.
use Rattle.std.proofs.Common.{arith}
use Rattle.words.proofs.Runs.{found}
use Rattle.words.proofs.mask.next_run.Goals as goal

pub returns : goal.returns
returns c = (found c.args.mask c.trailing_ones-more.result c.requires c.ranges.mask.fits c.trailing_ones-more.ensures, omega arith)
