-- `checksum::update` meets its contract: the table's rule is one test, which antt computes. Assumes nothing.
use mathlib.Core.Path.{refl}
use Rattle.checksum.specs.Checksum.{shift}
use Rattle.checksum.specs.Tables.{shifts}
use Rattle.checksum.proofs.Looked.{rule-of}
use Rattle.checksum.proofs.update.Goals as goal

pub all_in-requires : goal.all_in-requires
unfolding shifts shift
all_in-requires c = rule-of 4 16 _ refl tt tt
