-- `copy_into` meets its contract. Assumes nothing.
use Rattle.std.proofs.Common.{refl}
use Rattle.output.proofs.Laws.{copied}
use Rattle.output.proofs.copy_into.Goals as goal

pub returns : goal.returns
returns c =
    let a = c.args in
    record { next = refl; bytes = copied a.out.now a.at a.src.now c.copy_from_slice.new.to c.copy_from_slice.ensures.after }
