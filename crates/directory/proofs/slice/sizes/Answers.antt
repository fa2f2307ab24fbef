-- `sizes` meets its contract. Assumes nothing.
use Rattle.std.proofs.Common.{◌≡◌, ◌∙◌, sym, rules}
use Rattle.std.specs.List.{sum_by}
use Rattle.directory.specs.Table.{size_of}
use Rattle.directory.proofs.Tables.{sizes-sum}
use Rattle.directory.proofs.slice.sizes.Goals as goal

pub returns : goal.returns
returns c =
    let e : c.sum.result ≡ sum_by size_of c.args.tables.now = search rules in
    e ∙ sym (sizes-sum c.args.tables.now)
