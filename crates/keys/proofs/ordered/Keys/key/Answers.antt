-- `Keys::key` meets its contract. Assumes nothing.
use Rattle.std.proofs.Common.{◌∙◌, ap}
use Rattle.keys.specs.Keys.{rank_of}
use Rattle.keys.proofs.Lent.{row-fits, key_in-at}
use Rattle.keys.proofs.ordered.Keys.key.Goals as goal

pub key_in-requires : goal.key_in-requires
key_in-requires c = row-fits c.args.self c.args.j c.requires

pub returns : goal.returns
returns c = ap rank_of c.key_in.ensures ∙ key_in-at c.args.self c.args.j c.requires
