-- `lacking` meets its contract: the keys of each lent. Assumes nothing.
use mathlib.Core.Path.{◌∙◌}
use Rattle.putting.proofs.Crowds.{lacking_as}
use Rattle.putting.proofs.crowd.lacking.Goals as goal

pub returns : goal.returns
returns c =
    let a = c.args in
    c.lacking.ensures
    ∙ lacking_as c.keys_in-shared.result c.keys_in.result a.room a.words.now a.n a.list_room a.listed.now a.m c.keys_in-shared.ensures.rows c.keys_in-shared.ensures.order c.keys_in.ensures.rows c.keys_in.ensures.order
