-- `row_put` meets its contract. Assumes nothing.
use Rattle.std.proofs.Common.{◌+◌, ◌-◌, ◌*◌, ap, ◌∙◌, List, ℕ}
use borrow.Rule.Slice.PartMut.{put_mid}
use Rattle.keys.proofs.Rows.{row-set}
use Rattle.keys.proofs.key.row_put.Goals as goal

pub returns : goal.returns
returns c =
    let a = c.args in
    ap (λ (l : List ℕ). put_mid (4 * a.p) (4 * a.p + 4 - 4 * a.p) a.rows.now l) c.copy_from_slice.ensures.after ∙ row-set a.rows.now a.p a.t a.x a.id a.mark c.requires
