-- `keys_in` meets its contract. Assumes nothing.
use Rattle.overlay.proofs.Parts.{lent-rows, lent-ruled}
use Rattle.overlay.proofs.seat.keys_in.Goals as goal

pub invariant_of-result : goal.invariant_of-result
invariant_of-result c =
    let a = c.args in
    record {
      in_rows = rw (c.split_at.ensures.front, c.split_at.ensures.back) (lent-rows a.room a.words.now c.requires.0 a.n c.requires.1);
      ruled = rw (c.split_at.ensures.front, c.split_at.ensures.back) (lent-ruled a.room a.words.now c.requires.0 a.n c.requires.1 c.requires.2);
    }
