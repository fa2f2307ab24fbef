-- What each turn keeps.
use Rattle.std.proofs.Common.{◌≡◌, drop}
use Rattle.keys.specs.Keys.{key_at, rank_of}
use Rattle.overlay.specs.Inner.{followed}
use Rattle.overlay.proofs.rules.rows_follow.Given as goal

abbrev pub invariant-loop-q : goal.invariant-loop-q
invariant-loop-q l = followed l.most l.rows l.n (rank_of l.last) (drop l.q-index l.rest) ≡ followed l.most l.rows l.n (key_at l.rows l.first) l.rest
