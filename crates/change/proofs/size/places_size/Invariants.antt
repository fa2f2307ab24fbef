-- What each turn keeps.
use mathlib.Core.Path.{◌≡◌}
use Prim.Native.Nat.{◌+◌, ◌*◌, ◌≤◌}
use lib.ListN.{drop}
use Rattle.change.specs.Size.{places_size}
use Rattle.change.proofs.size.places_size.Given as goal

abbrev pub invariant-loop-place : goal.invariant-loop-place
invariant-loop-place l = record {
  most : l.t ≤ 1043 * l.place-index;
  rest : l.t + places_size l.fn.kind l.fn.keys.rows.now (drop l.place-index l.fn.keys.order.now) ≡ places_size l.fn.kind l.fn.keys.rows.now l.fn.keys.order.now;
}
