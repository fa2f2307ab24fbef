-- What each turn keeps.
use Prim.Native.Nat.{◌*◌}
use mathlib.Core.Path.{◌≡◌}
use mathlib.Core.List.{◌++◌}
use lib.ListN.{length, take, drop}
use Rattle.overlay.specs.Rules.{overlay_of}
use Rattle.query.specs.Places.{places_of}
use Rattle.query.proofs.several.tell_places.Given as goal

abbrev pub invariant-loop-pair : goal.invariant-loop-pair
invariant-loop-pair l = record {
  long : length l.places ≡ length l.keys;
  told : take (2 * l.pair) l.places ++ places_of l.kind (overlay_of 256 l.words l.bytes l.n) (drop (2 * l.pair) l.keys) ≡ places_of l.kind (overlay_of 256 l.words l.bytes l.n) l.keys;
}
