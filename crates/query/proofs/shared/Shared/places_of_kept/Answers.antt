-- `Shared::places_of_kept` meets its contract: 14, or the places told. Assumes nothing.
use mathlib.Core.Path.{sym, ap, ◌∙◌}
use Prim.Native.Nat.{ℕ}
use Rattle.overlay.specs.Rules.{overlay_of}
use Rattle.query.specs.Query.{shared_part}
use Rattle.query.specs.Places.{places_of}
use Rattle.query.proofs.Places.{several_unpaired, several_told}
use Rattle.query.proofs.shared.Shared.places_of_kept.Goals as goal

pub returns-then-not-in_pairs : goal.returns-then-not-in_pairs
returns-then-not-in_pairs c =
    let a = c.args in
    several_unpaired a.kind (shared_part a.kind a.self.now.overlays a.self.now.words.now a.self.now.bytes.now) a.keys.now a.places.now c.requires (sym c.if-not-in_pairs.ensures)

pub tell_places-requires : goal.tell_places-requires
tell_places-requires c = (rw c.of-n.ensures c.requires, sym c.if-not-in_pairs.ensures)

pub returns : goal.returns
returns c =
    let a = c.args in
    let s = a.self.now in
    several_told a.kind (shared_part a.kind s.overlays s.words.now s.bytes.now) a.keys.now a.places.now c.requires (sym c.if-not-in_pairs.ensures) _
    (c.tell_places.ensures ∙ ap (λ (n : ℕ). places_of a.kind (overlay_of 256 s.words.now s.bytes.now n) a.keys.now) c.of-n.ensures)
