-- `Shared::places_of` meets its contract: 13, or what the second door does. Assumes nothing.
use Rattle.query.specs.Query.{shared_part}
use Rattle.query.proofs.Looks.{shared_broken}
use Rattle.query.proofs.Places.{several_broken}
use Rattle.query.proofs.shared.Shared.places_of.Goals as goal

pub returns-then-not-kept : goal.returns-then-not-kept
returns-then-not-kept c =
    let a = c.args in
    let o = shared_part a.kind a.self.now.overlays a.self.now.words.now a.self.now.bytes.now in
    several_broken a.kind o a.keys.now a.places.now (shared_broken a.kind o 0 (c.kept.ensures.fails 0 c.if-not-kept.true))
