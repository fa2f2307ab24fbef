-- `find_in` meets its contract: the part that the place says. Assumes nothing.
use mathlib.Core.Path.{ap, ◌∙◌}
use Prim.Native.Nat.{ℕ}
use Rattle.keys.specs.Keys.{rank}
use Rattle.overlay.specs.Rules.{overlay_of}
use Rattle.query.specs.Inner.{found_in}
use Rattle.query.proofs.Places.{part_of, no_part}
use Rattle.query.proofs.find.find_in.Goals as goal

pub returns-in-Some : goal.returns-in-Some
returns-in-Some c =
    let a = c.args in
    part_of a.kind a.room a.words.now a.bytes.now a.n c.requires (rank c.from.result a.index) c.in-Some.at c.in-Some.length c.in-Some.ensures.place
    ∙ ap (λ (t : ℕ). found_in a.kind (overlay_of a.room a.words.now a.bytes.now a.n) (rank t a.index)) c.from.ensures

pub returns-in-None : goal.returns-in-None
returns-in-None c =
    let a = c.args in
    no_part a.kind a.room a.words.now a.bytes.now a.n c.requires (rank c.from.result a.index) c.in-None.ensures.place
    ∙ ap (λ (t : ℕ). found_in a.kind (overlay_of a.room a.words.now a.bytes.now a.n) (rank t a.index)) c.from.ensures
