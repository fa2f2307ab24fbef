-- `look_kept` in the shared overlay meets its contract. Assumes nothing.
use mathlib.Core.Path.{ap, ◌∙◌}
use Prim.Native.Nat.{ℕ}
use Rattle.keys.specs.Keys.{rank}
use Rattle.overlay.specs.Rules.{overlay_of}
use Rattle.query.specs.Query.{shared_part}
use Rattle.query.specs.Inner.{found_in}
use Rattle.query.proofs.Looks.{shared_for}
use Rattle.query.proofs.shared.SharedLookup.look_kept.Goals as goal

pub find_in-requires : goal.find_in-requires
find_in-requires c = rw c.of-n.ensures c.requires

pub returns : goal.returns
returns c =
    let a = c.args in
    let s = a.self.now in
    shared_for a.kind (shared_part a.kind s.overlays s.words.now s.bytes.now) (rank a.table a.index) c.requires c.find_in.result.now
    (c.find_in.ensures ∙ ap (λ (n : ℕ). found_in a.kind (overlay_of 256 s.words.now s.bytes.now n) (rank a.table a.index)) c.of-n.ensures)
