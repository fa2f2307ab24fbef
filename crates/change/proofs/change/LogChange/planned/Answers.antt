-- `LogChange::planned` meets its contract: the kind's part of the words is lent. Assumes nothing.
use mathlib.Core.Path.{ap, ◌∙◌}
use mathlib.Core.List.{[]}
use Prim.Native.Nat.{ℕ}
use Rattle.std.specs.Prelude.{Option}
use Rattle.directory.specs.Directory.{find_table}
use Rattle.directory.specs.declared.table.TableDescription.{TableDescription}
use Rattle.overlay.specs.Rules.{Overlay, overlay_of}
use Rattle.change.specs.Change.{change_of}
use Rattle.change.specs.Insert.{plan_in}
use Rattle.change.proofs.Rules.{kept-ruled}
use Rattle.change.proofs.OneKind.{all-words, lent, reads-part}
use Rattle.change.proofs.Accepted.{plan-keys}
use Rattle.change.proofs.change.LogChange.planned.Goals as goal

pub words-requires : goal.words-requires
words-requires c = let a = c.args in all-words a.kind a.self a.words.now a.bytes.now (kept-ruled a.directory (change_of a.self a.words.now a.bytes.now) c.requires)

pub plan_for-requires : goal.plan_for-requires
plan_for-requires c =
    let a = c.args in
    let l = lent a.kind a.self a.words.now a.bytes.now (kept-ruled a.directory (change_of a.self a.words.now a.bytes.now) c.requires) _ _ _ c.room.ensures c.words.ensures c.of.ensures in
    (c.room.ensures, l.0, l.1, l.2)

pub returns : goal.returns
returns c =
    let a = c.args in
    c.plan_for.ensures
    ∙ ap (λ (f : Option (ℕ × TableDescription)). plan_in a.kind (overlay_of c.room.result c.words.result.now [] c.of.result) f a.number a.index a.sub a.«data».now) c.find.ensures
    ∙ reads-part a.kind a.self a.words.now a.bytes.now _ _ _ c.room.ensures c.words.ensures c.of.ensures
    (λ (o : Overlay). plan_in a.kind o (find_table a.directory a.kind a.number) a.number a.index a.sub a.«data».now)
    (plan-keys a.kind (find_table a.directory a.kind a.number) a.number a.index a.sub a.«data».now)
