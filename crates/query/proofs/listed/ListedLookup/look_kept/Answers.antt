-- `look_kept` in list and shared overlay meets its contract: the list's entry, or the shared one. Assumes nothing.
use mathlib.Core.Path.{sym, ◌∙◌}
use native.Mathlib.Omega.{arith}
use borrow.Author.Tests.{eqb-true, eqb-false}
use Rattle.keys.specs.Keys.{rank}
use Rattle.change.specs.Change.{change_of}
use Rattle.change.proofs.Rules.{ruled-parts}
use Rattle.query.specs.Query.{shared_part}
use Rattle.query.proofs.Looks.{mine_found, shared_next}
use Rattle.query.proofs.listed.ListedLookup.look_kept.Goals as goal

pub find_listed-mine-requires : goal.find_listed-mine-requires
find_listed-mine-requires c = let s = c.args.self.now in ruled-parts (change_of s.list s.words.now s.bytes.now) c.requires.0

pub returns-then-not-is_empty : goal.returns-then-not-is_empty
returns-then-not-is_empty c =
    let a = c.args in
    let s = a.self.now in
    mine_found a.kind (change_of s.list s.words.now s.bytes.now) (shared_part a.kind s.shared.overlays s.shared.words.now s.shared.bytes.now) (rank a.table a.index) c.requires.0 c.requires.1
    _ c.find_listed-mine.ensures (let n = eqb-false _ 0 (sym c.is_empty.ensures ∙ c.if-not-is_empty.true) in omega arith)

pub returns : goal.returns
returns c =
    let a = c.args in
    let s = a.self.now in
    shared_next a.kind (change_of s.list s.words.now s.bytes.now) (shared_part a.kind s.shared.overlays s.shared.words.now s.shared.bytes.now) (rank a.table a.index) c.requires.0 c.requires.1
    _ _ c.find_listed-mine.ensures (let n = eqb-true _ 0 (sym c.is_empty.ensures ∙ c.if-not-is_empty.false) in omega arith) c.look_kept.ensures
