-- `Ruled::keys` meets its contract: the kind's part of the words, as its holder hands it out. Assumes nothing.
use mathlib.Core.Path.{◌∙◌}
use Rattle.change.specs.Ruled.{list_of}
use Rattle.change.proofs.OneKind.{all-words, lent, rows-of_list, order-of_list, each-ruled, few}
use Rattle.change.proofs.ruled.Ruled.keys.Goals as goal

pub words-requires : goal.words-requires
words-requires c = let a = c.args in all-words a.kind a.self.list a.self.words.now a.self.bytes.now a.self.ruled

pub keys_in-requires : goal.keys_in-requires
keys_in-requires c = let a = c.args in lent a.kind a.self.list a.self.words.now a.self.bytes.now a.self.ruled _ _ _ c.room.ensures c.words.ensures c.of.ensures

pub returns-clause-rows : goal.returns-clause-rows
unfolding list_of
returns-clause-rows c = let a = c.args in c.keys_in.ensures.rows ∙ rows-of_list a.kind a.self.list a.self.words.now a.self.bytes.now _ _ _ c.room.ensures c.words.ensures c.of.ensures

pub returns-clause-order : goal.returns-clause-order
unfolding list_of
returns-clause-order c = let a = c.args in c.keys_in.ensures.order ∙ order-of_list a.kind a.self.list a.self.words.now a.self.bytes.now _ _ _ c.room.ensures c.words.ensures c.of.ensures

pub returns-clause-each : goal.returns-clause-each
returns-clause-each c = let a = c.args in each-ruled a.kind a.self.list a.self.words.now a.self.bytes.now a.self.ruled _ _ _ c.room.ensures c.words.ensures c.of.ensures _ _ c.keys_in.ensures.rows c.keys_in.ensures.order

pub returns-clause-few : goal.returns-clause-few
returns-clause-few c = let a = c.args in few a.kind a.self.list a.self.words.now a.self.bytes.now a.self.ruled _ _ _ c.room.ensures c.words.ensures c.of.ensures _ c.keys_in.ensures.order
