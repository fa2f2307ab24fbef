-- `Ruled::slots` meets its contract. Assumes nothing.
use mathlib.Core.Path.{◌∙◌}
use Rattle.change.specs.Ruled.{list_of}
use Rattle.change.proofs.OneKind.{all-bytes, bytes-of_list}
use Rattle.change.proofs.ruled.Ruled.slots.Goals as goal

pub bytes-requires : goal.bytes-requires
bytes-requires c = let a = c.args in all-bytes a.kind a.self.list a.self.words.now a.self.bytes.now a.self.ruled

pub returns : goal.returns
unfolding list_of
returns c = let a = c.args in c.bytes.ensures ∙ bytes-of_list a.kind a.self.list a.self.words.now a.self.bytes.now
