-- `LogChange::insert_value` meets its contract: one call. Assumes nothing.
use Rattle.change.proofs.change.LogChange.insert_value.Goals as goal

pub shape_of-words : goal.shape_of-words
shape_of-words c = c.words-1.given

pub shape_of-bytes : goal.shape_of-bytes
shape_of-bytes c = c.bytes-1.given

pub returns : goal.returns
returns c = c.insert.ensures
