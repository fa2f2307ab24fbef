-- `LogChange::insert_index_kept` meets its contract: one call. Assumes nothing.
use Rattle.change.proofs.change.LogChange.insert_index_kept.Goals as goal

pub insert_kept-requires : goal.insert_kept-requires
insert_kept-requires c = c.requires

pub shape_of-words : goal.shape_of-words
shape_of-words c = c.words-1.given

pub shape_of-bytes : goal.shape_of-bytes
shape_of-bytes c = c.bytes-1.given

pub returns : goal.returns
returns c = c.insert_kept.ensures
