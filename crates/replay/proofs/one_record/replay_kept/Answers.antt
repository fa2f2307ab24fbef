-- `replay_kept` meets its contract. Assumes nothing.
use mathlib.Core.Path.{sym, ap, ◌∙◌}
use Rattle.directory.specs.Directory.{image_length}
use Rattle.replay.proofs.Checked.{kept-length}
use Rattle.replay.proofs.one_record.replay_kept.Goals as goal

pub replay_in-requires : goal.replay_in-requires
replay_in-requires c = kept-length _ _ c.requires ∙ ap image_length (sym c.of.ensures)
