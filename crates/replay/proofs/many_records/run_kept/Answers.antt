-- `run_kept` meets its contract. Assumes nothing.
use mathlib.Core.Path.{sym, ap, ◌∙◌}
use Rattle.directory.specs.Directory.{image_length}
use Rattle.replay.proofs.Checked.{kept-length}
use Rattle.replay.proofs.many_records.run_kept.Goals as goal

pub run_in-requires : goal.run_in-requires
run_in-requires c = kept-length _ _ c.requires ∙ ap image_length (sym c.of.ensures)
