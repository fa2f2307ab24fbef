-- What the salvage leaves, field by field. Assumes nothing.
use mathlib.Core.Path.{ap, ◌∙◌}
use Rattle.directory.specs.declared.directory.Directory.{Directory}
use Rattle.salvaging.specs.Salvage.{salvage_of}
use Rattle.edge_reading.proofs.SalvageLeft.{left_fields}
use Rattle.edge_reading.proofs.salvage.hongsathep_salvage.Goals as goal

pub returns : goal.returns
returns c =
    let a = c.args in
    let e = c.salvage-done.ensures.left ∙ ap (λ (x : Directory). salvage_of x a.log.now a.out.now a.list.now) c.directory_of.ensures in
    let f = left_fields _ _ _ _ _ _ _ c.keep_salvaged.ensures e in
    record { answer = f.0; lines = f.1; written = f.2; out = f.3; list = f.4 }
