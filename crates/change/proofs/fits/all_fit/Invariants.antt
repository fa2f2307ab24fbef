-- What each turn keeps.
use mathlib.Core.Path.{◌≡◌}
use mathlib.Core.List.{[]}
use lib.ListN.{drop}
use Rattle.directory.specs.Directory.{find_table}
use Rattle.keys.specs.Keys.{every}
use Rattle.overlay.specs.Rules.{lists_of}
use Rattle.change.specs.Change.{entry_fits}
use Rattle.change.proofs.fits.all_fit.Given as goal

abbrev pub invariant-loop-place : goal.invariant-loop-place
invariant-loop-place l = record {
  found : l.found ≡ find_table l.fn.directory l.fn.kind l.last;
  rest : every (entry_fits l.fn.directory l.fn.kind (lists_of l.fn.keys.rows.now [] [] 0)) (drop l.place-index l.fn.keys.order.now) ≡ every (entry_fits l.fn.directory l.fn.kind (lists_of l.fn.keys.rows.now [] [] 0)) l.fn.keys.order.now;
}
