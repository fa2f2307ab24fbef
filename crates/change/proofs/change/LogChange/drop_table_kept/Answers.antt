-- `LogChange::drop_table_kept` meets its contract. Assumes nothing.
use mathlib.Core.Path.{ap}
use Rattle.change.specs.Change.{change_of, with_drops}
use Rattle.change.specs.Drop.{drop_made, table_dropped_kept}
use Rattle.change.proofs.change.LogChange.drop_table_kept.Goals as goal

pub returns-in-Err : goal.returns-in-Err
unfolding table_dropped_kept
returns-in-Err c = let l = change_of c.args.self c.args.words.now c.args.bytes.now in ap (drop_made l (with_drops l)) c.in-Err.ensures

pub returns-in-Ok : goal.returns-in-Ok
unfolding table_dropped_kept
returns-in-Ok c = let l = change_of c.args.self c.args.words.now c.args.bytes.now in ap (drop_made l (with_drops l)) c.in-Ok.ensures
