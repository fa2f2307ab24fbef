-- What each turn keeps: no more records are counted than bytes are behind, and the run from where it stands, with the image as it stands, is the
-- run from where it began.
use mathlib.Core.Path.{◌≡◌}
use Prim.Native.Nat.{suc, ◌-◌, ◌≤◌}
use lib.ListN.{length}
use Rattle.answer.specs.Answer.{last_record_id}
use Rattle.replay.specs.Run.{run_from}
use Rattle.replay.proofs.many_records.run_in.Given as goal

abbrev pub invariant-loop-refusal : goal.invariant-loop-refusal
invariant-loop-refusal l = record {
  long : length l.image ≡ length l.initial.image;
  counted : l.count ≤ l.position;
  fits : l.id ≤ last_record_id;
  same : run_from (suc (length l.log)) l.layout.directory l.log l.position l.id l.count l.image
      ≡ run_from (suc (length l.log)) l.layout.directory l.log l.initial.position l.initial.id l.initial.count l.initial.image;
}

abbrev pub decreases-loop-refusal : goal.decreases-loop-refusal
decreases-loop-refusal l = length l.log - l.position
