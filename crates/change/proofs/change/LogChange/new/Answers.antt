-- `LogChange::new` meets its contract. Assumes nothing.
use mathlib.Core.Path.{◌≡◌}
use Prim.Native.Nat.{ℕ}
use Rattle.memory.specs.declared.counts.Counts.{Counts}
use Rattle.memory.specs.Parts.{no_counts}
use Rattle.change.specs.declared.drops.Drops.{Drops}
use Rattle.change.specs.declared.change.LogChange.{LogChange}
use Rattle.change.specs.Change.{no_drops, new_list}
use Rattle.change.proofs.change.LogChange.new.Goals as goal

made : (id : ℕ) (n : Counts) (s t : Drops) → n ≡ no_counts → s ≡ no_drops → t ≡ no_drops
    → ◌≡◌ {A = LogChange} (record { record_id = id; counts = n; dropped_tables = s; dropped_ref_count_tables = t }) (new_list id)
made id n s t p q r = rw (p, q, r)

pub returns : goal.returns
returns c = made c.args.record_id _ _ _ c.new.ensures c.new-2.ensures c.new-3.ensures
