-- `LogChange::local_values_changes_kept` meets its contract: the two ends of the table's run. Assumes nothing.
use mathlib.Core.Path.{◌≡◌}
use mathlib.Core.List.{List}
use Prim.Native.Nat.{ℕ, ◌+◌}
use Rattle.numbers.specs.Numbers.{spot}
use Rattle.keys.specs.Keys.{rank, keys_of}
use Rattle.keys.specs.Lent.{keys_in}
use Rattle.keys.proofs.Lent.{keys_in-taken}
use Rattle.overlay.specs.Overlay.{spot_in_of}
use Rattle.change.specs.declared.values.LocalValues.{LocalValues}
use Rattle.change.specs.Change.{Change, change_of}
use Rattle.change.specs.Values.{values_of_kept}
use Rattle.change.specs.Ruled.{list_of}
use Rattle.change.proofs.change.LogChange.local_values_changes_kept.Goals as goal

ends : (l : Change) (number t : ℕ) → t ≡ number → (ks : List ℕ) → ks ≡ keys_of l.parts.value.rows l.parts.value.order l.parts.value.count → (a b : ℕ) → a ≡ spot (rank t 0) ks → b ≡ spot (rank (t + 1) 0) ks
    → ◌≡◌ {A = LocalValues} (record { from = a; to = b }) (values_of_kept l number)
unfolding spot_in_of
ends l number t e ks f a b p q = rw (p, q, e, f)

pub invariant_of-list : goal.invariant_of-list
invariant_of-list c = record { ruled = c.requires }

pub returns : goal.returns
unfolding list_of
returns c =
    let a = c.args in
    let l = change_of a.self a.words.now a.bytes.now in
    let o = l.parts.value in
    ends l a.id.0 c.from-table.result c.from-table.ensures (keys_in c.keys-keys.result) (keys_in-taken c.keys-keys.result o.rows o.order o.count c.keys-keys.ensures.rows c.keys-keys.ensures.order)
    _ _ c.place.ensures c.place-2.ensures
