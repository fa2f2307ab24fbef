-- Words that are no state load as one that breaks a rule, whatever the memories beside it hold: every call that is handed it answers 13.
-- Assumes nothing.
use mathlib.Core.Path.{◌≡◌, refl}
use mathlib.Core.Bool.{false}
use mathlib.Core.List.{List}
use Prim.Native.Nat.{ℕ}
use Rattle.directory.specs.Directory.{directory_kept}
use Rattle.directory.specs.declared.table.TableKind.{TableKind}
use Rattle.directory.specs.declared.table.TableKind.TheVariants.{Index, Value, RefCount}
use Rattle.overlay.specs.Rules.{keys_ruled, overlay_kept}
use Rattle.memory.specs.Parts.{part_of, parts_of, parts_kept}
use Rattle.memory.specs.declared.span.Holder.TheVariants as holder
use Rattle.change.specs.Change.{change_of, change_ruled}
use Rattle.host_words.specs.Tables.{broken_directory}
use Rattle.host_words.specs.Change.{broken_list}
use Rattle.host_words.specs.Overlays.{broken_overlays}
use Rattle.host_words.proofs.Laws.{and-false}

pub broken_directory_lem : directory_kept broken_directory ≡ false
unfolding directory_kept
broken_directory_lem = refl

module _ (words bytes : List ℕ) where
  pub broken_list_lem : change_ruled (change_of broken_list words bytes) ≡ false
  unfolding change_ruled
  broken_list_lem = and-false (parts_kept holder.List (change_of broken_list words bytes).parts)

  pub broken_kind : (kind : TableKind) → overlay_kept kind 256 (part_of holder.Shared kind broken_overlays.counts words bytes) ≡ false
  unfolding overlay_kept keys_ruled
  broken_kind Index = simp and-false
  broken_kind Value = simp and-false
  broken_kind RefCount = simp and-false

  pub broken_overlays_lem : parts_kept holder.Shared (parts_of holder.Shared broken_overlays.counts words bytes) ≡ false
  unfolding parts_kept
  broken_overlays_lem =
      let e = broken_kind Index in
      rw (e, and-false, and-false)
