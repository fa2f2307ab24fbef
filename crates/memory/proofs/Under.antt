-- What stands under a key of a kind after a put and after a removal, of that kind or of another. Assumes nothing.
use mathlib.Core.Path.{◌≡◌, refl, ap, ◌∙◌}
use mathlib.Core.Bool.{Bool, true, false, ◌&&◌}
use mathlib.Core.List.{List}
use mathlib.Core.Option.{some}
use Prim.Native.Nat.{ℕ, ◌≤◌}
use lib.Dec.{eqb}
use lib.ListN.{length}
use borrow.Author.Tests.{eqb-true}
use Rattle.std.specs.Prelude.{if◌then◌else◌}
use Rattle.directory.specs.Table.{same_kind_of}
use Rattle.directory.specs.declared.table.TableKind.{TableKind}
use Rattle.directory.specs.declared.table.TableKind.TheVariants.{Index, Value, RefCount}
use Rattle.keys.specs.Keys.{rank}
use Rattle.overlay.specs.Rules.{Overlay, stored_length, slot_size}
use Rattle.overlay.specs.Entries.{entries_of, find_entry}
use Rattle.overlay.specs.Overlay.{put_over, removed_from}
use Rattle.overlay.proofs.Entries.{unless}
use Rattle.overlay.proofs.Puts.{find_entry-after-put}
use Rattle.overlay.proofs.Removals.{find_entry-after_remove}
use Rattle.memory.specs.declared.span.Holder.{Holder}
use Rattle.memory.specs.Parts.{span_of, Parts, of_kind, entry_under, parts_kept, Takes, put_into, remove_from}
use Rattle.memory.proofs.Spans.{all-shows, put_of, remove_of}

module _ (h : Holder) (p : Parts) (ok : parts_kept h p ≡ true) (own kind : TableKind) (k : ℕ) where
  -- of its own key what the id leaves, of any other what stood there
  pub under_remove : (key id : ℕ) → entry_under kind k (remove_from own p key id) ≡ (if same_kind_of own kind && eqb key k then unless id (entry_under kind k p) else entry_under kind k p)
  under_remove key id = ap (λ (o : Overlay). find_entry k (entries_of kind o)) (remove_of own kind p key id) ∙ by (same_kind_of own kind)
    where
      at : (b : Bool) → eqb key k ≡ b → (if b then unless id (entry_under kind key p) else entry_under kind k p) ≡ (if b then unless id (entry_under kind k p) else entry_under kind k p)
      at true e = ap (λ (x : ℕ). unless id (entry_under kind x p)) (eqb-true key k e)
      at false e = refl

      by : (b : Bool) → find_entry k (entries_of kind (if b then removed_from kind (of_kind kind p) key id else of_kind kind p)) ≡ (if b && eqb key k then unless id (entry_under kind k p) else entry_under kind k p)
      by true = find_entry-after_remove kind (span_of h kind).room (of_kind kind p) ((all-shows h p ok).each kind) key id k ∙ at (eqb key k) refl
      by false = refl

  -- a put of another kind
  pub under-put-other : same_kind_of own kind ≡ false → (table index id mark : ℕ) (src : List ℕ) → entry_under kind k (put_into own p table index id mark src) ≡ entry_under kind k p
  under-put-other e table index id mark src =
      ap (λ (o : Overlay). find_entry k (entries_of kind o)) (put_of own kind p table index id mark src ∙ ap (λ (b : Bool). if b then put_over kind (of_kind kind p) table index id mark src else of_kind kind p) e)

same_self : (kind : TableKind) → same_kind_of kind kind ≡ true
same_self Index = refl
same_self Value = refl
same_self RefCount = refl

-- and of that kind: under its own key the new entry, under any other what stood there
pub under-put : (h : Holder) (p : Parts) → parts_kept h p ≡ true → (kind : TableKind) (table index id mark : ℕ) (src : List ℕ) → length src ≤ slot_size kind
    → Takes h kind p (rank table index) → length src ≡ stored_length kind mark → (k : ℕ)
    → entry_under kind k (put_into kind p table index id mark src) ≡ (if eqb (rank table index) k then some (record { key = rank table index; id = id; mark = mark; bytes = src }) else entry_under kind k p)
under-put h p ok kind table index id mark src fits free whole k =
    ap (λ (o : Overlay). find_entry k (entries_of kind o))
    (put_of kind kind p table index id mark src ∙ ap (λ (b : Bool). if b then put_over kind (of_kind kind p) table index id mark src else of_kind kind p) (same_self kind))
    ∙ find_entry-after-put kind (span_of h kind).room (of_kind kind p) ((all-shows h p ok).each kind) table index id mark src fits free whole k
