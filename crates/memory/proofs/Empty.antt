-- Memories of the right length with no key in use keep the rules, whatever they hold. Assumes nothing.
use mathlib.Core.Path.{◌≡◌, refl, sym, ◌∙◌, subst}
use mathlib.Core.Bool.{true}
use mathlib.Core.List.{List}
use Prim.Native.Nat.{ℕ, ◌-◌, ◌*◌}
use native.Mathlib.Omega.{arith}
use lib.ListN.{drop, length, length-drop}
use Rattle.directory.specs.declared.table.TableKind.{TableKind}
use Rattle.directory.specs.declared.table.TableKind.TheVariants.{Index, Value, RefCount}
use Rattle.keys.proofs.Places.{rule-none}
use Rattle.overlay.specs.Rules.{Overlay, slot_size, overlay_kept}
use Rattle.overlay.proofs.Ruled.{makes}
use Rattle.overlay.proofs.Parts.{rows_long, order-long}
use Rattle.memory.specs.declared.span.Holder.{Holder}
use Rattle.memory.specs.declared.span.Holder.TheVariants as holder
use Rattle.memory.specs.Parts.{span_of, words_all, bytes_all, no_counts, count_of, words_in, part_of, parts_of, parts_kept}
use Rattle.memory.proofs.Stored.{part-long}
use Rattle.memory.proofs.Spans.{lies, of_parts, all-makes}

none-counted : (kind : TableKind) → count_of kind no_counts ≡ 0
none-counted Index = refl
none-counted Value = refl
none-counted RefCount = refl

-- a kind's parts are as long as its room asks
words-room : (h : Holder) (kind : TableKind) → (span_of h kind).words_end - (span_of h kind).words_at ≡ 5 * (span_of h kind).room
words-room holder.Shared Index = omega arith
words-room holder.Shared Value = omega arith
words-room holder.Shared RefCount = omega arith
words-room holder.List Index = omega arith
words-room holder.List Value = omega arith
words-room holder.List RefCount = omega arith

bytes-room : (h : Holder) (kind : TableKind) → (span_of h kind).bytes_end - (span_of h kind).bytes_at ≡ slot_size kind * (span_of h kind).room
bytes-room holder.Shared Index = omega arith
bytes-room holder.Shared Value = omega arith
bytes-room holder.Shared RefCount = omega arith
bytes-room holder.List Index = omega arith
bytes-room holder.List Value = omega arith
bytes-room holder.List RefCount = omega arith

module _ (h : Holder) (words bytes : List ℕ) (wl : length words ≡ words_all h) (bl : length bytes ≡ bytes_all h) where
  part-kept : (kind : TableKind) → overlay_kept kind (span_of h kind).room (part_of h kind no_counts words bytes) ≡ true
  part-kept kind =
      let l = lies h kind in
      let room = (span_of h kind).room in
      let long : length (words_in h kind words) ≡ 5 * room = part-long (span_of h kind).words_at (span_of h kind).words_end words l.words-rise (omega (arith, l.words_in)) ∙ words-room h kind in
      makes kind room (part_of h kind no_counts words bytes)
      (record {
        rows_long = rows_long room (words_in h kind words) long;
        order-long = order-long room (words_in h kind words) long;
        bytes-long = part-long (span_of h kind).bytes_at (span_of h kind).bytes_end bytes l.bytes-rise (omega (arith, l.bytes_in)) ∙ bytes-room h kind;
        fits = omega (arith, none-counted kind);
        in_order = rule-none _ _ (count_of kind no_counts) (none-counted kind);
        each = rw (none-counted kind);
      })

  none-behind : (n : ℕ) (l : List ℕ) → length l ≡ n → length (drop n l) ≡ 0
  none-behind n l e = length-drop n l ∙ omega (arith, e)

  pub empty_kept : parts_kept h (parts_of h no_counts words bytes) ≡ true
  empty_kept =
      all-makes h (parts_of h no_counts words bytes)
      (record {
        no_words = none-behind (words_all h) words wl;
        no_bytes = none-behind (bytes_all h) bytes bl;
        each = λ (kind : TableKind). subst (λ (o : Overlay). overlay_kept kind (span_of h kind).room o ≡ true) (sym (of_parts h kind no_counts words bytes)) (part-kept kind);
      })
