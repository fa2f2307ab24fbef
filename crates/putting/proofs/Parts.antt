-- One kind's part of the words, as the code lends it: the span with its equation. Assumes nothing.
use mathlib.Core.Path.{◌≡◌, refl, sym, ap, ◌∙◌, subst}
use mathlib.Core.Bool.{true}
use mathlib.Core.List.{List, []}
use Prim.Native.Nat.{ℕ, ◌-◌, ◌*◌}
use native.Mathlib.Omega.{arith}
use lib.ListN.{length}
use Rattle.directory.specs.declared.table.TableKind.{TableKind}
use Rattle.directory.specs.declared.table.TableKind.TheVariants.{Index, Value, RefCount}
use Rattle.directory.specs.declared.directory.Directory.{Directory}
use Rattle.overlay.specs.Rules.{keys_ruled, rows_of, order_of, overlay_of}
use Rattle.memory.specs.Parts.{span_of, count_of, part_from, part_of, parts_of, parts_kept}
use Rattle.memory.specs.declared.counts.Counts.{Counts}
use Rattle.memory.specs.declared.overlays.LogOverlays.{LogOverlays}
use Rattle.memory.specs.declared.span.Holder.{Holder}
use Rattle.memory.specs.declared.span.Holder.TheVariants as holder
use Rattle.memory.specs.declared.span.Span.{Span}
use Rattle.memory.proofs.Spans.{lies, of_parts, words-all}
use Rattle.memory.proofs.Stored.{part-long}
use Rattle.putting.specs.Listed.{last_ids_put}
use Rattle.putting.specs.Inner.{parts_at, KeysIn, with_last_ids}
use Rattle.memory.proofs.OneKind.{kind-kept}
use Rattle.putting.proofs.Places.{keys-ruled}

span_five : (h : Holder) (kind : TableKind) → (span_of h kind).words_end - (span_of h kind).words_at ≡ 5 * (span_of h kind).room
span_five holder.Shared Index = refl
span_five holder.Shared Value = refl
span_five holder.Shared RefCount = refl
span_five holder.List Index = refl
span_five holder.List Value = refl
span_five holder.List RefCount = refl

-- the keys of memories that keep all their rules
pub keys_in : (h : Holder) (kind : TableKind) (c : Counts) (words bytes : List ℕ) → parts_kept h (parts_at h c words bytes) ≡ true → KeysIn h kind c words
unfolding parts_at
keys_in h kind c words bytes ok = record {
  long = words-all h c words bytes ok;
  ruled = keys-ruled kind (span_of h kind).room (part_of h kind c words bytes) (rw (← of_parts h kind c words bytes) (kind-kept h kind (parts_of h c words bytes) ok));
}

module _ (h : Holder) (kind : TableKind) (c : Counts) (words : List ℕ) (k : KeysIn h kind c words) (s : Span) (e : s ≡ span_of h kind) where
  five : length (part_from (span_of h kind).words_at (span_of h kind).words_end words) ≡ 5 * (span_of h kind).room
  five =
      let l = lies h kind in
      part-long (span_of h kind).words_at (span_of h kind).words_end words l.words-rise (omega (arith, l.words_in, k.long)) ∙ span_five h kind

  pub words-five : length (part_from s.words_at s.words_end words) ≡ 5 * s.room
  words-five = subst (λ (x : Span). length (part_from x.words_at x.words_end words) ≡ 5 * x.room) (sym e) five

  pub words-ruled : (n : ℕ) → n ≡ count_of kind c
      → keys_ruled kind s.room (rows_of s.room (part_from s.words_at s.words_end words)) (order_of s.room (part_from s.words_at s.words_end words)) n ≡ true
  words-ruled n d =
      subst (λ (x : Span). keys_ruled kind x.room (rows_of x.room (part_from x.words_at x.words_end words)) (order_of x.room (part_from x.words_at x.words_end words)) n ≡ true) (sym e)
      (rw d k.ruled)

-- the last ids by the part lent
pub ids-part : (d : Directory) (o : LogOverlays) (id : ℕ) (c : Counts) (words : List ℕ) (s : Span) → s ≡ span_of holder.List Value
    → with_last_ids o (last_ids_put d id (overlay_of s.room (part_from s.words_at s.words_end words) [] c.value) o.last_record_ids)
    ≡ with_last_ids o (last_ids_put d id (part_of holder.List Value c words []) o.last_record_ids)
ids-part d o id c words s e =
    ap (λ (x : Span). with_last_ids o (last_ids_put d id (overlay_of x.room (part_from x.words_at x.words_end words) [] c.value) o.last_record_ids)) e
