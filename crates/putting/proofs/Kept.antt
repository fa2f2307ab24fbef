-- The three kinds of a list put in turn: each finds its room and leaves the others theirs. Assumes nothing.
use mathlib.Core.Path.{◌≡◌, refl, sym, ap, ◌∙◌, subst}
use mathlib.Core.Bool.{true, false}
use mathlib.Core.List.{List, []}
use Prim.Native.Nat.{ℕ}
use Rattle.directory.specs.declared.table.TableKind.{TableKind}
use Rattle.directory.specs.declared.table.TableKind.TheVariants.{Index, Value, RefCount}
use Rattle.directory.specs.declared.directory.Directory.{Directory}
use Rattle.overlay.specs.Rules.{Overlay}
use Rattle.memory.specs.Parts.{Parts, span_of, count_of, part_of, parts_of, of_kind, with_kind, parts_kept}
use Rattle.memory.specs.Overlays.{Overlays}
use Rattle.memory.specs.declared.overlays.LogOverlays.{LogOverlays}
use Rattle.memory.specs.declared.counts.Counts.{Counts}
use Rattle.memory.specs.declared.span.Holder.TheVariants as holder
use Rattle.memory.specs.declared.span.Span.{Span}
use Rattle.memory.proofs.Lent.{fits, lent_of, lent_is, lent-kept}
use Rattle.memory.proofs.Spans.{of_parts, with_kept}
use Rattle.putting.specs.Listed.{passes, crowded, put_listed, put_kind, put_all, last_ids_put, overlays_put}
use Rattle.putting.specs.Inner.{parts_at, overlays_at, list_put, KindGoes, ListGoes}
use Rattle.memory.proofs.OneKind.{kind-kept}
use Rattle.putting.proofs.Crowds.{each_free}
use Rattle.putting.proofs.Meaning as meaning

-- the list's parts as the code lends them
module _ (kind : TableKind) (c : Counts) (words bytes : List ℕ) (shared : Parts) (s : Span) (e : s ≡ span_of holder.List kind) (n : ℕ) (d : n ≡ count_of kind c) where
  lent : lent_of s words bytes n ≡ of_kind kind (parts_at holder.List c words bytes)
  unfolding parts_at
  lent = lent_is holder.List kind c words bytes s e n d ∙ sym (of_parts holder.List kind c words bytes)

  pub kind-goes : ListGoes kind (parts_at holder.List c words bytes) shared → KindGoes kind s.room (lent_of s words bytes n) shared
  unfolding parts_at
  kind-goes g = record {
    kept = g.kept;
    small = (fits holder.List kind s e).room_most;
    listed = lent-kept holder.List kind c words bytes g.listed s e n d;
    free = subst (λ (o : Overlay). passes o (of_kind kind shared) ≡ false) (sym lent) g.free;
  }

  pub kind-put : (id : ℕ) (q : Parts) → q ≡ list_put kind id (lent_of s words bytes n) shared → q ≡ put_kind kind id (parts_at holder.List c words bytes) shared
  unfolding list_put put_kind parts_at
  kind-put id q f = f ∙ ap (λ (o : Overlay). with_kind kind shared (put_listed kind id o (of_kind kind shared))) lent

-- one kind put keeps the rules of all
pub kind-kept-on : (kind : TableKind) (id : ℕ) (list shared : Parts) → ListGoes kind list shared → parts_kept holder.Shared (put_kind kind id list shared) ≡ true
unfolding put_kind
kind-kept-on kind id list shared g =
    with_kept holder.Shared shared g.kept kind (put_listed kind id (of_kind kind list) (of_kind kind shared))
    (meaning.put-kept kind id (span_of holder.List kind).room (of_kind kind list) (of_kind kind shared) (kind-kept holder.List kind list g.listed) (kind-kept holder.Shared kind shared g.kept) g.free)

module _ (id : ℕ) (list shared : Parts) (listed : parts_kept holder.List list ≡ true) (kept : parts_kept holder.Shared shared ≡ true) (free : crowded list shared ≡ false) where
  pub goes-index : ListGoes Index list shared
  goes-index = record { listed = listed; kept = kept; free = each_free Index list shared free }

  value_then : ListGoes Value list (put_kind Index id list shared)
  unfolding put_kind
  value_then = record { listed = listed; kept = kind-kept-on Index id list shared goes-index; free = each_free Value list shared free }

  count_then : ListGoes RefCount list (put_kind Value id list (put_kind Index id list shared))
  unfolding put_kind
  count_then = record { listed = listed; kept = kind-kept-on Value id list (put_kind Index id list shared) value_then; free = each_free RefCount list shared free }

  pub goes-value : (q : Parts) → q ≡ put_kind Index id list shared → ListGoes Value list q
  goes-value q e = subst (λ (x : Parts). ListGoes Value list x) (sym e) value_then

  pub goes-count : (q : Parts) → q ≡ put_kind Index id list shared → (r : Parts) → r ≡ put_kind Value id list q → ListGoes RefCount list r
  goes-count q e r f = subst (λ (x : Parts). ListGoes RefCount list x) (sym (f ∙ ap (put_kind Value id list) e)) count_then

  -- "Rules of a state: room kept, no key twice, no mask 0": the overlays keep theirs
  pub all-kept : parts_kept holder.Shared (put_all id list shared) ≡ true
  all-kept = kind-kept-on RefCount id list (put_kind Value id list (put_kind Index id list shared)) count_then

-- each kind is put by itself
pub put_of : (kind : TableKind) (id : ℕ) (list shared : Parts) → of_kind kind (put_all id list shared) ≡ put_listed kind id (of_kind kind list) (of_kind kind shared)
unfolding put_kind
put_of Index id list shared = refl
put_of Value id list shared = refl
put_of RefCount id list shared = refl

-- the three puts of the code and the last ids it set
pub all-put : (d : Directory) (id : ℕ) (lc : Counts) (lw lb : List ℕ) (o r : LogOverlays) (w b w' b' : List ℕ) {q s : Parts}
    → q ≡ put_kind Index id (parts_at holder.List lc lw lb) (parts_at holder.Shared o.counts w b) → s ≡ put_kind Value id (parts_at holder.List lc lw lb) q
    → parts_at holder.Shared r.counts w' b' ≡ put_kind RefCount id (parts_at holder.List lc lw lb) s
    → r.last_record_ids ≡ last_ids_put d id (part_of holder.List Value lc lw []) o.last_record_ids
    → overlays_at r w' b' ≡ overlays_put d id (parts_at holder.List lc lw lb) (overlays_at o w b)
unfolding overlays_put overlays_at parts_at
all-put d id lc lw lb o r w b w' b' e f g h =
    same (g ∙ ap (put_kind RefCount id (parts_of holder.List lc lw lb)) (f ∙ ap (put_kind Value id (parts_of holder.List lc lw lb)) e)) h
  where
    same : {p p' : Parts} {l l' : List ℕ} → p ≡ p' → l ≡ l' → ◌≡◌ {A = Overlays} (record { parts = p; last_ids = l }) (record { parts = p'; last_ids = l' })
    same a b = rw (a, b)
