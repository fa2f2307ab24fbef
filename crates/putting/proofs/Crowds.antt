-- The keys of both counted, kind by kind. Assumes nothing.
use mathlib.Core.Path.{◌≡◌, refl, ap, ◌∙◌, subst}
use mathlib.Core.Bool.{Bool, true, false, ◌||◌}
use mathlib.Core.List.{List, []}
use Prim.Native.Nat.{ℕ, ◌+◌, ◌-◌, ◌≤◌}
use native.Mathlib.Omega.{arith}
use lib.Dec.{ltb}
use lib.ListN.{take}
use Rattle.directory.specs.declared.table.TableKind.{TableKind}
use Rattle.directory.specs.declared.table.TableKind.TheVariants.{Index, Value, RefCount}
use Rattle.keys.specs.Keys.{keys_of, news}
use Rattle.keys.specs.Lent.{keys_in}
use Rattle.keys.specs.declared.ordered.Keys.{Keys}
use Rattle.keys.proofs.Lent.{keys_in-taken}
use Rattle.keys.proofs.Rank.{ltb_same}
use Rattle.overlay.specs.Rules.{Overlay, rows_of, order_of, overlay_of}
use Rattle.overlay.proofs.Ruled.{keys-room}
use Rattle.memory.specs.Parts.{Parts, span_of, count_of, part_of, of_kind}
use Rattle.memory.specs.declared.counts.Counts.{Counts}
use Rattle.memory.specs.declared.span.Holder.TheVariants as holder
use Rattle.memory.specs.declared.span.Span.{Span}
use Rattle.memory.proofs.Lent.{lent_of, lent_is}
use Rattle.putting.specs.Listed.{keys_held, passes, crowded}
use Rattle.putting.specs.Inner.{KeysIn}
use Rattle.memory.proofs.OneKind.{shared_room}

-- the keys of each, lent
pub lacking_as : (s l : Keys) (room : ℕ) (words : List ℕ) (n list-room : ℕ) (listed : List ℕ) (m : ℕ)
    → s.rows.now ≡ rows_of room words → s.order.now ≡ take n (order_of room words) → l.rows.now ≡ rows_of list-room listed → l.order.now ≡ take m (order_of list-room listed)
    → news (keys_in s) (keys_in l) ≡ news (keys_held (overlay_of room words [] n)) (keys_held (overlay_of list-room listed [] m))
lacking_as s l room words n list-room listed m r o r' o' =
    let e : keys_in s ≡ keys_of (rows_of room words) (order_of room words) n = keys_in-taken s (rows_of room words) (order_of room words) n r o in
    let f : keys_in l ≡ keys_of (rows_of list-room listed) (order_of list-room listed) m = keys_in-taken l (rows_of list-room listed) (order_of list-room listed) m r' o' in
    rw (e, f)

-- counted without a sum that could be too large
passes_as : (n x y : ℕ) → x ≡ y → n ≤ 256 → ltb (256 - n) x ≡ ltb 256 (n + y)
passes_as n x y e h = ltb_same (256 - n) x 256 (n + y) (λ r. omega (arith, e)) (λ r. omega (arith, e))

module _ (kind : TableKind) (list counts : Counts) (list-words words : List ℕ) (k : KeysIn holder.Shared kind counts words) where
  few : count_of kind counts ≤ 256
  few = subst (λ (r : ℕ). count_of kind counts ≤ r) (shared_room kind) (keys-room kind (span_of holder.Shared kind).room _ _ (count_of kind counts) k.ruled)

  pub few_shared : (n : ℕ) → n ≡ count_of kind counts → n ≤ 256
  few_shared n e = omega (arith, few)

  pub crowd_as : (s : Span) → s ≡ span_of holder.Shared kind → (t : Span) → t ≡ span_of holder.List kind → (n : ℕ) → n ≡ count_of kind counts → (m : ℕ) → m ≡ count_of kind list
      → (x : ℕ) → x ≡ news (keys_held (lent_of s words [] n)) (keys_held (lent_of t list-words [] m))
      → ltb (256 - n) x ≡ passes (part_of holder.List kind list list-words []) (part_of holder.Shared kind counts words [])
  unfolding passes
  crowd_as s e t f n g m h x i =
      ap (λ (n : ℕ). ltb (256 - n) x) g
      ∙ passes_as (count_of kind counts) x _
      (i ∙ ap (λ (o : Overlay). news (keys_held o) (keys_held (lent_of t list-words [] m))) (lent_is holder.Shared kind counts words [] s e n g)
      ∙ ap (λ (o : Overlay). news (keys_held (part_of holder.Shared kind counts words [])) (keys_held o)) (lent_is holder.List kind list list-words [] t f m h)) few

-- a test a kind
module _ (list shared : Parts) where
  pub crowded-index : true ≡ passes list.index shared.index → true ≡ crowded list shared
  unfolding crowded
  crowded-index e = rw (← e)

  pub crowded-value : false ≡ passes list.index shared.index → true ≡ passes list.value shared.value → true ≡ crowded list shared
  unfolding crowded
  crowded-value d e = rw (← d, ← e)

  pub crowded-last : false ≡ passes list.index shared.index → false ≡ passes list.value shared.value → (b : Bool) → b ≡ passes list.ref_count shared.ref_count → b ≡ crowded list shared
  unfolding crowded
  crowded-last d e b f = rw (← d, ← e) f

neither : (a b : Bool) → (a || b) ≡ false → (a ≡ false) × (b ≡ false)
neither false false e = (refl, refl)
neither false true e = let z : ◌≡◌ {A = ℕ} 0 1 = cc in absurd (omega arith)
neither true b e = let z : ◌≡◌ {A = ℕ} 0 1 = cc in absurd (omega arith)

-- where none is crowded, each has room
pub each_free : (kind : TableKind) (list shared : Parts) → crowded list shared ≡ false → passes (of_kind kind list) (of_kind kind shared) ≡ false
unfolding crowded
each_free Index list shared e = (neither (passes list.index shared.index) _ e).0
each_free Value list shared e = (neither (passes list.value shared.value) _ (neither (passes list.index shared.index) _ e).1).0
each_free RefCount list shared e = (neither (passes list.value shared.value) _ (neither (passes list.index shared.index) _ e).1).1
