-- DEMAND 3: "Order inside a record doesn't matter. Take two accepted records with one id, one directory, equal starting tables and the same
-- actions with the same bytes in different order. If no kind, table and index is written twice, and in neither record a table is written
-- after its own drop, both leave the same tables, those that demand 2 names." Assumes nothing.
use mathlib.Core.Path.{◌≡◌, sym, ap, ap₂, ◌∙◌}
use mathlib.Core.Bool.{Bool}
use mathlib.Core.List.{List, [], ◌∷◌, ◌++◌, Permᴰ, is_set, Perm}
use mathlib.Core.Logic.{∥∥₁_elim}
use mathlib.Core.Option
use mathlib.Core.Option.{Option, none, some}
use Prim.Native.Nat.{ℕ, ◌<◌}
use native.Mathlib.Nat.{ℕ_set}
use native.Mathlib.Omega.{arith}
use lib.ListN.{length, get_or}
use Rattle.std.specs.Prelude.{if◌then◌else◌}
use Rattle.directory.specs.declared.directory.Directory.{Directory}
use Rattle.effect.specs.Effect.{Written, apply}
use Rattle.effect.specs.Order.{writes_to, drops_table, Each, Pairs, Other, Spared}
use Rattle.effect.proofs.Bytes.{record_at, apply_at, apply-same}
use Rattle.effect.proofs.Settle.{wrote, dropped, wrote_perm, dropped_perm, settle}

shuffled : (d : Directory) (s t : List Written) (image : List ℕ) → Permᴰ s t → Pairs Other s → Pairs Spared s → Pairs Spared t
    → apply d s image ≡ apply d t image
shuffled d s t image q other spared spared' = apply-same d s t image each
  where
    each : (p : ℕ) → record_at d s p ≡ record_at d t p
    each p =
        settle d p s spared
        ∙ ap₂ (λ (x : Bool) (y : Option ℕ). if x then some 0 else y) (dropped_perm d p q) (wrote_perm d p q other)
        ∙ sym (settle d p t spared')

pub demand-3 : (d : Directory) (s t : List Written) (image : List ℕ)
    → Perm s t  -- "the same actions with the same bytes in different order"
    → Pairs Other s  -- "no kind, table and index is written twice"
    → Pairs Spared s  -- "and in neither record a table is written after its own drop"
    → Pairs Spared t
    → apply d s image ≡ apply d t image
demand-3 d s t image q other spared spared' =
    ∥∥₁_elim q (is_set ℕ_set (apply d s image) (apply d t image)) (λ e. shuffled d s t image e other spared spared')

-- What such a record leaves, by no order: 0 where a drop reaches, else the byte of the last write, else the old byte.
pub settled : (d : Directory) (s : List Written) (image : List ℕ) (p : ℕ)
    → Pairs Spared s  -- no table is written after its own drop
    → p < length image  -- p is a position of the image
    → get_or (apply d s image) p 0 ≡ Option.get_or (if dropped d p s then some 0 else wrote d p s) (get_or image p 0)
settled d s image p spared h = apply_at d s image p h ∙ ap (λ (o : Option ℕ). Option.get_or o (get_or image p 0)) (settle d p s spared)

-- The writer's order, writes and then drops, meets the premise on drops.
pub writer_order : (ws ds : List Written)
    → Each (λ w. drops_table w ≡ none) ws  -- first actions that drop nothing
    → Each (λ w. writes_to w ≡ none) ds  -- then actions that write nothing
    → Pairs Spared (ws ++ ds)
writer_order [] [] h k = tt
writer_order [] (v ∷ ds) h k = (free ds k.1, writer_order [] ds h k.1)
  where
    free : (l : List Written) → Each (λ w. writes_to w ≡ none) l → Each (Spared v) l
    free [] q = tt
    free (w ∷ l) q = ((λ t a b. let z : ◌≡◌ {A = ℕ} 0 1 = cc q.0 in omega arith), free l q.1)
writer_order (v ∷ ws) ds h k = (free (ws ++ ds), writer_order ws ds h.1 k)
  where
    free : (l : List Written) → Each (Spared v) l
    free [] = tt
    free (w ∷ l) = ((λ t a b. let z : ◌≡◌ {A = ℕ} 0 1 = cc h.0 in omega arith), free l)
