-- What is left in the overlays: of a key that the record names the entry of another id, of any other key what stood there. Assumes nothing.
use mathlib.Core.Path.{◌≡◌, refl, ap, ◌∙◌}
use mathlib.Core.Bool.{Bool, true, false, ◌||◌}
use mathlib.Core.List.{List, [], ◌∷◌}
use mathlib.Core.Option.{Option, none, some}
use Prim.Native.Nat.{ℕ, ◌+◌, ◌<◌, ◌≤◌}
use native.Mathlib.Omega.{arith}
use lib.Dec.{eqb, ltb}
use borrow.Author.Tests.{eq-eqb, ne_eqb, ltb-true, ltb-false}
use Rattle.std.specs.Prelude.{if◌then◌else◌}
use Rattle.directory.specs.declared.table.TableKind.{TableKind}
use Rattle.effect.specs.Effect.{Written}
use Rattle.keys.specs.Keys.{rank}
use Rattle.overlay.specs.Entries.{Entry}
use Rattle.overlay.proofs.Entries.{unless}
use Rattle.memory.specs.declared.span.Holder.TheVariants as holder
use Rattle.memory.specs.Parts.{Parts, entry_under, parts_kept}
use Rattle.memory.proofs.Under.{under_remove}
use Rattle.clearing.specs.Clear.{NamedKey, named_by, cleared_key, cleared_by, hits, names}
use Rattle.clearing.specs.EndRead.{next_after}
use Rattle.std.specs.Prelude.{Some, None}
use Rattle.clearing.proofs.Cleared.{key-kept}

module _ (kind : TableKind) (id k : ℕ) where
  -- what goes once is gone
  once : (e : Option Entry) → unless id (unless id e) ≡ unless id e
  once none = refl
  once (some e) = by (eqb e.id id) refl
    where
      by : (b : Bool) → eqb e.id id ≡ b → unless id (if b then none else some e) ≡ (if b then none else some e)
      by true q = refl
      by false q = rw q

  key-found : (n : NamedKey) (p : Parts) → parts_kept holder.Shared p ≡ true → entry_under kind k (cleared_key id n p) ≡ (if hits kind k n then unless id (entry_under kind k p) else entry_under kind k p)
  key-found None p ok = refl
  key-found (Some (own, table, index)) p ok = under_remove holder.Shared p ok own kind k (rank table index) id

  -- what a lookup finds after a record was cleared
  pub found_after : (ws : List Written) (p : Parts) → parts_kept holder.Shared p ≡ true
      → entry_under kind k (cleared_by id ws p) ≡ (if names kind k ws then unless id (entry_under kind k p) else entry_under kind k p)
  unfolding cleared_by
  found_after [] p ok = refl
  found_after (w ∷ ws) p ok =
      found_after ws (cleared_key id (named_by w.action) p) (key-kept id (named_by w.action) p ok)
      ∙ ap (λ (e : Option Entry). if names kind k ws then unless id e else e) (key-found (named_by w.action) p ok)
      ∙ by (hits kind k (named_by w.action)) (names kind k ws) (entry_under kind k p)
    where
      by : (a b : Bool) (e : Option Entry) → (if b then unless id (if a then unless id e else e) else if a then unless id e else e) ≡ (if a || b then unless id e else e)
      by true true e = once e
      by true false e = refl
      by false b e = refl

  module _ (ws : List Written) (p : Parts) (ok : parts_kept holder.Shared p ≡ true) where
    -- "An entry goes only if its stored id equals the record's"
    pub own-cleared : (e : Entry) → names kind k ws ≡ true → entry_under kind k p ≡ some e → e.id ≡ id → entry_under kind k (cleared_by id ws p) ≡ none
    own-cleared e n f i = found_after ws p ok ∙ rw (n, f, eq-eqb e.id id i)

    -- "a newer one stays"
    pub newer_left : (e : Entry) → entry_under kind k p ≡ some e → (e.id ≡ id → ⊥) → entry_under kind k (cleared_by id ws p) ≡ some e
    newer_left e f i = found_after ws p ok ∙ by (names kind k ws)
      where
        by : (b : Bool) → (if b then unless id (entry_under kind k p) else entry_under kind k p) ≡ some e
        by true = rw (f, ne_eqb e.id id i)
        by false = f

    -- and so does what stands under a key that the record doesn't name
    pub others-left : names kind k ws ≡ false → entry_under kind k (cleared_by id ws p) ≡ entry_under kind k p
    others-left n = found_after ws p ok ∙ rw n

-- the next id is then above the record's, and no smaller than it was: no id is handed out twice
pub next_raised : (next id : ℕ) → (id < next_after next id) × (next ≤ next_after next id)
next_raised next id = by (ltb id next) refl
  where
    by : (b : Bool) → ltb id next ≡ b → (id < (if b then next else id + 1)) × (next ≤ (if b then next else id + 1))
    by true e = (ltb-true id next e, omega arith)
    by false e = let h : next ≤ id = ltb-false id next e in (omega arith, omega arith)
