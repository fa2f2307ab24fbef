-- What a record leaves at a position, free of its order: 0 if a drop reaches it, else the byte of the one write that reaches it, else nothing.
-- Assumes nothing.
use mathlib.Core.Path.{◌≡◌, refl, sym, ap, ap₂, ◌∙◌}
use mathlib.Core.Bool.{Bool, true, false, ◌||◌}
use mathlib.Core.List.{List, [], ◌∷◌, Permᴰ}
use mathlib.Core.Option.{Option, none, some, or_else}
use Prim.Native.Nat.{ℕ, ◌+◌, ◌≤◌}
use native.Mathlib.Omega.{arith}
use Rattle.std.specs.Prelude.{if◌then◌else◌}
use Rattle.directory.specs.declared.table.TableKind.{TableKind}
use Rattle.directory.specs.declared.directory.Directory.{Directory}
use Rattle.record.specs.declared.action.LogAction.{LogAction}
use Rattle.record.specs.declared.action.LogAction.TheVariants.{BeginRecord, InsertIndex, InsertValue, InsertRefCount, EndRecord, DropTable, DropRefCountTable}
use Rattle.effect.specs.Effect.{Written, strokes}
use Rattle.effect.specs.Order.{NamedTable, Target, written_by, dropped_by, writes_to, drops_table, Each, Pairs, Other, Spared}
use Rattle.effect.proofs.Bytes.{last_at, record_at}
use Rattle.effect.proofs.Reach.{In, Under, one_table, write_in, drop_in, idle}

abbrev is_some : Option ℕ → Bool
is_some none = false
is_some (some b) = true

abbrev hit : Option ℕ → ℕ
hit none = 0
hit (some b) = 1

or_swap : (d x y : Bool) → (d || x || y) ≡ (d || y || x)
or_swap true x y = refl
or_swap false true true = refl
or_swap false true false = refl
or_swap false false true = refl
or_swap false false false = refl

or_else-swap : (o a b : Option ℕ) → hit a + hit b ≤ 1 → or_else (or_else o b) a ≡ or_else (or_else o a) b
unfolding or_else
or_else-swap (some c) a b h = refl
or_else-swap none none none h = refl
or_else-swap none none (some b) h = refl
or_else-swap none (some a) none h = refl
or_else-swap none (some a) (some b) h = absurd (omega arith)

-- an action that drops does not write
drop_writes : (a : LogAction) (payload : List ℕ) (n : NamedTable) (t : Target) → dropped_by a ≡ some n → written_by a payload ≡ some t → ⊥
drop_writes (InsertIndex a) payload n t e f = let z : ◌≡◌ {A = ℕ} 0 1 = cc in omega arith
drop_writes (InsertValue a) payload n t e f = let z : ◌≡◌ {A = ℕ} 0 1 = cc in omega arith
drop_writes (InsertRefCount a) payload n t e f = let z : ◌≡◌ {A = ℕ} 0 1 = cc in omega arith
drop_writes (DropTable d) payload n t e f = let z : ◌≡◌ {A = ℕ} 0 1 = cc in omega arith
drop_writes (DropRefCountTable d) payload n t e f = let z : ◌≡◌ {A = ℕ} 0 1 = cc in omega arith
drop_writes BeginRecord payload n t e f = let z : ◌≡◌ {A = ℕ} 0 1 = cc in omega arith
drop_writes EndRecord payload n t e f = let z : ◌≡◌ {A = ℕ} 0 1 = cc in omega arith

-- the second, if there is a first
abbrev given : {A : Type 0} → Option A → Option ℕ → Option ℕ
given none o = none
given (some a) o = o

if_write : (d : Bool) (w x : Option ℕ) → or_else (if d then some 0 else w) x ≡ (if d || false then some 0 else or_else w x)
unfolding or_else
if_write true w x = refl
if_write false w x = refl

if_drop : (d : Bool) (w x : Option ℕ) → ((b : ℕ) → x ≡ some b → (w ≡ none) × (b ≡ 0))
    → or_else (if d then some 0 else w) x ≡ (if d || is_some x then some 0 else or_else w none)
unfolding or_else
if_drop true w x h = refl
if_drop false w none h = refl
if_drop false w (some b) h = let r = h b refl in rw (r.0, r.1)

module _ (d : Directory) (p : ℕ) where
  abbrev reached : Written → Option ℕ
  reached w = last_at (strokes d w.action w.payload) p

  -- what an action puts at p if it is a write; whether it is a drop that reaches p
  abbrev of_write : Written → Option ℕ
  of_write w = given (writes_to w) (reached w)

  abbrev of_drop : Written → Bool
  of_drop w = is_some (given (drops_table w) (reached w))

  -- the last write that reaches p; whether a drop reaches it
  abbrev pub wrote : List Written → Option ℕ
  wrote [] = none
  wrote (w ∷ s) = or_else (wrote s) (of_write w)

  abbrev pub dropped : List Written → Bool
  dropped [] = false
  dropped (w ∷ s) = dropped s || of_drop w

  abbrev hits : List Written → ℕ
  hits [] = 0
  hits (w ∷ s) = hit (of_write w) + hits s

  -- ---- another order changes neither

  hits_perm : {s t : List Written} → Permᴰ s t → hits s ≡ hits t
  hits_perm Permᴰ.nil = refl
  hits_perm (Permᴰ.cons e q) = ap₂ ◌+◌ (ap (λ (x : Written). hit (of_write x)) e) (hits_perm q)
  hits_perm (Permᴰ.swap {a} {b} {a'} {b'} {l} e f) = rw (e, f) (omega arith)
  hits_perm (Permᴰ.trans q r) = hits_perm q ∙ hits_perm r

  pub dropped_perm : {s t : List Written} → Permᴰ s t → dropped s ≡ dropped t
  dropped_perm Permᴰ.nil = refl
  dropped_perm (Permᴰ.cons e q) = ap₂ ◌||◌ (dropped_perm q) (ap of_drop e)
  dropped_perm (Permᴰ.swap {a} {b} {a'} {b'} {l} e f) = rw (← e, ← f) (or_swap (dropped l) (of_drop b) (of_drop a))
  dropped_perm (Permᴰ.trans q r) = dropped_perm q ∙ dropped_perm r

  wrote-hits : {s t : List Written} → Permᴰ s t → hits s ≤ 1 → wrote s ≡ wrote t
  wrote-hits Permᴰ.nil h = refl
  wrote-hits (Permᴰ.cons e q) h = ap₂ or_else (wrote-hits q (omega arith)) (ap of_write e)
  wrote-hits (Permᴰ.swap {a} {b} {a'} {b'} {l} e f) h = rw (← e, ← f) (or_else-swap (wrote l) (of_write a) (of_write b) (omega arith))
  wrote-hits (Permᴰ.trans q r) h = wrote-hits q h ∙ wrote-hits r (rw (hits_perm q) at h)

  -- ---- no key twice: at most one write reaches p

  -- what a write that reaches p names
  record Reaches (w : Written) : Type 0 where
    to : Target
    is : writes_to w ≡ some to
    here : Under d to.table.kind to.table.number to.index p

  of_write_in : (w : Written) (b : ℕ) → of_write w ≡ some b → Reaches w
  of_write_in w b e = go (writes_to w) refl
    where
      go : (o : Option Target) → writes_to w ≡ o → Reaches w
      go (some t) q = record { to = t; is = q; here = write_in d w.action w.payload p b t q (rw q at e) }
      go none q = let z : ◌≡◌ {A = ℕ} 0 1 = cc (rw q at e) in absurd (omega arith)

  -- two targets in one byte's table have that table
  same-table : (n m : NamedTable) (x : In d n.kind n.number p) (y : In d m.kind m.number p) → (n ≡ m) × (x.place ≡ y.place)
  same-table n m x y =
      let s = one_table d n.kind m.kind n.number m.number p x y in
      (ap₂ (λ (k : TableKind) (i : ℕ). record { kind = k; number = i }) s.0 s.1, s.2)

  clash : (v w : Written) (x y : ℕ) → Other v w → of_write v ≡ some x → of_write w ≡ some y → ⊥
  clash v w x y o e f =
      let a = of_write_in v x e in
      let b = of_write_in w y f in
      let s = same-table a.to.table b.to.table a.here.inside b.here.inside in
      let i : a.to.index ≡ b.to.index = sym a.here.under ∙ rw s.1 b.here.under in
      let t : a.to ≡ b.to = ap₂ (λ (x : NamedTable) (n : ℕ). record { table = x; index = n }) s.0 i in
      o b.to (a.is ∙ ap {B = Option Target} some t) b.is

  alone : (v : Written) (x : ℕ) (s : List Written) → of_write v ≡ some x → Each (Other v) s → hits s ≡ 0
  alone v x [] e h = refl
  alone v x (w ∷ s) e h = go (of_write w) refl (alone v x s e h.1)
    where
      go : (o : Option ℕ) → of_write w ≡ o → hits s ≡ 0 → hit o + hits s ≡ 0
      go none f ih = omega arith
      go (some y) f ih = absurd (clash v w x y h.0 e f)

  once : (s : List Written) → Pairs Other s → hits s ≤ 1
  once [] h = omega arith
  once (w ∷ s) h = go (of_write w) refl (once s h.1)
    where
      go : (o : Option ℕ) → of_write w ≡ o → hits s ≤ 1 → hit o + hits s ≤ 1
      go none e ih = omega arith
      go (some x) e ih = omega (arith, alone w x s e h.0)

  pub wrote_perm : {s t : List Written} → Permᴰ s t → Pairs Other s → wrote s ≡ wrote t
  wrote_perm {s} q h = wrote-hits q (once s h)

  -- ---- no table is written after its own drop: where a drop reaches p, p is 0

  spared : (v : Written) (n : NamedTable) (x : ℕ) (s : List Written) → drops_table v ≡ some n → reached v ≡ some x → Each (Spared v) s → wrote s ≡ none
  unfolding or_else
  spared v n x [] q e h = refl
  spared v n x (w ∷ s) q e h = go (of_write w) refl (spared v n x s q e h.1)
    where
      go : (o : Option ℕ) → of_write w ≡ o → wrote s ≡ none → or_else (wrote s) o ≡ none
      go none f ih = rw ih
      go (some y) f ih =
          let b = of_write_in w y f in
          let a = drop_in d v.action v.payload p x n q e in
          let t = same-table n b.to.table a.0 b.here.inside in
          absurd (h.0 b.to (q ∙ ap {B = Option NamedTable} some t.0) b.is)

  pub settle : (s : List Written) → Pairs Spared s → record_at d s p ≡ (if dropped s then some 0 else wrote s)
  unfolding record_at last_at
  settle [] h = refl
  settle (w ∷ s) h = rw (settle s h.1) (go (drops_table w) refl (writes_to w) refl)
    where
      go : (x : Option NamedTable) → drops_table w ≡ x → (y : Option Target) → writes_to w ≡ y
          → or_else (if dropped s then some 0 else wrote s) (reached w) ≡ (if dropped (w ∷ s) then some 0 else wrote (w ∷ s))
      go (some n) q (some t) r = absurd (drop_writes w.action w.payload n t q r)
      go (some n) q none r =
          rw (q, r) (if_drop (dropped s) (wrote s) (reached w)
          (λ b e. (spared w n b s q e h.0, (drop_in d w.action w.payload p b n q e).1)))
      go none q (some t) r = rw (q, r) (if_write (dropped s) (wrote s) (reached w))
      go none q none r = rw (q, r, idle d w.action w.payload r q) (if_write (dropped s) (wrote s) none)
