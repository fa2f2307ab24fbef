-- What the actions of a list say of a byte, taken together: a drop of its table comes last, and no two keys reach it. Assumes nothing.
use Rattle.std.specs.Prelude.{Option, Some, None}
use mathlib.Core.Path.{◌≡◌, refl, sym, ap, ap₂, ◌∙◌, subst}
use mathlib.Core.Bool.{true, false}
use mathlib.Core.List.{List, [], ◌++◌}
use mathlib.Core.Option.{none, some, or_else}
use Prim.Native.Nat.{ℕ, ◌+◌, ◌*◌, ◌≤◌, ◌<◌}
use native.Mathlib.Omega.{arith}
use lib.Dec.{ltb}
use lib.ListN.{length, drop}
use borrow.Author.Tests.{ltb-true}
use Rattle.words.proofs.Choices.{if_true}
use Rattle.directory.specs.Table.{size_of}
use Rattle.directory.specs.Directory.{find_table, start_of, image_length}
use Rattle.directory.specs.declared.table.TableKind.{TableKind}
use Rattle.directory.specs.declared.table.TableKind.TheVariants.{Index, Value, RefCount}
use Rattle.directory.specs.declared.table.TableDescription.{TableDescription}
use Rattle.directory.specs.declared.directory.Directory.{Directory}
use Rattle.record.specs.Record.{drop_index, drop_ref_count}
use Rattle.effect.specs.Effect.{Written, Place, place_of}
use Rattle.effect.specs.Meaning.{of_drop, says_of, says, last_said, SizedBy, Sized}
use Rattle.effect.specs.Order.{Each}
use Rattle.effect.proofs.Places.{stands}
use Rattle.effect.proofs.Reach.{In, Under, one_table, drop_in}
use Rattle.effect.proofs.Spots.{place_at, place_none}
use Rattle.numbers.specs.Numbers.{has}
use Rattle.keys.specs.Keys.{rank, key_at, keys_of}
use Rattle.keys.proofs.Places.{rule-under, rule-rises}
use Rattle.overlay.specs.Rules.{slot_size, stored_length}
use Rattle.memory.specs.Parts.{of_kind}
use Rattle.change.specs.Change.{Change, change_kept}
use Rattle.writer.specs.Typed.{Typed}
use Rattle.written.specs.Actions.{insert_at, inserts, drop_at, drops_of, all_inserts, all_drops, list_actions}
use Rattle.written.specs.Tables.{places_of, dropped_of, table_at, index_at, place_mark, table_start, table_size}
use Rattle.written.proofs.Accepted.{in_order, good, places-good, place-fits, place-room}
use Rattle.written.proofs.Entries.{Fitting}
use Rattle.written.proofs.Lists.{every-has, each_append, each_left, each_right, each_map, each_at, once, last-append, silent, Only, agreed, none_of, not_none}
use Rattle.written.proofs.Said.{in_within, exactly, insert-sized, insert-under}
use Rattle.written.proofs.Placed.{placed-found, placed-none}

-- ---- each action of a list

module _ (l : Change) where
  -- the action that the key in place q is written as
  abbrev pub insert : TableKind → ℕ → Written
  insert kind q = insert_at kind (of_kind kind l.parts) q

  abbrev of_one : TableKind → List Written
  of_one kind = inserts kind (of_kind kind l.parts)

  abbrev index_drops : List Written
  index_drops = drops_of drop_index l.drops

  abbrev count_drops : List Written
  count_drops = drops_of drop_ref_count l.count_drops

  module _ (P : Written → Type 0) where
    pub of-inserts : ((kind : TableKind) (q : ℕ) → has q (places_of kind l) ≡ true → P (insert kind q)) → Each P (all_inserts l)
    unfolding all_inserts inserts
    of-inserts h =
        each_append P (of_one Index ++ of_one Value) (of_one RefCount) (each_append P (of_one Index) (of_one Value) (of Index) (of Value)) (of RefCount)
      where
        of : (kind : TableKind) → Each P (of_one kind)
        of kind = each_map P (insert kind) (places_of kind l) (h kind)

    pub insert-at : Each P (all_inserts l) → (kind : TableKind) (q : ℕ) → has q (places_of kind l) ≡ true → P (insert kind q)
    unfolding all_inserts inserts
    insert-at h kind q e = each_at P (insert kind) (places_of kind l) q (of kind) e
      where
        of : (kind : TableKind) → Each P (of_one kind)
        of Index = each_left P (of_one Index) (of_one Value) (each_left P (of_one Index ++ of_one Value) (of_one RefCount) h)
        of Value = each_right P (of_one Index) (of_one Value) (each_left P (of_one Index ++ of_one Value) (of_one RefCount) h)
        of RefCount = each_right P (of_one Index ++ of_one Value) (of_one RefCount) h

    pub of-drops : ((t : ℕ) → has t (dropped_of Index l) ≡ true → P (drop_at drop_index t)) → ((t : ℕ) → has t (dropped_of RefCount l) ≡ true → P (drop_at drop_ref_count t)) → Each P (all_drops l)
    unfolding all_drops drops_of
    of-drops h k = each_append P index_drops count_drops (each_map P (drop_at drop_index) (dropped_of Index l) h) (each_map P (drop_at drop_ref_count) (dropped_of RefCount l) k)

    index_drop_at : Each P (all_drops l) → (t : ℕ) → has t (dropped_of Index l) ≡ true → P (drop_at drop_index t)
    unfolding all_drops drops_of
    index_drop_at h t e = each_at P (drop_at drop_index) (dropped_of Index l) t (each_left P index_drops count_drops h) e

    count_drop_at : Each P (all_drops l) → (t : ℕ) → has t (dropped_of RefCount l) ≡ true → P (drop_at drop_ref_count t)
    unfolding all_drops drops_of
    count_drop_at h t e = each_at P (drop_at drop_ref_count) (dropped_of RefCount l) t (each_right P index_drops count_drops h) e

-- ---- drops

module _ (d : Directory) (p : ℕ) where
  pub index_drop_in : (t c : ℕ) → says d (drop_at drop_index t) p ≡ some c → In d Index t p × (c ≡ 0)
  unfolding SizedBy
  index_drop_in t c e = drop_in d (drop_index t) [] p c _ refl (exactly d (drop_at drop_index t) p tt ∙ e)

  pub count_drop_in : (t c : ℕ) → says d (drop_at drop_ref_count t) p ≡ some c → In d RefCount t p × (c ≡ 0)
  unfolding SizedBy
  count_drop_in t c e = drop_in d (drop_ref_count t) [] p c _ refl (exactly d (drop_at drop_ref_count t) p tt ∙ e)

  -- a byte of a table, by the table's place in the image
  pub table_in_lem : (kind : TableKind) (t : ℕ) → table_start d kind t ≤ p → p < table_start d kind t + table_size d kind t → In d kind t p
  table_in_lem kind t h k = by (find_table d kind t) refl
    where
      by : (f : Option (ℕ × TableDescription)) → find_table d kind t ≡ f → In d kind t p
      by (Some (row, T)) q = record { place = _; is = place_at d kind t (start_of d row) T (placed-found d kind t row T q); from = rw q at h; to = rw q at k }
      by None q = let k' = rw q at k in absurd (omega arith)

  pub in_table : (kind : TableKind) (t : ℕ) → In d kind t p → (table_start d kind t ≤ p) × (p < table_start d kind t + table_size d kind t)
  in_table kind t x = by (find_table d kind t) refl
    where
      by : (f : Option (ℕ × TableDescription)) → find_table d kind t ≡ f → (table_start d kind t ≤ p) × (p < table_start d kind t + table_size d kind t)
      by (Some (row, T)) q =
          let e : x.place ≡ record { at = start_of d row; table = T } = cc (x.is, place_at d kind t (start_of d row) T (placed-found d kind t row T q)) in
          let a = ap (λ (P : Place). P.at) e in
          let b = ap (λ (P : Place). size_of P.table) e in
          rw q (omega (arith, x.from), omega (arith, x.to))
      by None q = absurd (not_none x.is (place_none d kind t (placed-none d kind t q)))

  drop_says : (kind : TableKind) (t : ℕ) → In d kind t p → of_drop (place_of d kind t) p ≡ some 0
  unfolding of_drop
  drop_says kind t x = rw x.is (if_true _ _ _ (in_within x.place.at (size_of x.place.table) p x.from x.to))

  -- where a table of it is dropped, the byte is 0; where none is, no drop says anything of it
  pub drops-zero : (l : Change) (kind : TableKind) (t : ℕ) → In d kind t p → has t (dropped_of kind l) ≡ true → last_said d (all_drops l) p ≡ some 0
  unfolding says_of
  drops-zero l kind t x h =
      agreed d p 0 (all_drops l) (of-drops l (Only d p 0) (λ t h c e. (index_drop_in t c e).1) (λ t h c e. (count_drop_in t c e).1)) (heard kind x h)
    where
      heard : (kind : TableKind) → In d kind t p → has t (dropped_of kind l) ≡ true → Each (λ w. says d w p ≡ none) (all_drops l) → ⊥
      heard Index x h e = not_none (drop_says Index t x) (index_drop_at l (λ w. says d w p ≡ none) e t h)
      heard Value x h e = let z : ◌≡◌ {A = ℕ} 0 1 = cc in omega arith
      heard RefCount x h e = not_none (drop_says RefCount t x) (count_drop_at l (λ w. says d w p ≡ none) e t h)

  pub drops-silent : (l : Change) (kind : TableKind) (t : ℕ) → In d kind t p → has t (dropped_of kind l) ≡ false → last_said d (all_drops l) p ≡ none
  drops-silent l kind t x h =
      silent d p (all_drops l)
      (of-drops l (λ w. says d w p ≡ none)
      (λ u e. none_of _ (λ c q. clash Index u (index_drop_in u c q).0 e))
      (λ u e. none_of _ (λ c q. clash RefCount u (count_drop_in u c q).0 e)))
    where
      clash : (k : TableKind) (u : ℕ) → In d k u p → has u (dropped_of k l) ≡ true → ⊥
      clash k u y e =
          let o = one_table d kind k t u p x y in
          let z : ◌≡◌ {A = ℕ} 0 1 = cc (ap₂ (λ (k : TableKind) (u : ℕ). has u (dropped_of k l)) o.0 o.1, h, e) in
          omega arith

-- ---- inserts

module _ (d : Directory) (l : Change) (kept : change_kept d l ≡ true) (words : Typed l) where
  is-good : (kind : TableKind) (q : ℕ) → has q (places_of kind l) ≡ true → good d l kind q ≡ true
  is-good kind q h = every-has (good d l kind) (places_of kind l) q (places-good d l kept words kind) h

  -- a listed key, and the bytes of its slot
  pub fits : (kind : TableKind) (q : ℕ) → has q (places_of kind l) ≡ true → Fitting d kind (table_at kind l q) (index_at kind l q) (place_mark kind l q)
  fits kind q h = place-fits d l kept words kind q (is-good kind q h)

  pub room : (kind : TableKind) (q : ℕ) → has q (places_of kind l) ≡ true → stored_length kind (place_mark kind l q) ≤ length (drop (slot_size kind * q) (of_kind kind l.parts).bytes)
  room kind q h =
      let n : ℕ = (of_kind kind l.parts).count in
      let u = every-has (λ (p : ℕ). ltb p n) (places_of kind l) q (rule-under _ _ _ (in_order d l kept words kind)) h in
      place-room d l kept words kind q (ltb-true q n u) (is-good kind q h)

  pub all-sized : Each (Sized d) (list_actions l)
  unfolding list_actions insert_at SizedBy
  all-sized =
      each_append (Sized d) (all_inserts l) (all_drops l)
      (of-inserts l (Sized d) (λ kind q h. insert-sized d kind _ _ _ (fits kind q h) (drop (slot_size kind * q) (of_kind kind l.parts).bytes) (words.rows kind (4 * q + 3)) (room kind q h)))
      (of-drops l (Sized d) (λ t h. tt) (λ t h. tt))

  pub under : (kind : TableKind) (q : ℕ) → has q (places_of kind l) ≡ true → (p c : ℕ) → says d (insert l kind q) p ≡ some c → Under d kind (table_at kind l q) (index_at kind l q) p
  unfolding insert_at
  under kind q h p c e = insert-under d kind _ _ _ (fits kind q h) (drop (slot_size kind * q) (of_kind kind l.parts).bytes) (words.rows kind (4 * q + 3)) (room kind q h) p c e

  -- "no key twice": two listed places of one table and index are one
  one_place : (kind : TableKind) (q r : ℕ) → has q (places_of kind l) ≡ true → has r (places_of kind l) ≡ true → table_at kind l q ≡ table_at kind l r → index_at kind l q ≡ index_at kind l r → q ≡ r
  unfolding keys_of
  one_place kind q r h k e f =
      once (key_at (of_kind kind l.parts).rows) (places_of kind l) q r (rule-rises _ _ _ (in_order d l kept words kind)) h k (ap₂ rank e f)

  module _ (kind : TableKind) (q : ℕ) (h : has q (places_of kind l) ≡ true) (p b : ℕ) (e : says d (insert l kind q) p ≡ some b) where
    same_kind : (r : ℕ) → has r (places_of kind l) ≡ true → table_at kind l q ≡ table_at kind l r → index_at kind l q ≡ index_at kind l r → Only d p b (insert l kind r)
    same_kind r k f g c i =
        let z : q ≡ r = one_place kind q r h k f g in
        let j : says d (insert l kind q) p ≡ some c = rw z i in
        cc (e, j)

    other : (k : TableKind) (r : ℕ) → has r (places_of k l) ≡ true → Only d p b (insert l k r)
    other k r g c i =
        let x = under kind q h p b e in
        let y = under k r g p c i in
        let o = one_table d kind k (table_at kind l q) (table_at k l r) p x.inside y.inside in
        subst (λ (k : TableKind). (r : ℕ) → has r (places_of k l) ≡ true → table_at kind l q ≡ table_at k l r → index_at kind l q ≡ index_at k l r → Only d p b (insert l k r)) o.0
        same_kind r g o.1 (sym x.under ∙ rw o.2 y.under) c i

    -- what the one key that reaches a byte says is what all say, unless its table is dropped
    pub last_said_lem : has (table_at kind l q) (dropped_of kind l) ≡ false → last_said d (list_actions l) p ≡ some b
    unfolding list_actions or_else
    last_said_lem n =
        last-append d p (all_inserts l) (all_drops l)
        ∙ rw (drops-silent d p l kind (table_at kind l q) (under kind q h p b e).inside n)
        (agreed d p b (all_inserts l) (of-inserts l (Only d p b) other) (λ s. not_none e (insert-at l (λ w. says d w p ≡ none) s kind q h)))

    pub in_image : p < image_length d
    in_image =
        let x = (under kind q h p b e).inside in
        omega (arith, x.to, (stands d kind (table_at kind l q) x.place x.is).room)
