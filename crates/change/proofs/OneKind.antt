-- One kind's part of a list's words, as its holder hands it out: what the rules say of it; and what reads no bytes reads the same from it. Assumes
-- nothing.
use mathlib.Core.Path.{◌≡◌, refl, sym, ap, ◌∙◌}
use mathlib.Core.Bool.{true}
use mathlib.Core.List.{List, []}
use Prim.Native.Nat.{ℕ, ◌*◌, ◌≤◌}
use native.Mathlib.Omega.{arith}
use lib.ListN.{length, take}
use lib.Seq.{length-take-le}
use Rattle.directory.specs.declared.table.TableKind.{TableKind}
use Rattle.directory.specs.declared.table.TableKind.TheVariants.{Index, Value, RefCount}
use Rattle.keys.specs.Keys.{ruled, every}
use Rattle.overlay.specs.Rules.{Overlay, row_ruled, rows_of, order_of, lists_of, overlay_of}
use Rattle.overlay.proofs.Ruled.{Kept, shows}
use Rattle.overlay.proofs.Parts.{words_long}
use Rattle.memory.specs.declared.span.Holder.TheVariants as holder
use Rattle.memory.specs.Parts.{span_of, words_all, bytes_all, count_of, words_in, bytes_in, part_of, of_kind}
use Rattle.memory.proofs.OneKind.{kind-kept}
use Rattle.memory.proofs.Spans.{of_parts, words-all, bytes-all}
use Rattle.change.specs.declared.change.LogChange.{LogChange}
use Rattle.change.specs.declared.ruled.Ruled.{Ruled}
use Rattle.change.specs.Ruled.{list_of}
use Rattle.change.specs.Change.{change_of, change_ruled, places_of}
use Rattle.change.proofs.Rules.{ruled-parts, ruled-shows}

rooms : (kind : TableKind) → (span_of holder.List kind).room ≤ 32
rooms Index = omega arith
rooms Value = omega arith
rooms RefCount = omega arith

module _ (kind : TableKind) (l : LogChange) (words bytes : List ℕ) where
  abbrev mine : Overlay
  mine = part_of holder.List kind l.counts words bytes

  of_list : of_kind kind (change_of l words bytes).parts ≡ mine
  of_list = of_parts holder.List kind l.counts words bytes

  pub bytes-of_list : bytes_in holder.List kind bytes ≡ (of_kind kind (change_of l words bytes).parts).bytes
  bytes-of_list = ap (λ (o : Overlay). o.bytes) (sym of_list)

  -- what the code hands on, each with its equation
  module _ (room : ℕ) (part : List ℕ) (n : ℕ) (r : room ≡ (span_of holder.List kind).room) (p : part ≡ words_in holder.List kind words) (d : n ≡ count_of kind l.counts) where
    pub rows-of_list : rows_of room part ≡ (of_kind kind (change_of l words bytes).parts).rows
    rows-of_list = rw (r, p) (ap (λ (o : Overlay). o.rows) (sym of_list))

    pub order-of_list : take n (order_of room part) ≡ places_of (of_kind kind (change_of l words bytes).parts)
    order-of_list = rw (r, p, d) (ap places_of (sym of_list))

    pub reads-part : {A : Type 0} (f : Overlay → A) → ((rows order bytes : List ℕ) (n : ℕ) → f (lists_of rows order [] n) ≡ f (lists_of rows order bytes n))
        → f (overlay_of room part [] n) ≡ f (of_kind kind (change_of l words bytes).parts)
    reads-part f same = rw (r, p, d) (same _ _ (bytes_in holder.List kind bytes) (count_of kind l.counts)) ∙ ap f (sym of_list)

  -- and what the rules say of it
  module _ (ok : change_ruled (change_of l words bytes) ≡ true) where
    pub all-words : length words ≡ words_all holder.List
    all-words = words-all holder.List l.counts words bytes (ruled-parts (change_of l words bytes) ok)

    pub all-bytes : length bytes ≡ bytes_all holder.List
    all-bytes = bytes-all holder.List l.counts words bytes (ruled-parts (change_of l words bytes) ok)

    kept : Kept kind (span_of holder.List kind).room mine
    kept = shows kind (span_of holder.List kind).room mine (rw of_list at (kind-kept holder.List kind (change_of l words bytes).parts (ruled-parts (change_of l words bytes) ok)))

    module _ (room : ℕ) (part : List ℕ) (n : ℕ) (r : room ≡ (span_of holder.List kind).room) (p : part ≡ words_in holder.List kind words) (d : n ≡ count_of kind l.counts) where
      pub lent : (length part ≡ 5 * room) × (n ≤ room) × (ruled (rows_of room part) (order_of room part) n ≡ true)
      lent = rw (r, p, d) (words_long (span_of holder.List kind).room (words_in holder.List kind words) kept.rows_long kept.order-long, kept.fits, kept.in_order)

      pub each-ruled : (rows order : List ℕ) → rows ≡ rows_of room part → order ≡ take n (order_of room part) → every (row_ruled kind rows) order ≡ true
      each-ruled rows order e f = rw (e, f, r, p, d) kept.each

      pub few : (order : List ℕ) → order ≡ take n (order_of room part) → length order ≤ 32
      few order f =
          let most = rooms kind in
          let low : n ≤ room = rw (r, d) kept.fits in
          let long : length (order_of room part) ≡ room = rw (r, p) kept.order-long in
          omega (arith, ap length f, length-take-le n (order_of room part) (omega arith), r)

-- what a list that goes by value with its memories is known to keep
pub list-ruled : (r : Ruled) → change_ruled (list_of r) ≡ true
unfolding list_of
list-ruled r = r.ruled

pub few-drops : (r : Ruled) → (r.list.dropped_tables.count ≤ 16) × (r.list.dropped_ref_count_tables.count ≤ 16)
unfolding list_of
few-drops r = let k = ruled-shows (change_of r.list r.words.now r.bytes.now) r.ruled in (k.drops, k.count-drops)

-- its parts that the code names
module _ (r : Ruled) where
  pub id-of_list : (list_of r).id ≡ r.list.record_id
  unfolding list_of
  id-of_list = refl

  pub drops-of_list : (list_of r).drops ≡ r.list.dropped_tables
  unfolding list_of
  drops-of_list = refl

  pub count_drops-of_list : (list_of r).count_drops ≡ r.list.dropped_ref_count_tables
  unfolding list_of
  count_drops-of_list = refl
