-- The entries of a list put over the shared ones, one after the other: each finds room and keeps the rules. Assumes nothing.
use mathlib.Core.Path.{◌≡◌, refl, sym, ap, ◌∙◌, subst}
use mathlib.Core.Bool.{Bool, true, false}
use mathlib.Core.List.{List, [], ◌∷◌, map}
use mathlib.Core.Option.{Option, none, some}
use Prim.Native.Nat.{ℕ, suc, ◌+◌, ◌*◌, ◌≤◌, ◌<◌}
use native.Mathlib.Omega.{arith}
use lib.Dec.{eqb}
use lib.ListN.{length, get_or, take, drop}
use borrow.Author.Tests.{ltb-false}
use Rattle.std.specs.Prelude.{if◌then◌else◌}
use Rattle.directory.specs.declared.table.TableKind.{TableKind}
use Rattle.numbers.proofs.Laws.{places-cons, places-end}
use Rattle.numbers.specs.Numbers.{spot, has}
use Rattle.keys.specs.Keys.{key_at, mark_at, keys_of, news}
use Rattle.overlay.specs.Rules.{Overlay, overlay_kept, overlay_of}
use Rattle.overlay.specs.Overlay.{spot_in_of, stands_in, put_over}
use Rattle.overlay.specs.Entries.{Entry, entries_of, find_entry}
use Rattle.overlay.proofs.Entries.{key_of}
use Rattle.overlay.proofs.Lookups.{find_entry-there, find_entry-none}
use Rattle.overlay.proofs.Memory.{keys_are}
use Rattle.overlay.proofs.Puts.{put-kept, find_entry-after-put}
use Rattle.overlay.proofs.Ruled.{Kept, shows}
use Rattle.memory.specs.Parts.{Parts, span_of, of_kind, with_kind, parts_kept, Takes}
use Rattle.memory.specs.declared.span.Holder.TheVariants as holder
use Rattle.memory.proofs.Spans.{with_kept}
use Rattle.putting.specs.Listed.{keys_held, passes, stored_at, put_place, put_places, listed_entry}
use Rattle.putting.specs.Inner.{row_at, place_put, list_put, RowGoes, KindGoes}
use Rattle.putting.specs.declared.place.ListedRow.{ListedRow}
use Rattle.change.proofs.Listed.{Placed, placed}
use Rattle.memory.proofs.OneKind.{of_with, with_with, with_of, kind-kept, shared_room}
use Rattle.putting.proofs.Places.{order-word, order-holds, bytes-long, bytes_fit, table-small, row_goes, row_put}

-- whether a lookup finds something
abbrev pub is_some : Option Entry → Bool
is_some none = false
is_some (some e) = true

pub has-found : (k : ℕ) (l : List Entry) → has k (map key_of l) ≡ is_some (find_entry k l)
has-found k [] = refl
has-found k (a ∷ l) = by (eqb a.key k) (has-found k l)
  where
    by : (b : Bool) → has k (map key_of l) ≡ is_some (find_entry k l) → (if b then true else has k (map key_of l)) ≡ is_some (if b then some a else find_entry k l)
    by true ih = refl
    by false ih = ih

-- what is left to count once a key is in
news-less : (s t l : List ℕ) → ((x : ℕ) → has x s ≡ true → has x t ≡ true) → news t l ≤ news s l
news-less s t [] f = omega arith
news-less s t (k ∷ l) f = by (has k s) (has k t) (f k) (news-less s t l f)
  where
    by : (a b : Bool) → (a ≡ true → b ≡ true) → news t l ≤ news s l → (if b then news t l else suc (news t l)) ≤ (if a then news s l else suc (news s l))
    by true true g h = h
    by true false g h = let z : ◌≡◌ {A = Bool} false true = g refl in let w : ◌≡◌ {A = ℕ} 0 1 = cc in absurd (omega arith)
    by false true g h = omega arith
    by false false g h = omega arith

counted : (k : ℕ) (s t l : List ℕ) (n m : ℕ) → m ≡ (if has k s then n else n + 1) → ((x : ℕ) → has x s ≡ true → has x t ≡ true) → m + news t l ≤ n + news s (k ∷ l)
counted k s t l n m e f = by (has k s) e
  where
    less : news t l ≤ news s l
    less = news-less s t l f

    by : (b : Bool) → m ≡ (if b then n else n + 1) → m + news t l ≤ n + (if b then news s l else suc (news s l))
    by true q = omega (arith, less)
    by false q = omega (arith, less)

-- the shared ones keep their rules, and the keys in the places left have room
pub record Going (kind : TableKind) (rows ps : List ℕ) (o : Overlay) : Type 0 where
  pub kept : overlay_kept kind (span_of holder.Shared kind).room o ≡ true
  pub room : o.count + news (keys_held o) (map (key_at rows) ps) ≤ 256

module _ (kind : TableKind) (list : Overlay) (ps : List ℕ) (p : ℕ) (o : Overlay) (g : Going kind list.rows (p ∷ ps) o) where
  abbrev key : ℕ
  key = key_at list.rows p

  k : Kept kind (span_of holder.Shared kind).room o
  k = shows kind (span_of holder.Shared kind).room o g.kept

  w : o.count ≤ length o.order
  w = omega (arith, k.fits, k.order-long)

  has_as : has key (keys_held o) ≡ is_some (find_entry key (entries_of kind o))
  has_as = ap (has key) (sym (keys_are kind o)) ∙ has-found key (entries_of kind o)

  stands-has : stands_in o key ≡ has key (keys_held o)
  unfolding stands_in spot_in_of
  stands-has = by (stands_in o key) refl
    where
      by : (b : Bool) → stands_in o key ≡ b → stands_in o key ≡ has key (keys_held o)
      by true h = h ∙ sym (has_as ∙ ap is_some (find_entry-there kind o w key (spot key (keys_held o)) refl h))
      by false h = h ∙ sym (has_as ∙ ap is_some (find_entry-none kind o w key (spot key (keys_held o)) refl k.in_order h))

  pub finds_room : stands_in o key ≡ false → o.count < (span_of holder.Shared kind).room
  finds_room h =
      let n : has key (keys_held o) ≡ false = sym stands-has ∙ h in
      rw (shared_room kind) (omega (arith, rw n at g.room))

  module _ (id room : ℕ) (ready : Placed kind room list p) where
    -- a lookup finds the list's entry under its key, with its own mask
    pub found-placed : (x : ℕ) → find_entry x (entries_of kind (put_place kind id list p o)) ≡ (if eqb key x then some (listed_entry kind id list p) else find_entry x (entries_of kind o))
    unfolding put_place
    found-placed =
        find_entry-after-put kind (span_of holder.Shared kind).room o g.kept (get_or list.rows (4 * p) 0) (get_or list.rows (4 * p + 1) 0) id (mark_at list.rows p) (stored_at kind list p) (bytes_fit kind room list p ready) finds_room (bytes-long kind room list p ready)

    still : (x : ℕ) → has x (keys_held o) ≡ true → has x (keys_held (put_place kind id list p o)) ≡ true
    still x h =
        ap (has x) (sym (keys_are kind (put_place kind id list p o))) ∙ has-found x (entries_of kind (put_place kind id list p o)) ∙ ap is_some (found-placed x)
        ∙ by (eqb key x) (sym (ap (has x) (sym (keys_are kind o)) ∙ has-found x (entries_of kind o)) ∙ h)
      where
        by : (b : Bool) → is_some (find_entry x (entries_of kind o)) ≡ true → is_some (if b then some (listed_entry kind id list p) else find_entry x (entries_of kind o)) ≡ true
        by true q = refl
        by false q = q

    count_as : (put_place kind id list p o).count ≡ (if has key (keys_held o) then o.count else o.count + 1)
    unfolding put_place put_over
    count_as = ap (λ (b : Bool). if b then o.count else o.count + 1) stands-has

    kept_on : overlay_kept kind (span_of holder.Shared kind).room (put_place kind id list p o) ≡ true
    unfolding put_place
    kept_on =
        put-kept kind (span_of holder.Shared kind).room o g.kept (get_or list.rows (4 * p) 0) (get_or list.rows (4 * p + 1) 0) id (mark_at list.rows p) (stored_at kind list p) (bytes_fit kind room list p ready) finds_room ready.small ready.mark

    pub goes_on : Going kind list.rows ps (put_place kind id list p o)
    goes_on = record {
      kept = kept_on;
      room = omega (arith, g.room, counted key (keys_held o) (keys_held (put_place kind id list p o)) (map (key_at list.rows) ps) o.count (put_place kind id list p o).count count_as still);
    }

-- at the start, where they don't pass 256
pub going-first : (kind : TableKind) (list o : Overlay) → overlay_kept kind (span_of holder.Shared kind).room o ≡ true → passes list o ≡ false → Going kind list.rows (take list.count list.order) o
unfolding keys_of passes
going-first kind list o ok free = record { kept = ok; room = ltb-false 256 (o.count + news (keys_held o) (keys_held list)) free }

-- from the i-th of the order on: what is left to put, over what is there, is the whole
pub record Left (kind : TableKind) (id : ℕ) (list : Overlay) (i : ℕ) (shared whole : Parts) : Type 0 where
  pub kept : parts_kept holder.Shared shared ≡ true
  pub going : Going kind list.rows (drop i (take list.count list.order)) (of_kind kind shared)
  pub rest : with_kind kind shared (put_places kind id list (drop i (take list.count list.order)) (of_kind kind shared)) ≡ whole

module _ (kind : TableKind) (id : ℕ) (list : Overlay) where
  pub left-first : (room : ℕ) (shared : Parts) → KindGoes kind room list shared → Left kind id list 0 shared (list_put kind id list shared)
  unfolding list_put
  left-first room shared g = record { kept = g.kept; going = going-first kind list (of_kind kind shared) (kind-kept holder.Shared kind shared g.kept) g.free; rest = refl }

  module _ (room : ℕ) (ok : overlay_kept kind room list ≡ true) (i : ℕ) (shared whole : Parts) (t : Left kind id list i shared whole) where
    pub left-done : list.count ≤ i → shared ≡ whole
    unfolding put_places
    left-done h =
        sym (with_of kind shared)
        ∙ sym (ap (λ (ps : List ℕ). with_kind kind shared (put_places kind id list ps (of_kind kind shared))) (places-end list.order list.count (order-holds kind room list ok) i h))
        ∙ t.rest

    module _ (h : i < list.count) where
      here : Going kind list.rows (get_or list.order i 0 ∷ drop (i + 1) (take list.count list.order)) (of_kind kind shared)
      here = rw (places-cons list.order list.count (order-holds kind room list ok) i h) at t.going

      -- its place, as the code reads it
      module _ (p : ℕ) (is : p ≡ get_or list.order i 0) where
        at_p : Going kind list.rows (p ∷ drop (i + 1) (take list.count list.order)) (of_kind kind shared)
        at_p = rw is here

        pub left-ready : Placed kind room list p
        left-ready = rw is (placed kind room list ok i h)

        pub left-takes : Takes holder.Shared kind shared (key_at list.rows p)
        left-takes = finds_room kind list (drop (i + 1) (take list.count list.order)) p (of_kind kind shared) at_p

        goes : Going kind list.rows (drop (i + 1) (take list.count list.order)) (put_place kind id list p (of_kind kind shared))
        goes = goes_on kind list (drop (i + 1) (take list.count list.order)) p (of_kind kind shared) at_p id room left-ready

        pub left-next : (q : Parts) → q ≡ with_kind kind shared (put_place kind id list p (of_kind kind shared)) → Left kind id list (i + 1) q whole
        unfolding put_places
        left-next q e =
            let o = put_place kind id list p (of_kind kind shared) in
            let ps = drop (i + 1) (take list.count list.order) in
            rw e
            (record {
              kept = with_kept holder.Shared shared t.kept kind o goes.kept;
              going = subst (λ (x : Overlay). Going kind list.rows ps x) (sym (of_with kind shared o)) goes;
              rest =
                  with_with kind shared o (put_places kind id list ps (of_kind kind (with_kind kind shared o)))
                  ∙ ap (λ (x : Overlay). with_kind kind shared (put_places kind id list ps x)) (of_with kind shared o)
                  ∙ ap (λ (k : ℕ). with_kind kind shared (put_places kind id list (k ∷ ps) (of_kind kind shared))) is
                  ∙ sym (ap (λ (qs : List ℕ). with_kind kind shared (put_places kind id list qs (of_kind kind shared))) (places-cons list.order list.count (order-holds kind room list ok) i h))
                  ∙ t.rest;
            })

-- a turn of the code: the place it reads, the row, the put
module _ (kind : TableKind) (id room : ℕ) (words bytes : List ℕ) (n : ℕ) (ok : overlay_kept kind room (overlay_of room words bytes n) ≡ true) (i : ℕ) (shared whole : Parts)
    (t : Left kind id (overlay_of room words bytes n) i shared whole) (h : i < n) where
  abbrev list : Overlay
  list = overlay_of room words bytes n

  abbrev p : ℕ
  p = get_or words (4 * room + i) 0

  is : p ≡ get_or list.order i 0
  is = order-word room i words

  ready : Placed kind room list p
  ready = left-ready kind id list room ok i shared whole t h p is

  pub turn-place : p < room
  turn-place = ready.low

  pub turn_small : get_or words (4 * p) 0 < 65536
  turn_small = table-small kind room words bytes n p ready

  pub turn-goes : (row : ListedRow) → row ≡ row_at words p → RowGoes holder.Shared kind row bytes p shared
  turn-goes row e = rw e (row_goes kind room words bytes n p ready holder.Shared shared t.kept (left-takes kind id list room ok i shared whole t h p is))

  pub turn-next : (row : ListedRow) → row ≡ row_at words p → (q : Parts) → q ≡ place_put kind id row bytes p shared → Left kind id list (i + 1) q whole
  turn-next row e q f =
      left-next kind id list room ok i shared whole t h p is q (f ∙ ap (λ (r : ListedRow). place_put kind id r bytes p shared) e ∙ row_put kind room words bytes n p ready id shared)
