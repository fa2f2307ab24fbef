-- What an insert is to do, a return of the code at a time; and what a plan that refuses nothing shows of the call. Assumes nothing.
use mathlib.Core.Path.{◌≡◌, refl, sym, ap, ◌∙◌, subst}
use mathlib.Core.Bool.{Bool, true, false}
use mathlib.Core.List.{List, [], ◌∷◌}
use Prim.Native.Nat.{ℕ, ◌+◌, ◌<◌, ◌≤◌}
use native.Mathlib.Omega.{arith}
use lib.Dec.{ltb, leb, eqb}
use lib.ListN.{get_or, length}
use borrow.Author.Tests.{lt-ltb, le-ltb, lt-leb, le-leb, ltb-false, leb-false, leb-true, eqb-true}
use Rattle.std.proofs.lemmas.Option.{same_Some}
use Rattle.std.specs.Prelude.{if◌then◌else◌, Option, Some, None, Result, Ok, Err}
use Rattle.answer.specs.declared.answer.Answer.{Answer}
use Rattle.answer.specs.declared.answer.Answer.TheVariants.{Done, NoTable, NoIndex, NoRoom, BadArgument}
use Rattle.directory.specs.Table.{same_kind_of, is_table, length_fits, table_kept, unit_of}
use Rattle.directory.specs.Directory.{tables_of, find_from, find_table, each_kept, directory_kept}
use Rattle.directory.specs.declared.table.TableKind.{TableKind}
use Rattle.directory.specs.declared.table.TableKind.TheVariants.{Index, Value, RefCount}
use Rattle.directory.specs.declared.table.TableDescription.{TableDescription}
use Rattle.directory.specs.declared.directory.Directory.{Directory}
use Rattle.numbers.proofs.Laws.{left-of, right_of}
use Rattle.keys.specs.Keys.{rank, mark_at, ruled}
use Rattle.overlay.specs.Rules.{Overlay, slot_size, lists_of}
use Rattle.overlay.specs.Overlay.{spot_in_of, stands_in, place_in}
use Rattle.overlay.specs.Inner.{seat_in}
use Rattle.overlay.specs.Entries.{entry_at, entries_of, find_entry}
use Rattle.overlay.specs.declared.seat.Seat.TheVariants.{Over, Next}
use Rattle.overlay.proofs.Ruled.{Kept, shows}
use Rattle.overlay.proofs.Lookups.{find_entry-there, find_entry-none}
use Rattle.overlay.proofs.Seats.{sits, lacking}
use Rattle.memory.specs.declared.span.Holder.TheVariants as holder
use Rattle.memory.specs.Parts.{Parts, span_of, of_kind, parts_kept, Takes, put_into}
use Rattle.memory.proofs.Spans.{all-shows}
use Rattle.change.specs.Change.{Change, with_parts}
use Rattle.change.specs.Insert.{Made, not_made, mark_of, bytes_fit_of, room_for, plan_in, made_by, inserted_kept, mark_in}

-- the last step: over the key's own place, or into the next one
module _ (room : ℕ) (o : Overlay) (w : o.count ≤ length o.order) (in_order : ruled o.rows o.order o.count ≡ true) (key : ℕ) where
  pub room-over : (p m : ℕ) → seat_in o key ≡ Over p → m ≡ mark_at o.rows p → Ok m ≡ room_for room o key
  unfolding room_for
  room-over p m e d = let s = sits o w in_order key p e in sym (rw (s.there, s.place, d))

  pub room-full : (j : ℕ) → seat_in o key ≡ Next j → room ≤ o.count → Err NoRoom ≡ room_for room o key
  unfolding room_for
  room-full j e h = sym (rw ((lacking o w in_order key j e).lacks, le-leb room o.count h))

  pub room_next : (j : ℕ) → seat_in o key ≡ Next j → o.count < room → Ok 0 ≡ room_for room o key
  unfolding room_for
  room_next j e h = sym (rw ((lacking o w in_order key j e).lacks, lt-leb room o.count h))

-- the steps before it
module _ (kind : TableKind) (o : Overlay) (f : Option (ℕ × TableDescription)) (row : ℕ) (t : TableDescription) (e : f ≡ Some (row, t)) (number index sub : ℕ) (bytes : List ℕ) where
  pub plan-7 : t.count ≤ index → Err NoIndex ≡ plan_in kind o f number index sub bytes
  unfolding plan_in
  plan-7 h = sym (rw (e, le-leb t.count index h))

  pub plan-14 : index < t.count → 63 < sub → Err BadArgument ≡ plan_in kind o f number index sub bytes
  unfolding plan_in
  plan-14 h i = sym (rw (e, lt-leb t.count index h, lt-ltb 63 sub i))

  pub plan-14-length : index < t.count → sub ≤ 63 → bytes_fit_of kind t bytes ≡ false → Err BadArgument ≡ plan_in kind o f number index sub bytes
  unfolding plan_in
  plan-14-length h i b = let z : ltb 63 sub ≡ false = le-ltb _ _ i in sym (rw (e, lt-leb t.count index h, z, b))

  pub plan-rest : index < t.count → sub ≤ 63 → bytes_fit_of kind t bytes ≡ true → (room : ℕ) → room ≡ (span_of holder.List kind).room
      → room_for room o (rank number index) ≡ plan_in kind o f number index sub bytes
  unfolding plan_in
  plan-rest h i b room r = let z : ltb 63 sub ≡ false = le-ltb _ _ i in sym (rw (e, lt-leb t.count index h, z, b, r))

-- the bytes are not asked
pub plan-keys : (kind : TableKind) (f : Option (ℕ × TableDescription)) (number index sub : ℕ) (src rows order bytes : List ℕ) (n : ℕ)
    → plan_in kind (lists_of rows order [] n) f number index sub src ≡ plan_in kind (lists_of rows order bytes n) f number index sub src
unfolding plan_in room_for stands_in spot_in_of place_in
plan-keys kind None number index sub src rows order bytes n = refl
plan-keys kind (Some (row, t)) number index sub src rows order bytes n = refl

-- a table that a search finds is one of its kind, and it keeps its rules if all do
pub same_kind : (a b : TableKind) → same_kind_of a b ≡ true → a ≡ b
same_kind Index Index e = refl
same_kind Value Value e = refl
same_kind RefCount RefCount e = refl
same_kind Index Value e = let z : ◌≡◌ {A = ℕ} 0 1 = cc in absurd (omega arith)
same_kind Index RefCount e = let z : ◌≡◌ {A = ℕ} 0 1 = cc in absurd (omega arith)
same_kind Value Index e = let z : ◌≡◌ {A = ℕ} 0 1 = cc in absurd (omega arith)
same_kind Value RefCount e = let z : ◌≡◌ {A = ℕ} 0 1 = cc in absurd (omega arith)
same_kind RefCount Index e = let z : ◌≡◌ {A = ℕ} 0 1 = cc in absurd (omega arith)
same_kind RefCount Value e = let z : ◌≡◌ {A = ℕ} 0 1 = cc in absurd (omega arith)

found-kept : (row : ℕ) (ts : List TableDescription) (kind : TableKind) (number r : ℕ) (t : TableDescription)
    → find_from row ts kind number ≡ Some (r, t) → each_kept ts ≡ true → (is_table t kind number ≡ true) × (table_kept t ≡ true)
unfolding find_from each_kept
found-kept row [] kind number r t e k = let z : ◌≡◌ {A = ℕ} 0 1 = cc in absurd (omega arith)
found-kept row (u ∷ ts) kind number r t e k = by (is_table u kind number) refl e (λ q. found-kept (row + 1) ts kind number r t q (right_of (table_kept u) _ k))
  where
    by : (b : Bool) → is_table u kind number ≡ b → (if b then Some (row, u) else find_from (row + 1) ts kind number) ≡ Some (r, t)
        → (find_from (row + 1) ts kind number ≡ Some (r, t) → (is_table t kind number ≡ true) × (table_kept t ≡ true)) → (is_table t kind number ≡ true) × (table_kept t ≡ true)
    by true i q f =
        let same-table : u ≡ t = ap (λ (p : ℕ × TableDescription). p.1) (same_Some (row, u) (r, t) q) in
        (subst (λ (x : TableDescription). is_table x kind number ≡ true) same-table i, subst (λ (x : TableDescription). table_kept x ≡ true) same-table (left-of (table_kept u) _ k))
    by false i q f = f q

pub length-kept : (d : Directory) (kind : TableKind) (number r : ℕ) (t : TableDescription) → directory_kept d ≡ true → find_table d kind number ≡ Some (r, t) → length_fits kind t.length ≡ true
unfolding directory_kept find_table is_table table_kept
length-kept d kind number r t k e =
    let f = found-kept 0 (tables_of d) kind number r t e (left-of (each_kept (tables_of d)) _ (right_of (leb d.count 16) _ k)) in
    let s : t.kind ≡ kind = same_kind t.kind kind (left-of (same_kind_of t.kind kind) _ f.0) in
    subst (λ (x : TableKind). length_fits x t.length ≡ true) s
    (right_of (leb t.count 4096) _ (right_of (leb 1 t.count) _ (right_of (leb t.column 7) _ f.1)))

pub size_fits : (kind : TableKind) (size len : ℕ) → length_fits kind size ≡ true → len ≡ unit_of kind size → len ≤ slot_size kind
size_fits Index size len h e = omega arith
size_fits Value size len h e = omega (arith, leb-true size 512 (right_of (leb 1 size) _ h))
size_fits RefCount size len h e = omega arith

-- which way a choice went, where the other way is absurd
into : {A : Type 0} (b : Bool) {x y z : A} → (if b then x else y) ≡ z → (y ≡ z → ⊥) → (b ≡ true) × (x ≡ z)
into true e h = (refl, e)
into false e h = absurd (h e)

past : {A : Type 0} (b : Bool) {x y z : A} → (if b then x else y) ≡ z → (x ≡ z → ⊥) → (b ≡ false) × (y ≡ z)
past true e h = absurd (h e)
past false e h = (refl, e)

refused : (a : Answer) (m : ℕ) → Err a ≡ Ok m → ⊥
refused a m e = let z : ◌≡◌ {A = ℕ} 0 1 = cc in omega arith

abbrev goes : Result ℕ Answer → ℕ
goes (Err a) = 0
goes (Ok m) = m

module _ (kind : TableKind) (p : Parts) (key old : ℕ) (ok : parts_kept holder.List p ≡ true) where
  abbrev o : Overlay
  o = of_kind kind p

  k : Kept kind (span_of holder.List kind).room o
  k = shows kind (span_of holder.List kind).room o ((all-shows holder.List p ok).each kind)

  few : o.count ≤ length o.order
  few = omega (arith, k.fits, k.order-long)

  over-mark : stands_in o key ≡ true → mark_at o.rows (place_in o key) ≡ mark_in (find_entry key (entries_of kind o))
  unfolding stands_in spot_in_of place_in entry_at
  over-mark h =
      ap (λ (b : Bool). mark_at o.rows (if b then get_or o.order (spot_in_of o key) 0 else o.count)) h
      ∙ sym (ap mark_in (find_entry-there kind o few key (spot_in_of o key) refl h))

  next-mark : stands_in o key ≡ false → 0 ≡ mark_in (find_entry key (entries_of kind o))
  unfolding stands_in spot_in_of
  next-mark h = sym (ap mark_in (find_entry-none kind o few key (spot_in_of o key) refl k.in_order h))

  taken : room_for (span_of holder.List kind).room o key ≡ Ok old → (Takes holder.List kind p key) × (old ≡ mark_in (find_entry key (entries_of kind o)))
  unfolding room_for
  taken e = by (stands_in o key) refl e
    where
      by : (b : Bool) → stands_in o key ≡ b → (if b then Ok (mark_at o.rows (place_in o key)) else if leb (span_of holder.List kind).room o.count then Err NoRoom else Ok 0) ≡ Ok old
          → (Takes holder.List kind p key) × (old ≡ mark_in (find_entry key (entries_of kind o)))
      by true h q = ((λ f. let z : true ≡ false = sym h ∙ f in let y : ◌≡◌ {A = ℕ} 0 1 = cc in absurd (omega arith)), sym (ap goes q) ∙ over-mark h)
      by false h q =
          let r = past (leb (span_of holder.List kind).room o.count) q (refused NoRoom old) in
          ((λ f. leb-false (span_of holder.List kind).room o.count r.0), sym (ap goes r.1) ∙ next-mark h)

-- the list with other entries, and 0
abbrev pub done_with : Change → Parts → Made
done_with l p = record { answer = Done; change = with_parts l p }

-- an insert that is refused nothing
pub record Accepted (kind : TableKind) (d : Directory) (p : Parts) (number index sub : ℕ) (bytes : List ℕ) (old : ℕ) : Type 0 where
  pub row : ℕ
  pub table : TableDescription
  pub found : find_table d kind number ≡ Some (row, table)
  pub below : index < table.count
  pub slot : sub < 64
  pub size : length_fits kind table.length ≡ true
  pub whole : length bytes ≡ unit_of kind table.length
  pub fits : length bytes ≤ slot_size kind
  pub takes : Takes holder.List kind p (rank number index)
  pub old-is : old ≡ mark_in (find_entry (rank number index) (entries_of kind (of_kind kind p)))

module _ (kind : TableKind) (d : Directory) (p : Parts) (number index sub : ℕ) (bytes : List ℕ) (old : ℕ) where
  pub accepted : directory_kept d ≡ true → parts_kept holder.List p ≡ true → plan_in kind (of_kind kind p) (find_table d kind number) number index sub bytes ≡ Ok old
      → Accepted kind d p number index sub bytes old
  unfolding plan_in bytes_fit_of
  accepted dir ok e = by (find_table d kind number) refl e
    where
      by : (f : Option (ℕ × TableDescription)) → find_table d kind number ≡ f → plan_in kind (of_kind kind p) f number index sub bytes ≡ Ok old → Accepted kind d p number index sub bytes old
      by None q s = absurd (refused NoTable old s)
      by (Some (row, t)) q s =
          let a = past (leb t.count index) s (refused NoIndex old) in
          let b = past (ltb 63 sub) a.1 (refused BadArgument old) in
          let g = into (eqb (length bytes) (unit_of kind t.length)) b.1 (refused BadArgument old) in
          let h = taken kind p (rank number index) old ok g.1 in
          let i : sub ≤ 63 = ltb-false 63 sub b.0 in
          let w = eqb-true (length bytes) (unit_of kind t.length) g.0 in
          let l = length-kept d kind number row t dir q in
          record { row = row; table = t; found = q; below = leb-false t.count index a.0; slot = omega arith; size = l; whole = w; fits = size_fits kind t.length (length bytes) l w; takes = h.0; old-is = h.1 }

-- what an insert comes to, by its plan: the list as it was, or one put
module _ (kind : TableKind) (d : Directory) (l : Change) (number index sub : ℕ) (bytes : List ℕ) where
  pub made-refused : (answer : Answer) → plan_in kind (of_kind kind l.parts) (find_table d kind number) number index sub bytes ≡ Err answer
      → not_made answer l ≡ inserted_kept kind d l number index sub bytes
  unfolding inserted_kept
  made-refused answer e = ap (λ (q : Result ℕ Answer). made_by q kind l number index sub bytes) (sym e)

  pub made-put : (old : ℕ) → plan_in kind (of_kind kind l.parts) (find_table d kind number) number index sub bytes ≡ Ok old → (mark : ℕ) → mark ≡ mark_of kind old sub bytes
      → (after : Parts) → after ≡ put_into kind l.parts number index l.id mark bytes → done_with l after ≡ inserted_kept kind d l number index sub bytes
  unfolding inserted_kept
  made-put old e mark m after p =
      ap (done_with l) (p ∙ ap (λ (k : ℕ). put_into kind l.parts number index l.id k bytes) m) ∙ ap (λ (q : Result ℕ Answer). made_by q kind l number index sub bytes) (sym e)
