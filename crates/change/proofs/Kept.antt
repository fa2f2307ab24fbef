-- A list that keeps its rules keeps them after every call. Document 01: "Rules of a state: room kept, no key twice, no mask 0".
-- Assumes nothing.
use mathlib.Core.Path.{◌≡◌, refl, sym, subst}
use mathlib.Core.Bool.{Bool, true, false}
use mathlib.Core.List.{List, [], ◌∷◌, ◌++◌}
use Prim.Native.Nat.{ℕ, ◌+◌, ◌*◌, ◌≤◌, ◌<◌}
use native.Mathlib.Omega.{arith}
use native.Mathlib.Numerals.{add-one}
use lib.Dec.{leb}
use lib.ListN.{length, get_or, take}
use lib.Seq.{take-suc-set}
use borrow.Author.Tests.{lt-ltb, leb-false}
use Rattle.std.specs.Prelude.{if◌then◌else◌, IfOk, Result, Ok, Err}
use Rattle.words.proofs.Choices.{if_true}
use Rattle.answer.specs.declared.answer.Answer.{Answer}
use Rattle.answer.specs.declared.answer.Answer.TheVariants.{BadState}
use Rattle.directory.specs.Directory.{tables_of, find_table, stands, directory_kept}
use Rattle.directory.specs.Table.{same_kind_of}
use Rattle.directory.specs.declared.table.TableKind.{TableKind}
use Rattle.directory.specs.declared.table.TableKind.TheVariants.{Index, Value, RefCount}
use Rattle.directory.specs.declared.directory.Directory.{Directory}
use Rattle.numbers.proofs.Laws.{both, left-of, right_of}
use Rattle.keys.specs.Keys.{rank, mark_at, row_put_of, every}
use Rattle.keys.proofs.Kept.{table_here, index-here, mark-here, word-other}
use Rattle.overlay.specs.Rules.{Overlay, overlay_kept}
use Rattle.overlay.specs.Overlay.{stands_in, put_over}
use Rattle.overlay.proofs.EachPut.{each-put}
use Rattle.memory.specs.declared.span.Holder.TheVariants as holder
use Rattle.memory.specs.Parts.{span_of, words_all, bytes_all, of_kind, put_into}
use Rattle.memory.proofs.Spans.{all-shows, into-kept, put_of}
use Rattle.memory.proofs.Empty.{empty_kept}
use Rattle.change.specs.declared.drops.Drops.{Drops}
use Rattle.change.specs.Change.{Change, change_of, new_list, with_parts, with_drops, with_count_drops, drop_room, change_ruled, key_fits, entry_fits, entries_fit, drops_fit, change_kept}
use Rattle.change.specs.Insert.{Made, not_made, mark_of, plan_in, made_by, inserted_kept, inserted}
use Rattle.change.specs.Drop.{dropped_in, drop_made, table_dropped_kept, table_dropped, count_table_dropped_kept, count_table_dropped}
use Rattle.change.proofs.Rules.{RuledList, ruled-shows, ruled-makes, FitList, kept-directory, kept-ruled, kept-parts, kept-fits, kept-makes}
use Rattle.change.proofs.Accepted.{same_kind, Accepted, accepted}
use Rattle.change.proofs.Meaning.{mark-good, mark_right}

-- a row that an insert writes fits the directory; every other is as it was
module _ (kind : TableKind) (d : Directory) (rows : List ℕ) (p number index id mark : ℕ) (fits : 4 * p + 4 ≤ length rows) where
  row_here : key_fits kind (find_table d kind number) index mark ≡ true
      → key_fits kind (find_table d kind (get_or (row_put_of rows p number index id mark) (4 * p) 0)) (get_or (row_put_of rows p number index id mark) (4 * p + 1) 0) (mark_at (row_put_of rows p number index id mark) p) ≡ true
  row_here h = rw (table_here rows p number index id mark fits, index-here rows p number index id mark fits, mark-here rows p number index id mark fits) h

  row_other : (q : ℕ) → (q ≡ p → ⊥)
      → key_fits kind (find_table d kind (get_or (row_put_of rows p number index id mark) (4 * q) 0)) (get_or (row_put_of rows p number index id mark) (4 * q + 1) 0) (mark_at (row_put_of rows p number index id mark) q)
      ≡ key_fits kind (find_table d kind (get_or rows (4 * q) 0)) (get_or rows (4 * q + 1) 0) (mark_at rows q)
  row_other q ne =
      rw (word-other rows p number index id mark fits q (4 * q) ne (omega arith) (omega arith), word-other rows p number index id mark fits q (4 * q + 1) ne (omega arith) (omega arith), word-other rows p number index id mark fits q (4 * q + 3) ne (omega arith) (omega arith))

put-fits : (kind : TableKind) (d : Directory) (o : Overlay) (room : ℕ) → overlay_kept kind room o ≡ true → (number index id mark : ℕ) (src : List ℕ)
    → (stands_in o (rank number index) ≡ false → o.count < room) → key_fits kind (find_table d kind number) index mark ≡ true
    → entries_fit d kind o ≡ true → entries_fit d kind (put_over kind o number index id mark src) ≡ true
unfolding entries_fit entry_fits
put-fits kind d o room ok number index id mark src free new e =
    each-put kind room o ok number index id mark src free
    (λ (rows : List ℕ) (p : ℕ). key_fits kind (find_table d kind (get_or rows (4 * p) 0)) (get_or rows (4 * p + 1) 0) (mark_at rows p))
    (λ p low. row_here kind d o.rows p number index id mark low new) (λ p q low ne. row_other kind d o.rows p number index id mark low q ne) e

-- the one put of an insert
module _ (kind : TableKind) (d : Directory) (l : Change) (number index sub : ℕ) (bytes : List ℕ) (old : ℕ) (small : number < 65536)
    (a : Accepted kind d l.parts number index sub bytes old) where
  abbrev mark : ℕ
  mark = mark_of kind old sub bytes

  abbrev after : Change
  after = with_parts l (put_into kind l.parts number index l.id mark bytes)

  new-fits : key_fits kind (find_table d kind number) index mark ≡ true
  new-fits = rw a.found (both (lt-ltb index a.table.count a.below) (mark_right kind old sub a.table bytes a.whole))

  after-ruled : change_ruled l ≡ true → change_ruled after ≡ true
  after-ruled e =
      let r = ruled-shows l e in
      ruled-makes after
      (record {
        parts = into-kept holder.List l.parts r.parts kind number index l.id mark bytes a.fits a.takes small (mark-good kind old sub a.table.length bytes a.size a.whole);
        drops = r.drops;
        count-drops = r.count-drops;
      })

  own-fits : change_ruled l ≡ true → FitList d l → entries_fit d kind (put_over kind (of_kind kind l.parts) number index l.id mark bytes) ≡ true
  own-fits e f =
      put-fits kind d (of_kind kind l.parts) (span_of holder.List kind).room ((all-shows holder.List l.parts (ruled-shows l e).parts).each kind) number index l.id mark bytes a.takes new-fits (f.each kind)

  after-fits : change_ruled l ≡ true → FitList d l → FitList d after
  after-fits e f = record { each = each; drops = f.drops; count-drops = f.count-drops }
    where
      by : (other : TableKind) (b : Bool) → same_kind_of kind other ≡ b
          → entries_fit d other (if b then put_over other (of_kind other l.parts) number index l.id mark bytes else of_kind other l.parts) ≡ true
      by other true q =
          subst (λ (k : TableKind). entries_fit d k (put_over k (of_kind k l.parts) number index l.id mark bytes) ≡ true) (same_kind kind other q) (own-fits e f)
      by other false q = f.each other

      each : (other : TableKind) → entries_fit d other (of_kind other after.parts) ≡ true
      each other = rw (put_of kind other l.parts number index l.id mark bytes) (by other (same_kind_of kind other) refl)

-- an insert of any kind keeps the rules
module _ (kind : TableKind) (d : Directory) (l : Change) (ok : change_kept d l ≡ true) (number index sub : ℕ) (bytes : List ℕ) (small : number < 65536) where
  abbrev Keeps : Made → Type 0
  Keeps m = change_kept d m.change ≡ true

  kept_by : (q : Result ℕ Answer) → plan_in kind (of_kind kind l.parts) (find_table d kind number) number index sub bytes ≡ q → Keeps (made_by q kind l number index sub bytes)
  kept_by (Err answer) e = ok
  kept_by (Ok old) e =
      let a = accepted kind d l.parts number index sub bytes old (kept-directory d l ok) (kept-parts d l ok) e in
      let r = kept-ruled d l ok in
      kept-makes d (made_by (Ok old) kind l number index sub bytes).change (kept-directory d l ok) (after-ruled kind d l number index sub bytes old small a r)
      (after-fits kind d l number index sub bytes old small a r (kept-fits d l ok))

  pub insert-kept : change_kept d (inserted kind d l number index sub bytes).change ≡ true
  unfolding inserted inserted_kept
  insert-kept =
      subst Keeps (sym (if_true (change_kept d l) (inserted_kept kind d l number index sub bytes) (not_made BadState l) ok))
      (kept_by (plan_in kind (of_kind kind l.parts) (find_table d kind number) number index sub bytes) refl)

  -- what an insert accepts no lookup refuses with 13
  pub insert-ruled : change_ruled (inserted kind d l number index sub bytes).change ≡ true
  insert-ruled = kept-ruled d (inserted kind d l number index sub bytes).change insert-kept

-- drops
every-end : (f : ℕ → Bool) (l : List ℕ) (v : ℕ) → every f l ≡ true → f v ≡ true → every f (l ++ (v ∷ [])) ≡ true
every-end f [] v e h = both h refl
every-end f (p ∷ l) v e h = both (left-of (f p) _ e) (every-end f l v (right_of (f p) _ e) h)

-- drops that keep their rules, and as a call leaves them
abbrev FitDrops : Directory → TableKind → Drops → Type 0
FitDrops d kind s = (s.count ≤ drop_room) × (drops_fit d kind s ≡ true)

dropped-kept : (d : Directory) (kind : TableKind) (s : Drops) (number : ℕ) → length s.tables ≡ 16 → FitDrops d kind s → IfOk (dropped_in d kind s number) (FitDrops d kind)
unfolding drops_fit dropped_in
dropped-kept d kind s number long ok = by (stands (tables_of d) kind number) refl (leb drop_room s.count) refl
  where
    by : (b : Bool) → stands (tables_of d) kind number ≡ b → (f : Bool) → leb drop_room s.count ≡ f → IfOk (dropped_in d kind s number) (FitDrops d kind)
    by false e f g = rw e tt
    by true e true g = rw (e, g) tt
    by true e false g =
        let h = leb-false drop_room s.count g in
        rw (e, g)
        (omega arith, rw (add-one s.count, take-suc-set s.tables s.count number (omega arith)) (every-end (stands (tables_of d) kind) (take s.count s.tables) number ok.1 e))

-- `long` is what the type says of the drops' array
module _ (d : Directory) (l : Change) (ok : change_kept d l ≡ true) (number : ℕ) where
  rules : RuledList l
  rules = ruled-shows l (kept-ruled d l ok)

  fit : FitList d l
  fit = kept-fits d l ok

  drop_made-kept : (after : Drops → Change) (P : Drops → Type 0) → ((s : Drops) → P s → change_kept d (after s) ≡ true)
      → (r : Result Drops Answer) → IfOk r P → change_kept d (drop_made l after r).change ≡ true
  drop_made-kept after P keeps (Ok s) h = keeps s h
  drop_made-kept after P keeps (Err answer) h = ok

  pub drop_kept : length l.drops.tables ≡ 16 → change_kept d (table_dropped d l number).change ≡ true
  unfolding table_dropped table_dropped_kept
  drop_kept long =
      subst (λ (m : Made). change_kept d m.change ≡ true) (sym (if_true (change_kept d l) (table_dropped_kept d l number) (not_made BadState l) ok))
      (drop_made-kept (with_drops l) (FitDrops d Index) by (dropped_in d Index l.drops number) (dropped-kept d Index l.drops number long (rules.drops, fit.drops)))
    where
      by : (s : Drops) → FitDrops d Index s → change_kept d (with_drops l s) ≡ true
      by s k =
          let after = with_drops l s in
          kept-makes d after (kept-directory d l ok) (ruled-makes after (record { parts = rules.parts; drops = k.0; count-drops = rules.count-drops })) (record { each = fit.each; drops = k.1; count-drops = fit.count-drops })

  pub count_drop_kept : length l.count_drops.tables ≡ 16 → change_kept d (count_table_dropped d l number).change ≡ true
  unfolding count_table_dropped count_table_dropped_kept
  count_drop_kept long =
      subst (λ (m : Made). change_kept d m.change ≡ true) (sym (if_true (change_kept d l) (count_table_dropped_kept d l number) (not_made BadState l) ok))
      (drop_made-kept (with_count_drops l) (FitDrops d RefCount) by (dropped_in d RefCount l.count_drops number) (dropped-kept d RefCount l.count_drops number long (rules.count-drops, fit.count-drops)))
    where
      by : (s : Drops) → FitDrops d RefCount s → change_kept d (with_count_drops l s) ≡ true
      by s k =
          let after = with_count_drops l s in
          kept-makes d after (kept-directory d l ok) (ruled-makes after (record { parts = rules.parts; drops = rules.drops; count-drops = k.0 })) (record { each = fit.each; drops = fit.drops; count-drops = k.1 })

-- a new list keeps the rules, whatever the memories hold
module _ (id : ℕ) (words bytes : List ℕ) (wl : length words ≡ words_all holder.List) (bl : length bytes ≡ bytes_all holder.List) where
  pub new-ruled : change_ruled (change_of (new_list id) words bytes) ≡ true
  new-ruled = ruled-makes (change_of (new_list id) words bytes) (record { parts = empty_kept holder.List words bytes wl bl; drops = omega arith; count-drops = omega arith })

  pub new-kept : (d : Directory) → directory_kept d ≡ true → change_kept d (change_of (new_list id) words bytes) ≡ true
  unfolding entries_fit drops_fit
  new-kept d ok = kept-makes d (change_of (new_list id) words bytes) ok new-ruled (record { each = none; drops = refl; count-drops = refl })
    where
      none : (kind : TableKind) → entries_fit d kind (of_kind kind (change_of (new_list id) words bytes).parts) ≡ true
      none Index = refl
      none Value = refl
      none RefCount = refl
