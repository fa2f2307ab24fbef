-- The end tag, and no other, is read as the end of a record; validating it is testing its checksum. Assumes nothing.
use mathlib.Core.Path.{◌≡◌, refl, sym, ap, ◌∙◌}
use mathlib.Core.Bool.{Bool, true, false, true≢false}
use mathlib.Core.List.{List, [], ◌∷◌}
use Prim.Native.Nat.{ℕ, ◌+◌, ◌-◌, ◌≤◌, ◌<◌}
use native.Mathlib.Omega.{arith}
use lib.Dec.{eqb, ltb}
use lib.ListN.{length, get_or, take, drop}
use borrow.Author.Tests.{ltb-true, ltb-false, eqb-true}
use Rattle.std.specs.Prelude.{if◌then◌else◌}
use Rattle.words.specs.Words.{little_at}
use Rattle.checksum.specs.Checksum.{updated, finished}
use Rattle.directory.specs.declared.table.TableKind.{TableKind}
use Rattle.directory.specs.declared.table.TableKind.TheVariants.{Index, Value, RefCount}
use Rattle.directory.specs.declared.directory.Directory.{Directory}
use Rattle.record.specs.Format.{Format, need, refuse, give, Got, stopped, got, read_at, ◌>>=◌}
use Rattle.record.specs.Next.{is_end}
use Rattle.record.specs.Record.{Item, insert_of, drop_index, drop_ref_count, key, chunk, masked_item, value, valued_item, table, dropped_item, sum_holds, ended_item, inside_by, inside}
use Rattle.answer.specs.declared.answer.Answer.TheVariants.{WrongSum}
use Rattle.record.specs.declared.action.LogAction.{LogAction}
use Rattle.record.specs.declared.action.LogAction.TheVariants.{EndRecord}
use Rattle.record.proofs.Parts.{tested, ended-short, ended_met, inside-short, inside_met}

-- ---- a format that gives no end

abbrev NoEnd : Format Item → Type 0
NoEnd (need k short f) = (bs : List ℕ) → NoEnd (f bs)
NoEnd (refuse answer) = Unit {0}
NoEnd (give i) = is_end i.action ≡ false

no-end-read : (f : Format Item) → NoEnd f → (at : ℕ) (log : List ℕ) (i : Item) (end : ℕ) → read_at f at log ≡ got i end → is_end i.action ≡ false
unfolding read_at
no-end-read (need k short f) h at log i end e = go (no-end-read (f (take k (drop at log))) (h (take k (drop at log))) (at + k) log i end) (ltb (length log - at) k) refl
  where
    go : (read_at (f (take k (drop at log))) (at + k) log ≡ got i end → is_end i.action ≡ false) → (t : Bool) → ltb (length log - at) k ≡ t → is_end i.action ≡ false
    go ih true q = let z : ◌≡◌ {A = ℕ} 0 1 = cc (rw q at e) in absurd (omega arith)
    go ih false q = ih (rw q at e)
no-end-read (refuse answer) h at log i end e = let z : ◌≡◌ {A = ℕ} 0 1 = cc in absurd (omega arith)
no-end-read (give j) h at log i end e = let p : j ≡ i = cc in rw p at h

no-end_bind : {A : Type 0} (f : Format A) (g : A → Format Item) → ((a : A) → NoEnd (g a)) → NoEnd (f >>= g)
no-end_bind (need k short f) g h = λ bs. no-end_bind (f bs) g h
no-end_bind (refuse answer) g h = tt
no-end_bind (give a) g h = h a

no-end-insert : (kind : TableKind) (t i : ℕ) → is_end (insert_of kind t i) ≡ false
no-end-insert Index t i = refl
no-end-insert Value t i = refl
no-end-insert RefCount t i = refl

no-end_masked : (d : Directory) (kind : TableKind) (width : ℕ) → NoEnd (masked_item d kind width)
unfolding masked_item chunk
no-end_masked d kind width = no-end_bind (key d kind) (chunk kind width) (λ k bs more. no-end-insert kind k.table k.index)

no-end_valued : (d : Directory) → NoEnd (valued_item d)
unfolding valued_item value
no-end_valued d = no-end_bind (key d Value) value (λ k bs. refl)

no-end-dropped : (d : Directory) (kind : TableKind) (action : ℕ → LogAction) → ((n : ℕ) → is_end (action n) ≡ false) → NoEnd (dropped_item d kind action)
unfolding dropped_item
no-end-dropped d kind action h = no-end_bind (table d kind) (λ n. give (record { action = action n; payload = 0 })) h

no-end_if : (b : Bool) (f g : Format Item) → NoEnd f → NoEnd g → NoEnd (if b then f else g)
no-end_if true f g h k = h
no-end_if false f g h k = k

-- at any tag but 4, whether the reader validates makes no difference, and no end is given
module _ (d : Directory) (tag : ℕ) (other : eqb tag 4 ≡ false) where
  not_end : (validate : Bool) (register : ℕ) → NoEnd (inside_by d validate register tag)
  unfolding inside_by
  not_end validate register =
      no-end_if (eqb tag 1) _ _ tt
      (no-end_if (eqb tag 2) _ _ (no-end_masked d Index 8)
      (no-end_if (eqb tag 3) _ _ (no-end_valued d)
      (rw other
      (no-end_if (eqb tag 5) _ _ (no-end-dropped d Index drop_index (λ n. refl))
      (no-end_if (eqb tag 6) _ _ (no-end_masked d RefCount 16)
      (no-end_if (eqb tag 7) _ _ (no-end-dropped d RefCount drop_ref_count (λ n. refl)) tt))))))

  same_tag : (register other-register : ℕ) → inside_by d true register tag ≡ inside_by d false other-register tag
  unfolding inside_by
  same_tag register other-register = rw other

-- ---- the end tag

-- where an end was read, the tag is 4 and the checksum's 4 bytes are the last
pub record EndTag (at end : ℕ) (log : List ℕ) : Type 0 where
  pub tag : get_or log at 0 ≡ 4
  pub closes : end ≡ at + 1 + 4

ended-closes : (validate : Bool) (register at : ℕ) (log : List ℕ) (i : Item) (end : ℕ) → read_at (ended_item validate register) at log ≡ got i end → end ≡ at + 4
ended-closes validate register at log i end e = go (ltb (length log - at) 4) refl
  where
    held : (b : Bool) → tested b (got (record { action = EndRecord; payload = 0 }) (at + 4)) WrongSum ≡ got i end → end ≡ at + 4
    held true q = let p : at + 4 ≡ end = cc in sym p
    held false q = let z : ◌≡◌ {A = ℕ} 0 1 = cc in absurd (omega arith)

    go : (t : Bool) → ltb (length log - at) 4 ≡ t → end ≡ at + 4
    go true q = let z : ◌≡◌ {A = ℕ} 0 1 = cc (sym (ended-short at log validate register (ltb-true (length log - at) 4 q)) ∙ e) in absurd (omega arith)
    go false q =
        held (sum_holds validate register (little_at 4 log at)) (sym (ended_met at log validate register (little_at 4 log at) (ltb-false (length log - at) 4 q) refl) ∙ e)

pub end_read : (d : Directory) (validate : Bool) (register at : ℕ) (log : List ℕ) (i : Item) (end : ℕ)
    → read_at (inside d validate register) at log ≡ got i end → is_end i.action ≡ true → EndTag at end log
unfolding inside_by
end_read d validate register at log i end e t = go (ltb (length log - at) 1) refl
  where
    by : 1 ≤ length log - at → (b : Bool) → eqb (get_or log at 0) 4 ≡ b → EndTag at end log
    by m true q =
        let tag : get_or log at 0 ≡ 4 = eqb-true (get_or log at 0) 4 q in
        record { tag = tag; closes = ended-closes validate register (at + 1) log i end (sym (inside_met at log d validate register 4 m tag) ∙ e) }
    by m false q =
        absurd (true≢false (sym t
        ∙ no-end-read (inside_by d validate register (get_or log at 0)) (not_end d (get_or log at 0) q validate register) (at + 1) log i end
        (sym (inside_met at log d validate register (get_or log at 0) m refl) ∙ e)))

    go : (b : Bool) → ltb (length log - at) 1 ≡ b → EndTag at end log
    go true q = let z : ◌≡◌ {A = ℕ} 0 1 = cc (sym (inside-short at log d validate register (ltb-true (length log - at) 1 q)) ∙ e) in absurd (omega arith)
    go false q = by (ltb-false (length log - at) 1 q) (eqb (get_or log at 0) 4) refl

-- ---- validating is reading, and then the test of the checksum at the end tag

abbrev pub summing : ℕ → ℕ → List ℕ → Got Item → Got Item
summing register at log (stopped answer) = stopped answer
summing register at log (got i end) =
    if is_end i.action then tested (eqb (little_at 4 log (at + 1)) (finished (updated register (4 ∷ [])))) (got i end) WrongSum else got i end

ended-sum : (register other at : ℕ) (log : List ℕ) → read_at (ended_item true register) (at + 1) log ≡ summing register at log (read_at (ended_item false other) (at + 1) log)
unfolding sum_holds
ended-sum register other at log = go (ltb (length log - (at + 1)) 4) refl
  where
    go : (t : Bool) → ltb (length log - (at + 1)) 4 ≡ t → read_at (ended_item true register) (at + 1) log ≡ summing register at log (read_at (ended_item false other) (at + 1) log)
    go true q =
        let h : length log - (at + 1) < 4 = ltb-true (length log - (at + 1)) 4 q in
        ended-short (at + 1) log true register h ∙ ap (summing register at log) (sym (ended-short (at + 1) log false other h))
    go false q =
        let h : 4 ≤ length log - (at + 1) = ltb-false (length log - (at + 1)) 4 q in
        ended_met (at + 1) log true register (little_at 4 log (at + 1)) h refl
        ∙ ap (summing register at log) (sym (ended_met (at + 1) log false other (little_at 4 log (at + 1)) h refl))

pub inside-sum : (d : Directory) (register other at : ℕ) (log : List ℕ)
    → read_at (inside d true register) at log ≡ summing register at log (read_at (inside d false other) at log)
unfolding inside_by
inside-sum d register other at log = go (ltb (length log - at) 1) refl
  where
    unsummed : (g : Got Item) → ((i : Item) (end : ℕ) → g ≡ got i end → is_end i.action ≡ false) → g ≡ summing register at log g
    unsummed (stopped answer) h = refl
    unsummed (got i end) h = rw (h i end refl)

    by : 1 ≤ length log - at → (b : Bool) → eqb (get_or log at 0) 4 ≡ b → read_at (inside d true register) at log ≡ summing register at log (read_at (inside d false other) at log)
    by m true q =
        let tag : get_or log at 0 ≡ 4 = eqb-true (get_or log at 0) 4 q in
        inside_met at log d true register 4 m tag ∙ ended-sum register other at log
        ∙ ap (summing register at log) (sym (inside_met at log d false other 4 m tag))
    by m false q =
        let t : ℕ = get_or log at 0 in
        inside_met at log d true register t m refl
        ∙ ap (λ (f : Format Item). read_at f (at + 1) log) (same_tag d t q register other)
        ∙ unsummed (read_at (inside_by d false other t) (at + 1) log) (no-end-read (inside_by d false other t) (not_end d t q false other) (at + 1) log)
        ∙ ap (summing register at log) (sym (inside_met at log d false other t m refl))

    go : (b : Bool) → ltb (length log - at) 1 ≡ b → read_at (inside d true register) at log ≡ summing register at log (read_at (inside d false other) at log)
    go true q =
        let h : length log - at < 1 = ltb-true (length log - at) 1 q in
        inside-short at log d true register h ∙ ap (summing register at log) (sym (inside-short at log d false other h))
    go false q = by (ltb-false (length log - at) 1 q) (eqb (get_or log at 0) 4) refl
