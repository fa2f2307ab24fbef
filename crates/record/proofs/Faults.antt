-- With what a format refuses: by the tag that it read, and never with 0. So a refused step says by its number what stands where it is told,
-- and a step that answers 0 took an action. Assumes nothing.
use mathlib.Core.Path.{◌≡◌, refl, sym, ap, ◌∙◌, subst}
use mathlib.Core.Bool.{Bool, true, false, not, ◌||◌, true≢false}
use mathlib.Core.List.{List, [], ◌∷◌}
use Prim.Native.Nat.{ℕ, ◌+◌, ◌-◌, ◌≤◌, ◌<◌}
use native.Mathlib.Omega.{arith}
use lib.Dec.{eqb, ltb}
use lib.ListN.{length, take, drop, get_or}
use borrow.Author.Tests.{eqb-true, eqb-false, ltb-true, ltb-false, le-leb}
use Rattle.std.specs.Prelude.{if◌then◌else◌}
use Rattle.words.proofs.Choices.{if_true, if_false}
use Rattle.words.specs.Words.{little}
use Rattle.checksum.specs.Checksum.{checksum_of}
use Rattle.directory.specs.Directory.{find_table, directory_kept}
use Rattle.directory.specs.declared.table.TableKind.{TableKind}
use Rattle.directory.specs.declared.table.TableKind.TheVariants.{Index, Value, RefCount}
use Rattle.directory.specs.declared.table.TableDescription.{TableDescription}
use Rattle.directory.specs.declared.directory.Directory.{Directory}
use Rattle.answer.specs.Answer.{number_of, refusal}
use Rattle.answer.specs.declared.answer.Answer.{Answer}
use Rattle.answer.specs.declared.answer.Answer.TheVariants.{Done, EndOfLog, Cut, UnknownTag, OutOfPlace, WrongId, NoTable, NoIndex, WrongSum, NoRoom, ShortOutput, NotNext, UsedUp, BadState, BadArgument}
use Rattle.answer.specs.declared.answer.Refusal.{Refusal}
use Rattle.record.specs.Fault.{unknown_tag, inside_fault, opening_fault}
use Rattle.record.specs.Format.{Format, need, refuse, give, Got, stopped, got, read_at, ◌>>=◌, test}
use Rattle.record.specs.Record.{Item, drop_index, drop_ref_count, known, key, chunk, masked_item, value, valued_item, table, dropped_item, sum_holds, ended_item, inside_by, inside, early, begun_id, early_end, opening_by, opening}
use Rattle.record.specs.Next.{refused, answer_of, stepped, opened, step_of, next_of}
use Rattle.record.specs.declared.action.LogAction.{LogAction}
use Rattle.record.specs.declared.reader.LogReader.{LogReader}
use Rattle.record.specs.declared.reader.Stepped.{Stepped}
use Rattle.record.proofs.Parts.{inside-short, inside_met, opening-short, opening_met, no-tag}
use Rattle.std.specs.Prelude.{Result, Ok, Err, Option, Some, None}

-- every answer with which a format refuses is one of those that P has
abbrev Refuses : {A : Type 0} → (Answer → Type 0) → Format A → Type 0
Refuses P (need k short f) = P short × ((bs : List ℕ) → Refuses P (f bs))
Refuses P (refuse answer) = P answer
Refuses P (give a) = Unit {0}

module _ (P : Answer → Type 0) where
  refuses-read : {A : Type 0} (f : Format A) → Refuses P f → (at : ℕ) (log : List ℕ) (answer : Answer) → read_at f at log ≡ stopped answer → P answer
  unfolding read_at
  refuses-read {A} (need k short f) h at log answer e = go (refuses-read (f (take k (drop at log))) (h.1 (take k (drop at log))) (at + k) log answer) (ltb (length log - at) k) refl
    where
      go : (read_at (f (take k (drop at log))) (at + k) log ≡ stopped answer → P answer) → (t : Bool) → ltb (length log - at) k ≡ t → P answer
      go ih true q = let s : short ≡ answer = cc (rw q at e) in subst P s h.0
      go ih false q = ih (rw q at e)
  refuses-read (refuse a) h at log answer e = let s : a ≡ answer = cc in subst P s h
  refuses-read (give a) h at log answer e = let z : ◌≡◌ {A = ℕ} 0 1 = cc in absurd (omega arith)

  refuses_bind : {A B : Type 0} (f : Format A) (g : A → Format B) → Refuses P f → ((a : A) → Refuses P (g a)) → Refuses P (f >>= g)
  refuses_bind (need k short f) g h n = (h.0, λ bs. refuses_bind (f bs) g (h.1 bs) n)
  refuses_bind (refuse answer) g h n = h
  refuses_bind (give a) g h n = n a

  refuses-test : {B : Type 0} (b : Bool) (answer : Answer) (g : Unit {0} → Format B) → P answer → Refuses P (g tt) → Refuses P (test b answer >>= g)
  refuses-test true answer g h k = k
  refuses-test false answer g h k = h

  refuses-known : {B : Type 0} (f : Option (ℕ × TableDescription)) (g : TableDescription → Format B) → P NoTable → ((t : TableDescription) → Refuses P (g t)) → Refuses P (known f >>= g)
  refuses-known None g p h = p
  refuses-known (Some (row, t)) g p h = h t

  -- one tag of those that are asked for
  refuses-tag : {A : Type 0} (tag k : ℕ) (f g : Format A) → (tag ≡ k → Refuses P f) → ((tag ≡ k → ⊥) → Refuses P g) → Refuses P (if eqb tag k then f else g)
  refuses-tag tag k f g h n = go (eqb tag k) refl
    where
      go : (b : Bool) → eqb tag k ≡ b → Refuses P (if b then f else g)
      go true q = h (eqb-true tag k q)
      go false q = n (eqb-false tag k q)

  module _ (d : Directory) (cut : P Cut) where
    refuses-key : (kind : TableKind) → P NoTable → P NoIndex → Refuses P (key d kind)
    unfolding key
    refuses-key kind p i = (
      cut,
      λ h.
          refuses-known (find_table d kind (little (take 2 h))) _ p (λ t. refuses-test (ltb (little (drop 2 h)) t.count) NoIndex _ i tt),
    )

    refuses_masked : (kind : TableKind) (width : ℕ) → P NoTable → P NoIndex → Refuses P (masked_item d kind width)
    unfolding masked_item chunk
    refuses_masked kind width p i = refuses_bind (key d kind) (chunk kind width) (refuses-key kind p i) (λ k. (cut, λ mask. (cut, λ entries. tt)))

    refuses_valued : P NoTable → P NoIndex → Refuses P (valued_item d)
    unfolding valued_item value
    refuses_valued p i = refuses_bind (key d Value) value (refuses-key Value p i) (λ k. (cut, λ bs. tt))

    refuses-dropped : (kind : TableKind) (action : ℕ → LogAction) → P NoTable → Refuses P (dropped_item d kind action)
    unfolding dropped_item table
    refuses-dropped kind action p = (cut, λ bs. refuses_bind (known (find_table d kind (little bs)) >>= λ t. give (little bs)) (λ n. give (record { action = action n; payload = 0 })) (refuses-known (find_table d kind (little bs)) _ p (λ t. tt)) (λ n. tt))

    refuses-ended : (validate : Bool) (register : ℕ) → P WrongSum → Refuses P (ended_item validate register)
    unfolding ended_item
    refuses-ended validate register p = (cut, λ bs. refuses-test (sum_holds validate register (little bs)) WrongSum _ p tt)

  module _ (end : P EndOfLog) (place : P OutOfPlace) where
    refuses-early : (k : ℕ) → Refuses P (early k)
    unfolding early
    refuses-early k = (end, λ bs. place)

    refuses-early-end : (validate : Bool) → P WrongSum → Refuses P (early_end validate)
    unfolding early_end
    refuses-early-end validate p = (end, λ sum. refuses-test (not validate || eqb (little sum) (checksum_of (4 ∷ []))) WrongSum _ p place)

-- ---- by the tag

-- a tag other than the seven
unknown : (tag : ℕ) → (tag ≡ 1 → ⊥) → (tag ≡ 2 → ⊥) → (tag ≡ 3 → ⊥) → (tag ≡ 4 → ⊥) → (tag ≡ 5 → ⊥) → (tag ≡ 6 → ⊥) → (tag ≡ 7 → ⊥) → unknown_tag tag ≡ true
unknown tag n1 n2 n3 n4 n5 n6 n7 = go (eqb tag 0) refl
  where
    go : (b : Bool) → eqb tag 0 ≡ b → unknown_tag tag ≡ true
    go true q = rw q
    go false q = rw (q, le-leb 8 tag (no-tag n1 n2 n3 n4 n5 n6 n7 (eqb-false tag 0 q)))

-- what `inside_fault` says of a known tag it says of the tag
abbrev In : ℕ → Answer → Type 0
In tag answer = inside_fault answer tag ≡ true

abbrev Opens : ℕ → Answer → Type 0
Opens tag answer = opening_fault answer tag ≡ true

module _ (d : Directory) (validate : Bool) (register tag : ℕ) where
  refuses-inside : Refuses (In tag) (inside_by d validate register tag)
  unfolding inside_by
  refuses-inside =
      refuses-tag (In tag) tag 1 _ _ (λ e. rw e) λ n1.
      refuses-tag (In tag) tag 2 _ _ (λ e. rw e (refuses_masked (In 2) d refl Index 8 refl refl)) λ n2.
      refuses-tag (In tag) tag 3 _ _ (λ e. rw e (refuses_valued (In 3) d refl refl refl)) λ n3.
      refuses-tag (In tag) tag 4 _ _ (λ e. rw e (refuses-ended (In 4) d refl validate register refl)) λ n4.
      refuses-tag (In tag) tag 5 _ _ (λ e. rw e (refuses-dropped (In 5) d refl Index drop_index refl)) λ n5.
      refuses-tag (In tag) tag 6 _ _ (λ e. rw e (refuses_masked (In 6) d refl RefCount 16 refl refl)) λ n6.
      refuses-tag (In tag) tag 7 _ _ (λ e. rw e (refuses-dropped (In 7) d refl RefCount drop_ref_count refl)) λ n7.
      unknown tag n1 n2 n3 n4 n5 n6 n7

module _ (validate : Bool) (tag : ℕ) where
  refuses-opening : Refuses (Opens tag) (opening_by validate tag)
  unfolding opening_by begun_id
  refuses-opening =
      refuses-tag (Opens tag) tag 1 _ _ (λ e. rw e (refl, λ id. tt)) λ n1.
      refuses-tag (Opens tag) tag 2 _ _ (λ e. rw e (refuses-early (Opens 2) refl refl 10)) λ n2.
      refuses-tag (Opens tag) tag 3 _ _ (λ e. rw e (refuses-early (Opens 3) refl refl 10)) λ n3.
      refuses-tag (Opens tag) tag 4 _ _ (λ e. rw e (refuses-early-end (Opens 4) refl refl validate refl)) λ n4.
      refuses-tag (Opens tag) tag 5 _ _ (λ e. rw e (refuses-early (Opens 5) refl refl 2)) λ n5.
      refuses-tag (Opens tag) tag 6 _ _ (λ e. rw e (refuses-early (Opens 6) refl refl 10)) λ n6.
      refuses-tag (Opens tag) tag 7 _ _ (λ e. rw e (refuses-early (Opens 7) refl refl 2)) λ n7.
      unknown tag n1 n2 n3 n4 n5 n6 n7

-- a step's first byte, and what is behind it: none is left, or it is the one that the answer speaks of
pub data Told (says : Answer → ℕ → Bool) (short : Answer) (log : List ℕ) (at : ℕ) (answer : Answer) : Type 0 where
  no_byte : at ≡ length log → answer ≡ short → Told says short log at answer
  by-tag : at < length log → says answer (get_or log at 0) ≡ true → Told says short log at answer

module _ (log : List ℕ) (at : ℕ) (fits : at ≤ length log) (answer : Answer) where
  told : {A : Type 0} (says : Answer → ℕ → Bool) (short : Answer) (g : Got A) (by : Format A) → Refuses (λ a. says a (get_or log at 0) ≡ true) by
      → (length log - at < 1 → g ≡ stopped short) → (1 ≤ length log - at → g ≡ read_at by (at + 1) log) → g ≡ stopped answer → Told says short log at answer
  told {A} says short g by h none met e = go (ltb (length log - at) 1) refl
    where
      go : (t : Bool) → ltb (length log - at) 1 ≡ t → Told says short log at answer
      go true q =
          let l : length log - at < 1 = ltb-true (length log - at) 1 q in
          let s : short ≡ answer = cc (none l) in
          no_byte (omega arith) (sym s)
      go false q =
          let l : 1 ≤ length log - at = ltb-false (length log - at) 1 q in
          by-tag (omega arith) (refuses-read (λ a. says a (get_or log at 0) ≡ true) by h (at + 1) log answer (sym (met l) ∙ e))

  pub told-inside : (d : Directory) (validate : Bool) (register : ℕ) → read_at (inside d validate register) at log ≡ stopped answer → Told inside_fault Cut log at answer
  told-inside d validate register e =
      let tag : ℕ = get_or log at 0 in
      told inside_fault Cut (read_at (inside d validate register) at log) (inside_by d validate register tag) (refuses-inside d validate register tag)
      (inside-short at log d validate register) (λ l. inside_met at log d validate register tag l refl) e

  pub told-opening : (validate : Bool) → read_at (opening validate) at log ≡ stopped answer → Told opening_fault EndOfLog log at answer
  told-opening validate e =
      let tag : ℕ = get_or log at 0 in
      told opening_fault EndOfLog (read_at (opening validate) at log) (opening_by validate tag) (refuses-opening validate tag)
      (opening-short at log validate) (λ l. opening_met at log validate tag l refl) e

-- no answer told so is 0
above : (says : Answer → ℕ → Bool) (short : Answer) (log : List ℕ) (at : ℕ) (answer : Answer)
    → ((tag : ℕ) → says Done tag ≡ false) → 0 < number_of short → Told says short log at answer → 0 < number_of answer
above says short log at answer never h (no_byte e s) = rw s h
above says short log at answer never h (by-tag l s) = go answer s
  where
    go : (a : Answer) → says a (get_or log at 0) ≡ true → 0 < number_of a
    go Done e = absurd (true≢false (sym e ∙ never (get_or log at 0)))
    go EndOfLog e = omega arith
    go Cut e = omega arith
    go UnknownTag e = omega arith
    go OutOfPlace e = omega arith
    go WrongId e = omega arith
    go NoTable e = omega arith
    go NoIndex e = omega arith
    go WrongSum e = omega arith
    go NoRoom e = omega arith
    go ShortOutput e = omega arith
    go NotNext e = omega arith
    go UsedUp e = omega arith
    go BadState e = omega arith
    go BadArgument e = omega arith

-- ---- a step that refuses: why, and that it is told where the reader stands

pub data Why (d : Directory) (log : List ℕ) (r : LogReader) (answer : Answer) : Type 0 where
  beyond : length log < r.position → answer ≡ BadArgument → Why d log r answer
  in_record : r.inside ≡ true → r.position ≤ length log → read_at (inside d r.validate r.crc32) r.position log ≡ stopped answer → Why d log r answer
  at-opening : r.inside ≡ false → r.position ≤ length log → read_at (opening r.validate) r.position log ≡ stopped answer → Why d log r answer

pub record Halted (d : Directory) (log : List ℕ) (r : LogReader) (x : Refusal) : Type 0 where
  pub place : x.position ≡ r.position
  pub why : Why d log r x.answer

made : (d : Directory) (log : List ℕ) (r : LogReader) (x : Refusal) (a : Answer) → Why d log r a → refused a r.position ≡ Err x → Halted d log r x
made d log r x a w e =
    let s : refusal a r.position ≡ x = cc in
    record { place = sym (ap (λ (y : Refusal). y.position) s); why = subst (Why d log r) (ap (λ (y : Refusal). y.answer) s) w }

module _ (d : Directory) (log : List ℕ) (r : LogReader) (x : Refusal) where
  pub halted : step_of d log r ≡ Err x → Halted d log r x
  unfolding step_of
  halted e = placed (ltb (length log) r.position) refl
    where
      insides : r.inside ≡ true → r.position ≤ length log → (g : Got Item) → read_at (inside d r.validate r.crc32) r.position log ≡ g → stepped log r g ≡ Err x → Halted d log r x
      insides b l (stopped a) q f = made d log r x a (in_record b l q) f
      insides b l (got i end) q f = let z : ◌≡◌ {A = ℕ} 0 1 = cc in absurd (omega arith)

      openings : r.inside ≡ false → r.position ≤ length log → (g : Got ℕ) → read_at (opening r.validate) r.position log ≡ g → opened log r g ≡ Err x → Halted d log r x
      openings b l (stopped a) q f = made d log r x a (at-opening b l q) f
      openings b l (got id end) q f = let z : ◌≡◌ {A = ℕ} 0 1 = cc in absurd (omega arith)

      either : (b : Bool) → r.inside ≡ b → ltb (length log) r.position ≡ false → Halted d log r x
      either true b q = insides b (ltb-false (length log) r.position q) _ refl (sym (if_true r.inside _ _ b) ∙ (rw q at e))
      either false b q = openings b (ltb-false (length log) r.position q) _ refl (sym (if_false r.inside _ _ b) ∙ (rw q at e))

      placed : (t : Bool) → ltb (length log) r.position ≡ t → Halted d log r x
      placed true q = made d log r x BadArgument (beyond (ltb-true (length log) r.position q) refl) (rw q at e)
      placed false q = either r.inside refl q

  pub step-fault : step_of d log r ≡ Err x → 0 < number_of x.answer
  step-fault e = go (halted e).why
    where
      go : Why d log r x.answer → 0 < number_of x.answer
      go (beyond l a) = rw a (omega arith)
      go (in_record b l q) = above inside_fault Cut log r.position x.answer (λ tag. refl) (omega arith) (told-inside log r.position l x.answer d r.validate r.crc32 q)
      go (at-opening b l q) = above opening_fault EndOfLog log r.position x.answer (λ tag. refl) (omega arith) (told-opening log r.position l x.answer r.validate q)

  next-is : next_of d log r ≡ Err x → (b : Bool) → directory_kept d ≡ b → (0 < number_of x.answer) × (x.position ≡ r.position)
  unfolding next_of
  next-is e true q = let f : step_of d log r ≡ Err x = rw q at e in (step-fault f, (halted f).place)
  next-is e false q =
      let f : refused BadState r.position ≡ Err x = rw q at e in
      let s : refusal BadState r.position ≡ x = cc in
      (subst (λ (y : Refusal). 0 < number_of y.answer) s (omega arith), sym (ap (λ (y : Refusal). y.position) s))

  -- A REFUSAL OF `next` HAS A NUMBER ABOVE 0
  pub next-fault : next_of d log r ≡ Err x → 0 < number_of x.answer
  next-fault e = (next-is e (directory_kept d) refl).0

  -- "the byte position of the first byte of the action at fault": a step is told where the reader stands, whatever the answer
  pub next_place : next_of d log r ≡ Err x → x.position ≡ r.position
  next_place e = (next-is e (directory_kept d) refl).1

-- so a step that answers 0 took an action
pub next_took : (d : Directory) (log : List ℕ) (r : LogReader) → answer_of (next_of d log r) ≡ 0 → (s : Stepped) × (next_of d log r ≡ Ok s)
next_took d log r e = go (next_of d log r) refl e
  where
    go : (st : Result Stepped Refusal) → next_of d log r ≡ st → answer_of st ≡ 0 → (s : Stepped) × (next_of d log r ≡ Ok s)
    go (Ok s) q f = (s, q)
    go (Err x) q f = absurd (omega (arith, next-fault d log r x q))
