-- What bytes behind a log can change: 1 and 2, and nothing else. And where 1,043 bytes are there neither is given, since no action is longer.
-- Assumes nothing.
use mathlib.Core.Path.{◌≡◌, refl, sym, ap, ◌∙◌, subst}
use mathlib.Core.Bool.{Bool, true, false, true≢false, not, ◌||◌}
use mathlib.Core.List.{List, [], ◌∷◌, ◌++◌}
use Prim.Native.Nat.{ℕ, ◌+◌, ◌-◌, ◌*◌, ◌^◌, ◌≤◌, ◌<◌}
use native.Mathlib.Nat.{mul-le-mul}
use native.Mathlib.Omega.{arith}
use lib.Count.{ones, ones-le}
use lib.Dec.{eqb, ltb, leb}
use lib.ListN.{length, take, drop, get_or, length-append, length-drop}
use lib.Seq.{take-append-le, drop-append-le, length-take-le}
use borrow.Author.Tests.{ltb-true, ltb-false, le-ltb, leb-true}
use Rattle.std.specs.Prelude.{if◌then◌else◌}
use Rattle.words.proofs.Choices.{if_true, if_false}
use Rattle.words.specs.Words.{little}
use Rattle.words.proofs.Little.{Bytes, little-lt}
use Rattle.checksum.specs.Checksum.{checksum_of}
use Rattle.checksum.proofs.Words.{take_bytes, drop_bytes_lem}
use Rattle.answer.specs.declared.answer.Answer.{Answer}
use Rattle.answer.specs.declared.answer.Answer.TheVariants.{OutOfPlace, NoIndex, WrongSum}
use Rattle.answer.specs.declared.answer.Refusal.{Refusal}
use Rattle.directory.specs.Directory.{find_from, find_table, tables_of, each_kept, directory_kept}
use Rattle.directory.specs.Table.{same_kind_of, is_table, length_fits, table_kept}
use Rattle.numbers.proofs.Laws.{left-of, right_of}
use Rattle.std.proofs.lemmas.Option.{same_Some}
use Rattle.directory.specs.declared.table.TableKind.{TableKind}
use Rattle.directory.specs.declared.table.TableKind.TheVariants.{Index, Value, RefCount}
use Rattle.directory.specs.declared.table.TableDescription.{TableDescription}
use Rattle.directory.specs.declared.directory.Directory.{Directory}
use Rattle.record.specs.Format.{Format, need, refuse, give, stopped, read_at, ◌>>=◌, ◌>>◌, test}
use Rattle.record.specs.Record.{Item, drop_index, drop_ref_count, known, key, chunk, masked_item, value, valued_item, table, dropped_item, sum_holds, ended_item, inside_by, inside, early, begun_id, early_end, opening_by, opening}
use Rattle.record.specs.Next.{refused, stepped, opened, step_of}
use Rattle.record.specs.declared.action.LogAction.{LogAction}
use Rattle.record.specs.declared.action.LogAction.TheVariants.{EndRecord}
use Rattle.record.specs.declared.item.Key.{Key}
use Rattle.record.specs.declared.reader.LogReader.{LogReader}
use Rattle.record.proofs.Faults.{Why, beyond, in_record, at-opening, Halted, halted}
use Rattle.checker.specs.Check.{may_change}
use Rattle.std.specs.Prelude.{Err, Option, Some, None}

-- a format asks for at most n bytes, answers 1 or 2 where they are missing, and refuses nothing that it read with these
abbrev Upto : {A : Type 0} → ℕ → Format A → Type 0
Upto n (need k short f) = (k ≤ n) × (may_change short ≡ true) × ((bs : List ℕ) → Bytes bs → length bs ≡ k → Upto (n - k) (f bs))
Upto n (refuse answer) = may_change answer ≡ false
Upto n (give a) = Unit {0}

-- the part that is read
part_bytes : (k at : ℕ) (log : List ℕ) → Bytes log → Bytes (take k (drop at log))
part_bytes k at log b = take_bytes k (drop at log) (drop_bytes_lem at log b)

part_length : (k at : ℕ) (log : List ℕ) → k ≤ length log - at → length (take k (drop at log)) ≡ k
part_length k at log m = let w : k ≤ length (drop at log) = rw length-drop m in length-take-le k (drop at log) w

-- ---- any other answer stays

lasting : {A : Type 0} (f : Format A) (n : ℕ) → Upto n f → (at : ℕ) (log : List ℕ) (answer : Answer) → Bytes log → at ≤ length log → read_at f at log ≡ stopped answer → may_change answer ≡ false
    → (more : List ℕ) → read_at f at (log ++ more) ≡ stopped answer
unfolding read_at
lasting {A} (need k short f) n h at log answer b l e c more = go (lasting (f (take k (drop at log))) (n - k)) (ltb (length log - at) k) refl
  where
    Next : Type 0
    Next = Upto (n - k) (f (take k (drop at log))) → (p : ℕ) (s : List ℕ) (a : Answer) → Bytes s → p ≤ length s → read_at (f (take k (drop at log))) p s ≡ stopped a → may_change a ≡ false
        → (m : List ℕ) → read_at (f (take k (drop at log))) p (s ++ m) ≡ stopped a

    go : Next → (t : Bool) → ltb (length log - at) k ≡ t → read_at (need k short f) at (log ++ more) ≡ stopped answer
    go ih true q = let s : short ≡ answer = cc (rw q at e) in absurd (true≢false (sym h.1 ∙ ap may_change s ∙ c))
    go ih false q =
        let m : k ≤ length log - at = ltb-false (length log - at) k q in
        let n : ltb (length (log ++ more) - at) k ≡ false = le-ltb (length (log ++ more) - at) k (simp length-append (omega arith)) in
        let w : k ≤ length (drop at log) = rw length-drop m in
        let s : take k (drop at (log ++ more)) ≡ take k (drop at log) = rw (drop-append-le at log more l, take-append-le k (drop at log) more w) in
        rw (n, s) (ih (h.2 (take k (drop at log)) (part_bytes k at log b) (part_length k at log m)) (at + k) log answer b (omega arith) (rw q at e) c more)
lasting (refuse a) n h at log answer b l e c more = e
lasting (give a) n h at log answer b l e c more = let z : ◌≡◌ {A = ℕ} 0 1 = cc in absurd (omega arith)

-- ---- and where n bytes are there, none of the two is given

long-enough : {A : Type 0} (f : Format A) (n : ℕ) → Upto n f → (at : ℕ) (log : List ℕ) (answer : Answer) → Bytes log → n ≤ length log - at → read_at f at log ≡ stopped answer → may_change answer ≡ false
unfolding read_at
long-enough {A} (need k short f) n u at log answer b l e = go (ltb (length log - at) k) refl (long-enough (f (take k (drop at log))) (n - k))
  where
    Next : Type 0
    Next = Upto (n - k) (f (take k (drop at log))) → (p : ℕ) (s : List ℕ) (a : Answer) → Bytes s → n - k ≤ length s - p → read_at (f (take k (drop at log))) p s ≡ stopped a → may_change a ≡ false

    go : (t : Bool) → ltb (length log - at) k ≡ t → Next → may_change answer ≡ false
    go true q ih = absurd (omega (arith, u.0, ltb-true (length log - at) k q))
    go false q ih =
        let m : k ≤ length log - at = ltb-false (length log - at) k q in
        ih (u.2 (take k (drop at log)) (part_bytes k at log b) (part_length k at log m)) (at + k) log answer b (omega arith) (rw q at e)
long-enough (refuse a) n u at log answer b l e = let s : a ≡ answer = cc in subst (λ (x : Answer). may_change x ≡ false) s u
long-enough (give a) n u at log answer b l e = let z : ◌≡◌ {A = ℕ} 0 1 = cc in absurd (omega arith)

-- ---- no action is longer than 1,043 bytes

upto_tag : {A : Type 0} (n : ℕ) (b : Bool) (f g : Format A) → Upto n f → Upto n g → Upto n (if b then f else g)
upto_tag n true f g h k = h
upto_tag n false f g h k = k

-- a table of values that is found in a directory that keeps its rules has values of at most 512 units
short-values : (row : ℕ) (ts : List TableDescription) (number r : ℕ) (t : TableDescription) → find_from row ts Value number ≡ Some (r, t) → each_kept ts ≡ true → t.length ≤ 512
unfolding find_from each_kept is_table table_kept
short-values row [] number r t e k = let z : ◌≡◌ {A = ℕ} 0 1 = cc in absurd (omega arith)
short-values row (u ∷ ts) number r t e k = by (is_table u Value number) refl e (λ q. short-values (row + 1) ts number r t q (right_of (table_kept u) _ k))
  where
    of-values : (kind : TableKind) → same_kind_of kind Value ≡ true → length_fits kind u.length ≡ true → u.length ≤ 512
    of-values Value i f = leb-true u.length 512 (right_of (leb 1 u.length) _ f)
    of-values Index i f = let z : ◌≡◌ {A = Bool} false true = i in cc
    of-values RefCount i f = let z : ◌≡◌ {A = Bool} false true = i in cc

    by : (b : Bool) → is_table u Value number ≡ b → (if b then Some (row, u) else find_from (row + 1) ts Value number) ≡ Some (r, t)
        → (find_from (row + 1) ts Value number ≡ Some (r, t) → t.length ≤ 512) → t.length ≤ 512
    by true i q f =
        let s : u ≡ t = ap (λ (p : ℕ × TableDescription). p.1) (same_Some (row, u) (r, t) q) in
        rw (← s) (of-values u.kind (left-of (same_kind_of u.kind Value) _ i) (right_of (leb u.count 4096) _ (right_of (leb 1 u.count) _ (right_of (leb u.column 7) _ (left-of (table_kept u) _ k)))))
    by false i q f = f q

module _ (d : Directory) (kept : directory_kept d ≡ true) where
  upto_key : {B : Type 0} (kind : TableKind) (g : Key → Format B) (n : ℕ) → 10 ≤ n
      → ((number row : ℕ) (t : TableDescription) → find_table d kind number ≡ Some (row, t) → (k : Key) → k.description ≡ t → Upto (n - 10) (g k)) → Upto n (key d kind >>= g)
  unfolding key
  upto_key {B} kind g n h u = (h, refl, λ hd b l. by hd (find_table d kind (little (take 2 hd))) refl)
    where
      tested : (k : Key) → Upto (n - 10) (g k) → (b : Bool) → Upto (n - 10) ((test b NoIndex >> give k) >>= g)
      tested k u true = u
      tested k u false = refl

      by : (hd : List ℕ) (f : Option (ℕ × TableDescription)) → find_table d kind (little (take 2 hd)) ≡ f
          → Upto (n - 10) ((known f >>= λ t. test (ltb (little (drop 2 hd)) t.count) NoIndex >> give (record { table = little (take 2 hd); index = little (drop 2 hd); description = t })) >>= g)
      by hd None q = refl
      by hd (Some (row, t)) q =
          tested (record { table = little (take 2 hd); index = little (drop 2 hd); description = t }) (u (little (take 2 hd)) row t q _ refl) (ltb (little (drop 2 hd)) t.count)

  upto_masked : (kind : TableKind) (width : ℕ) → width ≤ 16 → Upto 1042 (masked_item d kind width)
  unfolding masked_item chunk
  upto_masked kind width w = upto_key kind (chunk kind width) 1042 (omega arith) (λ number row t q k e. (omega arith, refl, λ mask b l. (entries mask b l, refl, λ es eb el. tt)))
    where
      entries : (mask : List ℕ) → Bytes mask → length mask ≡ 8 → ones (little mask) * width ≤ 1024
      entries mask b l =
          let m : little mask < 2 ^ 64 = rw l at (little-lt mask b) in
          mul-le-mul {n₁ = ones (little mask)} {n₂ = 64} (ones-le 64 (little mask) m) w

  upto_valued : Upto 1042 (valued_item d)
  unfolding valued_item value directory_kept find_table
  upto_valued = upto_key Value value 1042 (omega arith) (λ number row t q k e. (long number row t q k e, refl, λ bs b l. tt))
    where
      long : (number row : ℕ) (t : TableDescription) → find_table d Value number ≡ Some (row, t) → (k : Key) → k.description ≡ t → k.description.length ≤ 1032
      long number row t q k e =
          let f : t.length ≤ 512 = short-values 0 (tables_of d) number row t q (left-of (each_kept (tables_of d)) _ (right_of (leb d.count 16) _ kept)) in
          let s : k.description.length ≡ t.length = ap (λ (x : TableDescription). x.length) e in
          omega arith

  upto_dropped : (kind : TableKind) (action : ℕ → LogAction) → Upto 1042 (dropped_item d kind action)
  unfolding dropped_item table
  upto_dropped kind action = (omega arith, refl, λ bs b l. by bs (find_table d kind (little bs)))
    where
      by : (bs : List ℕ) (f : Option (ℕ × TableDescription)) → Upto {A = Item} 1040 ((known f >>= λ t. give (little bs)) >>= λ number. give (record { action = action number; payload = 0 }))
      by bs None = refl
      by bs (Some (row, t)) = tt

  upto_inside : (validate : Bool) (register : ℕ) → Upto 1043 (inside d validate register)
  unfolding inside inside_by ended_item
  upto_inside validate register = (
    omega arith,
    refl,
    λ bs b l.
        let tag : ℕ = get_or bs 0 0 in
        upto_tag 1042 (eqb tag 1) _ _ refl
        (upto_tag 1042 (eqb tag 2) _ _ (upto_masked Index 8 (omega arith))
        (upto_tag 1042 (eqb tag 3) _ _ upto_valued
        (upto_tag 1042 (eqb tag 4) _ _ (omega arith, refl, λ sum c m. ended (sum_holds validate register (little sum)))
        (upto_tag 1042 (eqb tag 5) _ _ (upto_dropped Index drop_index)
        (upto_tag 1042 (eqb tag 6) _ _ (upto_masked RefCount 16 (omega arith))
        (upto_tag 1042 (eqb tag 7) _ _ (upto_dropped RefCount drop_ref_count) refl)))))),
  )
    where
      ended : (b : Bool) → Upto {A = Item} 1038 (test b WrongSum >> give (record { action = EndRecord; payload = 0 }))
      ended true = tt
      ended false = refl

upto_early : (k : ℕ) → k ≤ 1042 → Upto 1042 (early k)
unfolding early
upto_early k h = (h, refl, λ bs b l. refl)

upto_opening : (validate : Bool) → Upto 1043 (opening validate)
unfolding opening opening_by begun_id early_end
upto_opening validate = (
  omega arith,
  refl,
  λ bs b l.
      let tag : ℕ = get_or bs 0 0 in
      upto_tag 1042 (eqb tag 1) _ _ (omega arith, refl, λ id c m. tt)
      (upto_tag 1042 (eqb tag 2) _ _ (upto_early 10 (omega arith))
      (upto_tag 1042 (eqb tag 3) _ _ (upto_early 10 (omega arith))
      (upto_tag 1042 (eqb tag 4) _ _ (omega arith, refl, λ sum c m. ended (not validate || eqb (little sum) (checksum_of (4 ∷ []))))
      (upto_tag 1042 (eqb tag 5) _ _ (upto_early 2 (omega arith))
      (upto_tag 1042 (eqb tag 6) _ _ (upto_early 10 (omega arith))
      (upto_tag 1042 (eqb tag 7) _ _ (upto_early 2 (omega arith)) refl)))))),
)
  where
    ended : (b : Bool) → Upto {A = ℕ} 1038 (test b WrongSum >> refuse OutOfPlace)
    ended true = refl
    ended false = refl

-- ---- a step

-- a step's refusal, as it is made
made : (x : Refusal) (p : ℕ) → x.position ≡ p → refused x.answer p ≡ Err x
made x p e = ap (refused x.answer) (sym e)

module _ (d : Directory) (kept : directory_kept d ≡ true) (log : List ℕ) (known : Bytes log) (r : LogReader) (x : Refusal) (within : r.position ≤ length log) (e : step_of d log r ≡ Err x) where
  -- A REFUSED STEP STAYS REFUSED whatever bytes come behind the log, unless it is 1 or 2
  pub step-lasting : may_change x.answer ≡ false → (more : List ℕ) → step_of d (log ++ more) r ≡ Err x
  unfolding step_of
  step-lasting c more = by t.why
    where
      t : Halted d log r x
      t = halted d log r x e

      here : ltb (length (log ++ more)) r.position ≡ false
      here = le-ltb (length (log ++ more)) r.position (simp length-append (omega arith))

      by : Why d log r x.answer → step_of d (log ++ more) r ≡ Err x
      by (beyond l a) = absurd (omega arith)
      by (in_record b l q) =
          if_false (ltb (length (log ++ more)) r.position) _ _ here ∙ if_true r.inside _ _ b
          ∙ ap (stepped (log ++ more) r) (lasting (inside d r.validate r.crc32) 1043 (upto_inside d kept r.validate r.crc32) r.position log x.answer known within q c more)
          ∙ made x r.position t.place
      by (at-opening b l q) =
          if_false (ltb (length (log ++ more)) r.position) _ _ here ∙ if_false r.inside _ _ b
          ∙ ap (opened (log ++ more) r) (lasting (opening r.validate) 1043 (upto_opening r.validate) r.position log x.answer known within q c more)
          ∙ made x r.position t.place

  -- WITH 1,043 BYTES THERE it isn't 1 or 2
  pub step-long : 1043 ≤ length log - r.position → may_change x.answer ≡ false
  step-long l = by (halted d log r x e).why
    where
      by : Why d log r x.answer → may_change x.answer ≡ false
      by (beyond m a) = absurd (omega arith)
      by (in_record c m q) = long-enough (inside d r.validate r.crc32) 1043 (upto_inside d kept r.validate r.crc32) r.position log x.answer known l q
      by (at-opening c m q) = long-enough (opening r.validate) 1043 (upto_opening r.validate) r.position log x.answer known l q
