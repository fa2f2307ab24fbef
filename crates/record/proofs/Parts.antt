-- Each format of a record in closed form: by what the code reads and tests. Assumes nothing.
use mathlib.Core.Path.{◌≡◌, refl, sym, ap, ◌∙◌}
use mathlib.Core.Bool.{Bool, true, false, not, ◌||◌}
use mathlib.Core.List.{List, [], ◌∷◌}
use Prim.Native.Nat.{ℕ, ◌+◌, ◌-◌, ◌*◌, ◌≤◌, ◌<◌, zero-le}
use native.Mathlib.Nat.{add_assoc, add-zero}
use native.Mathlib.Omega.{arith}
use lib.Count.{ones}
use lib.Dec.{eqb, ltb}
use lib.ListN.{length, take, drop, get_or}
use lib.Seq.{get_or-take, get_or-drop}
use borrow.Author.Tests.{ne_eqb}
use Rattle.words.specs.Words.{little_at}
use Rattle.words.proofs.Cut.{little_take, little_drop}
use Rattle.checksum.specs.Checksum.{checksum_of}
use Rattle.directory.specs.Directory.{find_table}
use Rattle.directory.specs.declared.table.TableKind.{TableKind}
use Rattle.directory.specs.declared.table.TableKind.TheVariants.{Index, Value, RefCount}
use Rattle.directory.specs.declared.directory.Directory.{Directory}
use Rattle.directory.specs.declared.table.TableDescription.{TableDescription}
use Rattle.record.specs.Format.{Format, refuse, give, Got, stopped, got, read_at, ◌>>◌, test}
use Rattle.record.specs.Record.{Item, insert_of, key, chunk, masked_item, value_length, value, valued_item, table, dropped_item, sum_holds, ended_item, inside_by, inside, early, begun_id, early_end, opening_by, opening}
use Rattle.answer.specs.declared.answer.Answer.{Answer}
use Rattle.answer.specs.declared.answer.Answer.TheVariants.{EndOfLog, Cut, UnknownTag, OutOfPlace, NoTable, NoIndex, WrongSum}
use Rattle.record.specs.declared.action.LogAction.{LogAction}
use Rattle.record.specs.declared.action.LogAction.TheVariants.{EndRecord}
use Rattle.record.specs.declared.item.Key.{Key}
use Rattle.record.specs.declared.item.ReadItem.{ReadItem}
use Rattle.record.specs.declared.reader.LogReader.{LogReader}
use Rattle.record.specs.Next.{reader_after, stepped}
use Rattle.record.specs.Inner.{got_item, inserted_item}
use Rattle.record.proofs.Formats.{need-short, need_met, read-give, read-refuse, then_stop, then_got}
use Rattle.std.specs.Prelude.{Ok, Option, Some, None}

-- a test, and then a value or a refusal
abbrev pub tested : {A : Type 0} → Bool → Got A → Answer → Got A
tested true g answer = g
tested false g answer = stopped answer

module _ {A : Type 0} (answer : Answer) (at : ℕ) (log : List ℕ) where
  pub test-give : (b : Bool) (a : A) → read_at (test b answer >> give a) at log ≡ tested b (got a at) answer
  unfolding read_at
  test-give true a = refl
  test-give false a = refl

  pub test-refuse : (b : Bool) (other : Answer) → read_at {A = A} (test b answer >> refuse other) at log ≡ tested b (stopped other) answer
  unfolding read_at
  test-refuse true other = refl
  test-refuse false other = refl

-- the payload behind a key
abbrev pub payload_of : TableKind → Key → Format Item
payload_of Index k = chunk Index 8 k
payload_of Value k = value k
payload_of RefCount k = chunk RefCount 16 k

pub payload_8 : (kind : TableKind) (k : Key) → kind ≡ Index → payload_of kind k ≡ chunk kind 8 k
payload_8 kind k e = rw e

pub payload_16 : (kind : TableKind) (k : Key) → kind ≡ RefCount → payload_of kind k ≡ chunk kind 16 k
payload_16 kind k e = rw e

module _ (at : ℕ) (log : List ℕ) where
  -- ---- table and index

  abbrev pub key_in : Option (ℕ × TableDescription) → ℕ → ℕ → Got Key
  key_in None t i = stopped NoTable
  key_in (Some (row, d)) t i = tested (ltb i d.count) (got (record { table = t; index = i; description = d }) (at + 10)) NoIndex

  pub key-short : (d : Directory) (kind : TableKind) → length log - at < 10 → read_at (key d kind) at log ≡ stopped Cut
  unfolding key
  key-short d kind h = need-short 10 Cut _ at log h

  pub key_met : (d : Directory) (kind : TableKind) (t i : ℕ) (f : Option (ℕ × TableDescription)) → 10 ≤ length log - at → t ≡ little_at 2 log at → i ≡ little_at 8 log (at + 2)
      → f ≡ find_table d kind t → read_at (key d kind) at log ≡ key_in f t i
  unfolding key
  key_met d kind t i None h e₁ e₂ e₃ =
      need_met 10 Cut _ at log h ∙ rw (little_take 2 log at 10 (omega arith), little_drop 2 log at 8, ← e₁, ← e₂, ← e₃) (read-refuse NoTable (at + 10) log)
  key_met d kind t i (Some (row, r)) h e₁ e₂ e₃ =
      need_met 10 Cut _ at log h
      ∙ rw (little_take 2 log at 10 (omega arith), little_drop 2 log at 8, ← e₁, ← e₂, ← e₃) (test-give NoIndex (at + 10) log (ltb i r.count) _)

  -- ---- mask and entries; value

  pub chunk-short : (kind : TableKind) (width : ℕ) (k : Key) → length log - at < 8 → read_at (chunk kind width k) at log ≡ stopped Cut
  unfolding chunk
  chunk-short kind width k h = need-short 8 Cut _ at log h

  pub chunk-cut : (kind : TableKind) (width : ℕ) (k : Key) (mask n : ℕ) → 8 ≤ length log - at → mask ≡ little_at 8 log at → n ≡ ones mask * width
      → length log - (at + 8) < n → read_at (chunk kind width k) at log ≡ stopped Cut
  unfolding chunk
  chunk-cut kind width k mask n h e₁ e₂ s = need_met 8 Cut _ at log h ∙ rw (← e₁, ← e₂) (need-short n Cut _ (at + 8) log s)

  pub chunk_met : (kind : TableKind) (width : ℕ) (k : Key) (mask n : ℕ) → 8 ≤ length log - at → mask ≡ little_at 8 log at → n ≡ ones mask * width
      → n ≤ length log - (at + 8) → read_at (chunk kind width k) at log ≡ got (record { action = insert_of kind k.table k.index; payload = 8 + n }) (at + (8 + n))
  unfolding chunk
  chunk_met kind width k mask n h e₁ e₂ s =
      need_met 8 Cut _ at log h ∙ rw (← e₁, ← e₂) (need_met n Cut _ (at + 8) log s ∙ read-give _ (at + 8 + n) log
      ∙ ap (got (record { action = insert_of kind k.table k.index; payload = 8 + n })) (add_assoc at 8 n))

  pub value-short : (k : Key) → length log - at < value_length k.description → read_at (value k) at log ≡ stopped Cut
  unfolding value
  value-short k h = need-short (value_length k.description) Cut _ at log h

  pub value_met : (k : Key) → value_length k.description ≤ length log - at
      → read_at (value k) at log ≡ got (record { action = insert_of Value k.table k.index; payload = value_length k.description }) (at + value_length k.description)
  unfolding value
  value_met k h = need_met (value_length k.description) Cut _ at log h ∙ read-give _ (at + value_length k.description) log

  -- ---- a key and its payload

  module _ (d : Directory) where
    pub inserted-stop : (kind : TableKind) (answer : Answer) → stopped answer ≡ read_at (key d kind) at log → stopped answer ≡ read_at (inserted_item d kind) at log
    unfolding masked_item valued_item
    inserted-stop Index answer e = then_stop (key d Index) (chunk Index 8) at log answer e
    inserted-stop Value answer e = then_stop (key d Value) value at log answer e
    inserted-stop RefCount answer e = then_stop (key d RefCount) (chunk RefCount 16) at log answer e

    pub inserted_met : (kind : TableKind) (k : Key) (end : ℕ) (f : Format Item) → payload_of kind k ≡ f → got k end ≡ read_at (key d kind) at log
        → read_at f end log ≡ read_at (inserted_item d kind) at log
    unfolding masked_item valued_item
    inserted_met Index k end f p e = ap (λ (x : Format Item). read_at x end log) (sym p) ∙ then_got (key d Index) (chunk Index 8) at log k end e
    inserted_met Value k end f p e = ap (λ (x : Format Item). read_at x end log) (sym p) ∙ then_got (key d Value) value at log k end e
    inserted_met RefCount k end f p e = ap (λ (x : Format Item). read_at x end log) (sym p) ∙ then_got (key d RefCount) (chunk RefCount 16) at log k end e

  -- ---- the table of a drop

  abbrev pub table_in : Option (ℕ × TableDescription) → ℕ → Got ℕ
  table_in None t = stopped NoTable
  table_in (Some (row, d)) t = got t (at + 2)

  pub table-short : (d : Directory) (kind : TableKind) → length log - at < 2 → read_at (table d kind) at log ≡ stopped Cut
  unfolding table
  table-short d kind h = need-short 2 Cut _ at log h

  pub table_met : (d : Directory) (kind : TableKind) (t : ℕ) (f : Option (ℕ × TableDescription)) → 2 ≤ length log - at → t ≡ little_at 2 log at → f ≡ find_table d kind t
      → read_at (table d kind) at log ≡ table_in f t
  unfolding table
  table_met d kind t None h e₁ e₂ = need_met 2 Cut _ at log h ∙ rw (← e₁, ← e₂) (read-refuse NoTable (at + 2) log)
  table_met d kind t (Some (row, r)) h e₁ e₂ = need_met 2 Cut _ at log h ∙ rw (← e₁, ← e₂) (read-give t (at + 2) log)

  module _ (d : Directory) (kind : TableKind) (action : ℕ → LogAction) where
    pub dropped-stop : (answer : Answer) → stopped answer ≡ read_at (table d kind) at log → stopped answer ≡ read_at (dropped_item d kind action) at log
    unfolding dropped_item
    dropped-stop answer e = then_stop (table d kind) (λ n. give (record { action = action n; payload = 0 })) at log answer e

    pub dropped_met : (t : ℕ) → got t (at + 2) ≡ read_at (table d kind) at log → got (record { action = action t; payload = 0 }) (at + 2 + 0) ≡ read_at (dropped_item d kind action) at log
    unfolding dropped_item
    dropped_met t e =
        ap (got (record { action = action t; payload = 0 })) (add-zero (at + 2))
        ∙ sym (read-give (record { action = action t; payload = 0 }) (at + 2) log)
        ∙ then_got (table d kind) (λ n. give (record { action = action n; payload = 0 })) at log t (at + 2) e

  -- ---- the end

  pub ended-short : (validate : Bool) (register : ℕ) → length log - at < 4 → read_at (ended_item validate register) at log ≡ stopped Cut
  unfolding ended_item
  ended-short validate register h = need-short 4 Cut _ at log h

  pub ended_met : (validate : Bool) (register sum : ℕ) → 4 ≤ length log - at → sum ≡ little_at 4 log at
      → read_at (ended_item validate register) at log ≡ tested (sum_holds validate register sum) (got (record { action = EndRecord; payload = 0 }) (at + 4)) WrongSum
  unfolding ended_item
  ended_met validate register sum h e = need_met 4 Cut _ at log h ∙ rw (← e) (test-give WrongSum (at + 4) log (sum_holds validate register sum) _)

  -- ---- openings

  pub begun-short : length log - at < 8 → read_at begun_id at log ≡ stopped EndOfLog
  unfolding begun_id
  begun-short h = need-short 8 EndOfLog _ at log h

  pub begun_met : (id : ℕ) → 8 ≤ length log - at → id ≡ little_at 8 log at → read_at begun_id at log ≡ got id (at + 8)
  unfolding begun_id
  begun_met id h e = need_met 8 EndOfLog _ at log h ∙ rw (← e) (read-give id (at + 8) log)

  pub early-short : (k : ℕ) → length log - at < k → read_at (early k) at log ≡ stopped EndOfLog
  unfolding early
  early-short k h = need-short k EndOfLog _ at log h

  pub early_met : (k : ℕ) → k ≤ length log - at → read_at (early k) at log ≡ stopped OutOfPlace
  unfolding early
  early_met k h = need_met k EndOfLog _ at log h ∙ read-refuse OutOfPlace (at + k) log

  pub early-end-short : (validate : Bool) → length log - at < 4 → read_at (early_end validate) at log ≡ stopped EndOfLog
  unfolding early_end
  early-end-short validate h = need-short 4 EndOfLog _ at log h

  pub early-end_met : (validate : Bool) (sum : ℕ) → 4 ≤ length log - at → sum ≡ little_at 4 log at
      → read_at (early_end validate) at log ≡ tested (not validate || eqb sum (checksum_of (4 ∷ []))) (stopped OutOfPlace) WrongSum
  unfolding early_end
  early-end_met validate sum h e = need_met 4 EndOfLog _ at log h ∙ rw (← e) (test-refuse WrongSum (at + 4) log (not validate || eqb sum (checksum_of (4 ∷ []))) OutOfPlace)

  -- ---- the tag byte

  tag-here : get_or (take 1 (drop at log)) 0 0 ≡ get_or log at 0
  tag-here = rw (get_or-take 1 (drop at log) 0 0 (omega arith), get_or-drop, add-zero)

  module _ (d : Directory) (validate : Bool) (register : ℕ) where
    pub inside-short : length log - at < 1 → read_at (inside d validate register) at log ≡ stopped Cut
    unfolding inside
    inside-short h = need-short 1 Cut _ at log h

    pub inside_met : (tag : ℕ) → 1 ≤ length log - at → get_or log at 0 ≡ tag → read_at (inside d validate register) at log ≡ read_at (inside_by d validate register tag) (at + 1) log
    unfolding inside
    inside_met tag h e = need_met 1 Cut _ at log h ∙ rw (tag-here, e)

  pub opening-short : (validate : Bool) → length log - at < 1 → read_at (opening validate) at log ≡ stopped EndOfLog
  unfolding opening
  opening-short validate h = need-short 1 EndOfLog _ at log h

  pub opening_met : (validate : Bool) (tag : ℕ) → 1 ≤ length log - at → get_or log at 0 ≡ tag → read_at (opening validate) at log ≡ read_at (opening_by validate tag) (at + 1) log
  unfolding opening
  opening_met validate tag h e = need_met 1 EndOfLog _ at log h ∙ rw (tag-here, e)

-- ---- tags that mean nothing

-- four numbers ruled out above a bound (omega takes at most 6 inequations at once)
past : (k : ℕ) {n : ℕ} → k ≤ n → (n ≡ k → ⊥) → (n ≡ k + 1 → ⊥) → (n ≡ k + 2 → ⊥) → (n ≡ k + 3 → ⊥) → k + 4 ≤ n
past k h a b c d = omega arith

-- a tag that is none of 0 to 7
pub no-tag : {tag : ℕ} → (tag ≡ 1 → ⊥) → (tag ≡ 2 → ⊥) → (tag ≡ 3 → ⊥) → (tag ≡ 4 → ⊥) → (tag ≡ 5 → ⊥) → (tag ≡ 6 → ⊥) → (tag ≡ 7 → ⊥) → (tag ≡ 0 → ⊥) → 8 ≤ tag
no-tag {tag} n1 n2 n3 n4 n5 n6 n7 n0 = past 4 (past 0 zero-le n0 n1 n2 n3) n4 n5 n6 n7

module _ (tag : ℕ) (h : 8 ≤ tag) where
  not_tag : (k : ℕ) → k < 8 → eqb tag k ≡ false
  not_tag k l = ne_eqb tag k (λ e. omega arith)

  pub inside-unknown : (d : Directory) (validate : Bool) (register : ℕ) → inside_by d validate register tag ≡ refuse UnknownTag
  unfolding inside_by
  inside-unknown d validate register =
      rw (
        not_tag 1 (omega arith),
        not_tag 2 (omega arith),
        not_tag 3 (omega arith),
        not_tag 4 (omega arith),
        not_tag 5 (omega arith),
        not_tag 6 (omega arith),
        not_tag 7 (omega arith),
      )

  pub opening-unknown : (validate : Bool) → opening_by validate tag ≡ refuse UnknownTag
  unfolding opening_by
  opening-unknown validate =
      rw (
        not_tag 1 (omega arith),
        not_tag 2 (omega arith),
        not_tag 3 (omega arith),
        not_tag 4 (omega arith),
        not_tag 5 (omega arith),
        not_tag 6 (omega arith),
        not_tag 7 (omega arith),
      )

-- ---- a step taken, from what was read

back : (s l : ℕ) → s + l - l ≡ s
back s l = omega arith

pub item_step : (log : List ℕ) (r : LogReader) (i : ReadItem) (g : Got Item) (n : LogReader) → got_item (Ok i) ≡ g → n ≡ reader_after log r i.action (i.start + i.length)
    → Ok (record { action = i.action; start = i.start; length = i.length; reader = n }) ≡ stepped log r g
item_step log r i g n e m = rw (← e, back i.start i.length, m)
