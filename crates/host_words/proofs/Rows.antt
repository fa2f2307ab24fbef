-- Laws of a directory from words: the ranges of a row, a row behind another, the rows that are left, a directory that breaks a rule stays one. Assumes nothing.
use mathlib.Core.Path.{◌≡◌, refl, sym, ap, ◌∙◌}
use mathlib.Core.Bool.{Bool, true, false, ◌&&◌}
use mathlib.Core.List.{List, ◌++◌}
use Prim.Native.Nat.{ℕ, zero, suc, ◌+◌, ◌*◌, ◌/◌, ◌%◌, ◌<◌}
use native.Mathlib.Omega.{arith}
use borrow.Author.Tests.{ltb-true, eq-eqb, ne_eqb}
use lib.Dec.{ltb}
use lib.ListN.{length, get_or, length-append}
use Rattle.numbers.proofs.Laws.{left-of, right_of}
use Rattle.directory.specs.Directory.{no_tables}
use Rattle.directory.specs.declared.directory.Directory.{Directory}
use Rattle.std.specs.Prelude.{Option, Some, None}
use Rattle.std.specs.Prelude.{if◌then◌else◌}
use Rattle.host_words.specs.Inner.{row_added, directory_or_broken}
use Rattle.host_words.specs.Tables.{row_formed, row_from, broken_directory, table_added, with_row, rows_from, directory_from}
use Rattle.std.proofs.lemmas.List.{get_or_append_left}
use Rattle.host_words.proofs.RoundTrip.{past-at}

-- what a well-formed row has
pub record Ranges (w : List ℕ) (at : ℕ) : Type 0 where
  pub number : get_or w (at + 1) 0 < 65536
  pub column : get_or w (at + 2) 0 < 256
  pub count : get_or w (at + 3) 0 < 65536
  pub long : get_or w (at + 4) 0 < 65536

pub ranges : (w : List ℕ) (at : ℕ) → row_formed w at ≡ true → Ranges w at
unfolding row_formed
ranges w at h =
    let a = right_of (ltb (get_or w at 0) 3) _ h in
    let b = right_of (ltb (get_or w (at + 1) 0) 65536) _ a in
    let c = right_of (ltb (get_or w (at + 2) 0) 256) _ b in
    let d = right_of (ltb (get_or w (at + 3) 0) 65536) _ c in
    record {
      number = ltb-true _ _ (left-of (ltb (get_or w (at + 1) 0) 65536) _ a);
      column = ltb-true _ _ (left-of (ltb (get_or w (at + 2) 0) 256) _ b);
      count = ltb-true _ _ (left-of (ltb (get_or w (at + 3) 0) 65536) _ c);
      long = ltb-true _ _ (left-of (ltb (get_or w (at + 4) 0) 65536) _ d);
    }

module _ (x w : List ℕ) (six : length x ≡ 6) where
  -- a row behind another
  behind : (i k : ℕ) → get_or (x ++ w) (6 * (i + 1) + k) 0 ≡ get_or w (6 * i + k) 0
  behind i k = ap (λ (n : ℕ). get_or (x ++ w) n 0) (omega arith) ∙ past-at x w 6 six (6 * i + k)

  here : (i : ℕ) → get_or (x ++ w) (6 * (i + 1)) 0 ≡ get_or w (6 * i) 0
  here i = ap (λ (n : ℕ). get_or (x ++ w) n 0) (omega arith) ∙ past-at x w 6 six (6 * i)

  formed_behind : (i : ℕ) → row_formed (x ++ w) (6 * (i + 1)) ≡ row_formed w (6 * i)
  unfolding row_formed
  formed_behind i = rw (here i, behind i 1, behind i 2, behind i 3, behind i 4, behind i 5)

  pub with_behind : (i : ℕ) (d : Directory) → with_row d (x ++ w) (6 * (i + 1)) ≡ with_row d w (6 * i)
  unfolding with_row
  with_behind i d = rw (formed_behind i, here i, behind i 1, behind i 2, behind i 3, behind i 4)

  pub rows_behind : (m i : ℕ) (d : Directory) → rows_from m (i + 1) (x ++ w) d ≡ rows_from m i w d
  unfolding rows_from
  rows_behind zero i d = refl
  rows_behind (suc m) i d = rw with_behind (rows_behind m (i + 1) _)

-- a directory that breaks a rule, whatever rows follow
pub rows_broken : (m i : ℕ) (w : List ℕ) → rows_from m i w broken_directory ≡ broken_directory
unfolding rows_from with_row
rows_broken zero i w = refl
rows_broken (suc m) i w = rows_broken m (i + 1) w

-- a row in front of others
module _ (x w : List ℕ) (six : length x ≡ 6) where
  front : (k : ℕ) → k < 6 → get_or (x ++ w) k 0 ≡ get_or x k 0
  front k h = get_or_append_left x w 0 k (omega arith)

  formed_front : row_formed (x ++ w) 0 ≡ row_formed x 0
  unfolding row_formed
  formed_front = rw (front 0 (omega arith), front 1 (omega arith), front 2 (omega arith), front 3 (omega arith), front 4 (omega arith), front 5 (omega arith))

  with_front : (d : Directory) → with_row d (x ++ w) 0 ≡ with_row d x 0
  unfolding with_row
  with_front d = rw (formed_front, front 0 (omega arith), front 1 (omega arith), front 2 (omega arith), front 3 (omega arith), front 4 (omega arith))

-- the rows that are left, as the directory that comes of them
abbrev pub rows_left : List ℕ → Directory → Directory
rows_left w d = rows_from (length w / 6) 0 w d

-- one row of them
pub rows_turn : (x w : List ℕ) (d : Directory) → length x ≡ 6 → rows_left (x ++ w) d ≡ rows_left w (with_row d x 0)
unfolding rows_from
rows_turn x w d six =
    let e : length (x ++ w) / 6 ≡ suc (length w / 6) = omega (arith, length-append x w) in
    ap (λ (n : ℕ). rows_from n 0 (x ++ w) d) e
    ∙ rows_behind x w six (length w / 6) 0 (with_row d (x ++ w) 0)
    ∙ ap (rows_from (length w / 6) 0 w) (with_front x w six d)

-- a row read is a row added, or none
pub row_read_as : (d : Directory) (x : List ℕ) → length x ≡ 6 → with_row d x 0 ≡ directory_or_broken (row_added d x)
unfolding with_row
row_read_as d x six = rw (eq-eqb _ _ six) (go (ltb d.count 16 && row_formed x 0))
  where
    go : (b : Bool) → (if b then table_added d (row_from x 0) else broken_directory) ≡ directory_or_broken (if b then Some (table_added d (row_from x 0)) else None)
    go true = refl
    go false = refl

module _ (rows x rest : List ℕ) (d z : Directory) (r : Option Directory) (e : rows ≡ x ++ rest) (six : length x ≡ 6) (added : r ≡ row_added d x) (left : rows_left rows d ≡ z) where
  pub row_next : rows_left rest (directory_or_broken r) ≡ z
  row_next =
      ap (rows_left rest) (ap directory_or_broken added ∙ sym (row_read_as d x six))
      ∙ sym (rows_turn x rest d six) ∙ ap (λ (w : List ℕ). rows_left w d) (sym e) ∙ left

  pub row_refused : r ≡ None → broken_directory ≡ z
  row_refused n = sym (rows_broken (length rest / 6) 0 rest) ∙ ap (λ (o : Option Directory). rows_left rest (directory_or_broken o)) (sym n) ∙ row_next

  pub row_taken : {t : Directory} → r ≡ Some t → rows_left rest t ≡ z
  row_taken n = ap (λ (o : Option Directory). rows_left rest (directory_or_broken o)) (sym n) ∙ row_next

pub row_whole : {rows : List ℕ} (x rest : List ℕ) → rows ≡ x ++ rest → length x ≡ 6 → length rows % 6 ≡ 0 → length rest % 6 ≡ 0
row_whole x rest e six h = omega (arith, ap length e, length-append x rest)

pub rows_none : (w : List ℕ) (d : Directory) → length w < 6 → length w % 6 ≡ 0 → rows_left w d ≡ d
unfolding rows_from
rows_none w d few whole =
    let e : length w / 6 ≡ 0 = omega arith in
    ap (λ (n : ℕ). rows_from n 0 w d) e

pub directory-whole : (w : List ℕ) → length w % 6 ≡ 0 → directory_from w ≡ rows_left w no_tables
unfolding directory_from
directory-whole w h = rw (eq-eqb _ _ h)

pub directory-odd : (w : List ℕ) → (length w % 6 ≡ 0 → ⊥) → directory_from w ≡ broken_directory
unfolding directory_from
directory-odd w h = rw (ne_eqb _ _ h)
