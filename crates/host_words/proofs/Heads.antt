-- What words that are as they should be have: their length, and the ranges that the loads need. Assumes nothing.
use mathlib.Core.Path.{◌≡◌, sym, ◌∙◌}
use mathlib.Core.Bool.{Bool, true, false}
use mathlib.Core.List.{List}
use Prim.Native.Nat.{ℕ, ◌<◌}
use borrow.Author.Tests.{ltb-true, eqb-true, eq-eqb}
use lib.Dec.{ltb, eqb}
use lib.ListN.{length, get_or}
use Rattle.numbers.specs.Numbers.{all_below}
use Rattle.numbers.proofs.Laws.{left-of, right_of}
use Rattle.host_words.specs.Reader.{reader_formed}
use Rattle.host_words.specs.Change.{tables_from, list_formed}

module _ (w : List ℕ) (h : reader_formed w ≡ true) where
  pub reader-length : length w ≡ 5
  unfolding reader_formed
  reader-length = eqb-true _ _ (left-of (eqb (length w) 5) _ h)

  pub reader_register : get_or w 2 0 < 4294967296
  unfolding reader_formed
  reader_register = ltb-true _ _ (left-of (ltb (get_or w 2 0) 4294967296) _ (right_of (eqb (length w) 5) _ h))

module _ (w : List ℕ) (h : list_formed w ≡ true) where
  pub list_length : length w ≡ 38
  unfolding list_formed
  list_length = eqb-true _ _ (left-of (eqb (length w) 38) _ h)

  pub list-drops : all_below 65536 (tables_from w 5) ≡ true
  unfolding list_formed
  list-drops = left-of (all_below 65536 (tables_from w 5)) _ (right_of (eqb (length w) 38) _ h)

  pub list-count-drops : all_below 65536 (tables_from w 22) ≡ true
  unfolding list_formed
  list-count-drops = right_of (all_below 65536 (tables_from w 5)) _ (right_of (eqb (length w) 38) _ h)

-- the test in its parts
module _ (w : List ℕ) (n : length w ≡ 38) (a : Bool) (e : a ≡ all_below 65536 (tables_from w 5)) where
  pub list_ill : a ≡ false → false ≡ list_formed w
  unfolding list_formed
  list_ill h =
      let d : all_below 65536 (tables_from w 5) ≡ false = sym e ∙ h in
      rw (eq-eqb _ _ n, d)

  pub list-rest : (b : Bool) → a ≡ true → b ≡ all_below 65536 (tables_from w 22) → b ≡ list_formed w
  unfolding list_formed
  list-rest b h q =
      let d : all_below 65536 (tables_from w 5) ≡ true = sym e ∙ h in
      rw (eq-eqb _ _ n, d) q
