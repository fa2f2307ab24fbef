-- Words that were stored load as what was stored: `load (store v) ≡ v`. What a state's types say of it (lengths of arrays, ranges) is asked.
-- Assumes nothing.
use mathlib.Core.Path.{◌≡◌, refl, sym, ap, ◌∙◌}
use mathlib.Core.Bool.{Bool, true, false}
use mathlib.Core.List.{List, ◌++◌}
use Prim.Native.Nat.{ℕ, ◌+◌, ◌<◌}
use native.Mathlib.Omega.{arith}
use borrow.Author.Tests.{lt-ltb, eq-eqb}
use lib.Dec.{ltb}
use lib.ListN.{length, take, drop, get_or, length-append}
use lib.Seq.{take_all, take_at, drop_at, drop-drop, get_or-drop}
use Rattle.words.proofs.Choices.{if_true}
use Rattle.numbers.specs.Numbers.{one_if, all_below}
use Rattle.numbers.proofs.Laws.{both}
use Rattle.record.specs.declared.reader.LogReader.{LogReader}
use Rattle.memory.specs.declared.overlays.LogOverlays.{LogOverlays}
use Rattle.change.specs.declared.change.LogChange.{LogChange}
use Rattle.host_words.specs.Head.{flag_from}
use Rattle.host_words.specs.Reader.{reader_formed, reader_from, reader_words}
use Rattle.host_words.specs.Change.{tables_from, list_formed, list_from, drops_words, list_words_of}
use Rattle.host_words.specs.Overlays.{overlays_head, overlays_from, overlays_words}

pub flag_round : (b : Bool) → flag_from (one_if b) ≡ b
flag_round true = refl
flag_round false = refl

pub flag_low : (b : Bool) → ltb (one_if b) 2 ≡ true
flag_low true = refl
flag_low false = refl

-- what stands behind a list of known length
module _ (a b : List ℕ) (n : ℕ) (e : length a ≡ n) where
  pub past : (k : ℕ) → drop (n + k) (a ++ b) ≡ drop k b
  past k = sym (drop-drop k n (a ++ b)) ∙ ap (drop k) (drop_at a b n e)

  pub past-at : (k : ℕ) → get_or (a ++ b) (n + k) 0 ≡ get_or b k 0
  past-at k = sym (get_or-drop n (a ++ b) k 0) ∙ ap (λ (l : List ℕ). get_or l k 0) (drop_at a b n e)

-- a reader
pub reader_round : (r : LogReader) → reader_from (reader_words r) ≡ r
reader_round r = rw (flag_round r.validate, flag_round r.inside)

pub reader-stored : (r : LogReader) → r.crc32 < 4294967296 → reader_formed (reader_words r) ≡ true
unfolding reader_formed
reader-stored r h = rw (lt-ltb _ _ h, flag_low r.validate, flag_low r.inside)

-- the overlays' head
pub overlays_round : (o : LogOverlays) → length o.last_record_ids ≡ 8 → overlays_from (overlays_words o) ≡ o
unfolding overlays_from
overlays_round o h =
    if_true _ _ _ (eq-eqb (length (overlays_words o)) 11 (omega arith)) ∙ ap (overlays_head o.counts) (take_all 8 o.last_record_ids (omega arith))

-- a list's head
module _ (l : LogChange) (a : length l.dropped_tables.tables ≡ 16) (b : length l.dropped_ref_count_tables.tables ≡ 16) where
  abbrev first : List ℕ
  first = l.dropped_tables.tables

  abbrev rest : List ℕ
  rest = drops_words l.dropped_ref_count_tables

  first-is : tables_from (list_words_of l) 5 ≡ first
  first-is = take_at first rest 16 a

  second_is : tables_from (list_words_of l) 22 ≡ l.dropped_ref_count_tables.tables
  second_is = ap (take 16) (past first rest 16 a 1) ∙ take_all 16 l.dropped_ref_count_tables.tables (omega arith)

  count-is : get_or (list_words_of l) 21 0 ≡ l.dropped_ref_count_tables.count
  count-is = past-at first rest 16 a 0

  list-long : length (list_words_of l) ≡ 38
  list-long = omega (arith, length-append first rest)

  pub list_round : all_below 65536 first ≡ true → all_below 65536 l.dropped_ref_count_tables.tables ≡ true → list_from (list_words_of l) ≡ l
  unfolding list_from list_formed
  list_round p q =
      if_true _ _ _ (both (eq-eqb (length (list_words_of l)) 38 list-long) (both (ap (all_below 65536) first-is ∙ p) (ap (all_below 65536) second_is ∙ q)))
      ∙ rw (first-is, second_is, count-is)
