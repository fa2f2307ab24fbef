-- "the largest record is 50,526 bytes": no list passes it (`record_size_max`, crate change), and this one reaches it. Assumes nothing.
use mathlib.Core.Path.{◌≡◌, refl, ◌∙◌}
use mathlib.Core.Bool.{true}
use mathlib.Core.List.{List, [], ◌∷◌}
use Prim.Native.Nat.{ℕ, zero, suc, ◌<◌}
use native.Mathlib.Omega.{arith}
use lib.Count.{ones-ones}
use lib.Dec.{ltb}
use lib.ListN.{length, replicate}
use borrow.Author.Tests.{ltb-true}
use Rattle.directory.specs.Table.{is_table, table_kept}
use Rattle.directory.specs.Directory.{find_from, find_table, stands, each_kept, apart, directory_kept}
use Rattle.numbers.proofs.Laws.{left-of, right_of}
use Rattle.keys.specs.Keys.{keys_of, all_under_of, ruled}
use Rattle.overlay.specs.Rules.{row_ruled, keys_ruled, overlay_kept}
use Rattle.memory.specs.Parts.{parts_kept}
use Rattle.change.specs.Change.{change_ruled, entry_fits, entries_fit, drops_fit, change_fits, change_kept}
use Rattle.change.specs.Size.{places_size, entries_size, record_size}
use Rattle.change.proofs.Rules.{kept-ruled}
use Rattle.writer.specs.Bytes.{record_of}
use Rattle.writer.specs.Typed.{Typed}
use Rattle.writer.proofs.Sizes.{length_record}
use Rattle.writer.proofs.Words.{Below, typed}
use Rattle.cases.specs.Full.{full_tables, full_words, full_head, full_list}

pub full-kept : change_kept full_tables full_list ≡ true
unfolding change_kept directory_kept each_kept table_kept apart stands is_table change_ruled parts_kept overlay_kept keys_ruled ruled keys_of row_ruled change_fits entries_fit entry_fits drops_fit find_table find_from
full-kept = refl

largest : record_size full_list ≡ 50526
unfolding record_size entries_size places_size
largest = rw (ones-ones 64)

-- it is a list that the types admit, so its record has that many bytes
below : (n : ℕ) → 0 < n → (l : List ℕ) → all_under_of n l ≡ true → Below n l
below n z [] e i = z
below n z (a ∷ l) e zero = ltb-true a n (left-of (ltb a n) (all_under_of n l) e)
below n z (a ∷ l) e (suc i) = below n z l (right_of (ltb a n) (all_under_of n l) e) i

full_typed : Typed full_list
full_typed =
    let z : 0 < 65536 = omega arith in
    typed full_head full_words (replicate 49152 0) (below 18446744073709551616 (omega arith) full_words refl) (omega arith) (below 65536 z (replicate 16 1) refl) (below 65536 z (replicate 16 1) refl) refl refl

pub largest_record : length (record_of full_list) ≡ 50526
largest_record = length_record full_list (kept-ruled full_tables full_list full-kept) full_typed ∙ largest
