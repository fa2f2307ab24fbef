-- A list's words from words of zeros, written part by part. Assumes nothing.
use mathlib.Core.Path.{◌≡◌, refl, ap, ◌∙◌}
use mathlib.Core.List.{List, ◌∷◌, ◌++◌, append-nil}
use Prim.Native.Nat.{ℕ}
use native.Mathlib.Omega.{arith}
use lib.ListN.{length, take, drop, replicate, length-append}
use Rattle.change.specs.declared.change.LogChange.{LogChange}
use Rattle.host_words.specs.Change.{counts_words, drops_words, list_words_of}
use Rattle.host_words.proofs.Arrays.{part_written}

module _ (l : LogChange) (first : length l.dropped_tables.tables ≡ 16) (second : length l.dropped_ref_count_tables.tables ≡ 16) where
  abbrev a : List ℕ
  a = l.record_id ∷ counts_words l.counts

  abbrev b : List ℕ
  b = drops_words l.dropped_tables

  abbrev d : List ℕ
  d = drops_words l.dropped_ref_count_tables

  abbrev with_counts : List ℕ
  with_counts = a ++ (replicate 17 0 ++ replicate 17 0)

  abbrev with_drops : List ℕ
  with_drops = take 4 with_counts ++ (b ++ drop 17 (drop 4 with_counts))

  so_far : with_drops ≡ (a ++ b) ++ replicate 17 0
  so_far = part_written a (replicate 17 0 ++ replicate 17 0) b 4 17 refl

  pub laid : take 21 with_drops ++ (d ++ drop 17 (drop 21 with_drops)) ≡ list_words_of l
  laid = ap (λ (w : List ℕ). take 21 w ++ (d ++ drop 17 (drop 21 w))) so_far ∙ part_written (a ++ b) (replicate 17 0) d 21 17 (omega (arith, length-append a b)) ∙ ap (λ (w : List ℕ). (a ++ b) ++ w) (append-nil d)
