-- The lengths of the memories of parts that keep their rules. Assumes nothing.
use mathlib.Core.Path.{◌≡◌}
use mathlib.Core.Bool.{true}
use mathlib.Core.List.{List}
use Prim.Native.Nat.{ℕ}
use lib.ListN.{length}
use Rattle.memory.specs.Parts.{words_all, bytes_all, parts_kept}
use Rattle.memory.specs.declared.span.Holder.{Holder}
use Rattle.memory.specs.declared.counts.Counts.{Counts}
use Rattle.memory.proofs.Spans.{words-all, bytes-all}
use Rattle.putting.specs.Inner.{parts_at}

pub at_words : (h : Holder) (c : Counts) (words bytes : List ℕ) → parts_kept h (parts_at h c words bytes) ≡ true → length words ≡ words_all h
unfolding parts_at
at_words h c words bytes ok = words-all h c words bytes ok

pub at-bytes : (h : Holder) (c : Counts) (words bytes : List ℕ) → parts_kept h (parts_at h c words bytes) ≡ true → length bytes ≡ bytes_all h
unfolding parts_at
at-bytes h c words bytes ok = bytes-all h c words bytes ok
