-- The rule test of all three kinds, a return at a time. Assumes nothing.
use mathlib.Core.Path.{◌≡◌, refl, sym, ◌∙◌}
use mathlib.Core.Bool.{Bool, true, false, ◌&&◌}
use mathlib.Core.List.{List}
use Prim.Native.Nat.{ℕ}
use native.Mathlib.Omega.{arith}
use lib.ListN.{drop, length, length-drop}
use borrow.Author.Tests.{eq-eqb}
use Rattle.directory.specs.declared.table.TableKind.{TableKind}
use Rattle.directory.specs.declared.table.TableKind.TheVariants.{Index, Value, RefCount}
use Rattle.overlay.specs.Rules.{overlay_kept}
use Rattle.memory.specs.declared.counts.Counts.{Counts}
use Rattle.memory.specs.declared.span.Holder.{Holder}
use Rattle.memory.specs.Parts.{span_of, words_all, bytes_all, part_of, parts_of, parts_kept}
use Rattle.memory.proofs.Spans.{words-all, bytes-all}

module _ (h : Holder) (c : Counts) (words bytes : List ℕ) where
  refused : (parts_kept h (parts_of h c words bytes) ≡ true → ⊥) → false ≡ parts_kept h (parts_of h c words bytes)
  refused never = by (parts_kept h (parts_of h c words bytes)) refl
    where
      by : (b : Bool) → parts_kept h (parts_of h c words bytes) ≡ b → false ≡ parts_kept h (parts_of h c words bytes)
      by true e = absurd (never e)
      by false e = sym e

  pub other-words : (length words ≡ words_all h → ⊥) → false ≡ parts_kept h (parts_of h c words bytes)
  other-words ne = refused (λ ok. ne (words-all h c words bytes ok))

  pub other-bytes : (length bytes ≡ bytes_all h → ⊥) → false ≡ parts_kept h (parts_of h c words bytes)
  other-bytes ne = refused (λ ok. ne (bytes-all h c words bytes ok))

  none-behind : (n : ℕ) (l : List ℕ) → length l ≡ n → length (drop n l) ≡ 0
  none-behind n l e = length-drop n l ∙ omega (arith, e)

  module _ (wl : length words ≡ words_all h) (bl : length bytes ≡ bytes_all h) where
    abbrev ruled : TableKind → Bool
    ruled kind = overlay_kept kind (span_of h kind).room (part_of h kind c words bytes)

    three : ruled Index && (ruled Value && ruled RefCount) ≡ parts_kept h (parts_of h c words bytes)
    unfolding parts_kept
    three = sym (rw (eq-eqb (length (drop (words_all h) words)) 0 (none-behind (words_all h) words wl), eq-eqb (length (drop (bytes_all h) bytes)) 0 (none-behind (bytes_all h) bytes bl)))

    pub index-fails : ruled Index ≡ false → false ≡ parts_kept h (parts_of h c words bytes)
    index-fails e = rw e at three

    pub value-fails : ruled Index ≡ true → ruled Value ≡ false → false ≡ parts_kept h (parts_of h c words bytes)
    value-fails d e = rw (d, e) at three

    pub last_says : ruled Index ≡ true → ruled Value ≡ true → ruled RefCount ≡ parts_kept h (parts_of h c words bytes)
    last_says d e = rw (d, e) at three
