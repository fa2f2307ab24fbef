-- The call, by what the list says. Assumes nothing.
use mathlib.Core.Path.{◌≡◌, sym, ap, ◌∙◌}
use mathlib.Core.Bool.{true, false}
use mathlib.Core.List.{List}
use Prim.Native.Nat.{ℕ, ◌+◌, ◌≤◌, ◌<◌}
use native.Mathlib.Omega.{arith}
use lib.Dec.{ltb}
use lib.ListN.{length, take}
use borrow.Author.Tests.{lt-ltb, le-ltb, eq-eqb, ne_eqb}
use Rattle.std.specs.Prelude.{Ok, Err}
use Rattle.words.proofs.Choices.{if_true, if_false}
use Rattle.answer.specs.declared.answer.Answer.TheVariants.{Done, NoRoom, ShortOutput, BadState}
use Rattle.directory.specs.Directory.{directory_kept}
use Rattle.directory.specs.declared.directory.Directory.{Directory}
use Rattle.output.specs.Put.{put}
use Rattle.replay.proofs.Opening.{record_on}
use Rattle.salvaging.specs.declared.lines.Line.{Line}
use Rattle.salvaging.specs.Salvage.{lines_of, words_of_lines, kept_bytes, salvaged, salvage_by, salvage_of, left_of}
use Rattle.salvaging.specs.Meaning.{Covers, covers_end, covers_kept, covers_lost}
use Rattle.salvaging.specs.Inner.{AllWithin, Holds}
use Rattle.salvaging.specs.declared.lines.Lines.{Lines}
use Rattle.salvaging.proofs.Listed.{lines_cover}

-- each record kept lies in the log
covered-within : {d : Directory} {log : List ℕ} {at : ℕ} {ls : List Line} → Covers d log at ls → AllWithin (length log) ls
covered-within (covers_end e) = tt
covered-within {d} {log} (covers_kept {at = at} {n = n} {id = id} ws h e c) = ((record_on d log at id ws (at + n) e).inside, covered-within c)
covered-within (covers_lost h k t c) = covered-within c

module _ (d : Directory) (log out list : List ℕ) where
  -- 9
  pub over-64 : 64 < length (lines_of d log) → left_of (Err NoRoom) out list ≡ salvage_by log (lines_of d log) out list
  unfolding left_of salvage_by
  over-64 m = sym (if_true (ltb 64 (length (lines_of d log))) _ _ (lt-ltb 64 (length (lines_of d log)) m))

-- where `salvage_kept` answers 9
pub ruleset no_room = (over-64)

module _ (d : Directory) (log out list : List ℕ) where
  module _ (l : Lines) (h : Holds log l (lines_of d log)) where
    not_over : ltb 64 (length (lines_of d log)) ≡ false
    not_over = le-ltb 64 (length (lines_of d log)) (omega (arith, h.room, h.count))

    -- 10
    pub short-output : length out < l.bytes → left_of (Err ShortOutput) out list ≡ salvage_by log (lines_of d log) out list
    unfolding left_of salvage_by
    short-output k =
        sym (if_false (ltb 64 (length (lines_of d log))) _ _ not_over
        ∙ if_true (ltb (length out) (length (kept_bytes log (lines_of d log)))) _ _ (lt-ltb (length out) _ (omega (arith, h.bytes))))

    -- what is put is known to fit
    pub all-within : (ls : List Line) → ls ≡ take l.count l.lines → AllWithin (length log) ls
    all-within ls e = rw (e ∙ h.lines) (covered-within (lines_cover d log))

    pub all-put : (ls ms : List Line) → ls ≡ take l.count l.lines → ms ≡ take l.count l.lines → l.bytes ≤ length out
        → (out' list' : List ℕ) → out' ≡ put out 0 (kept_bytes log ls) → list' ≡ put list 0 (words_of_lines ms)
        → left_of (Ok (record { lines = l.count; written = l.bytes })) out' list' ≡ salvage_by log (lines_of d log) out list
    unfolding left_of salvage_by
    all-put ls ms e f k out' list' p q =
        same
        ∙ sym (if_false (ltb 64 (length (lines_of d log))) _ _ not_over
        ∙ if_false (ltb (length out) (length (kept_bytes log (lines_of d log)))) _ _ (le-ltb (length out) _ (omega (arith, h.bytes))))
      where
        words : list' ≡ put list 0 (words_of_lines (lines_of d log))
        words = q ∙ ap (λ (x : List Line). put list 0 (words_of_lines x)) (f ∙ h.lines)

        bytes : out' ≡ put out 0 (kept_bytes log (lines_of d log))
        bytes = p ∙ ap (λ (x : List Line). put out 0 (kept_bytes log x)) (e ∙ h.lines)

        same : record { answer = Done; lines = l.count; written = l.bytes; out = out'; list = list' } ≡ salvaged log (lines_of d log) out list
        same = rw (words, bytes, h.count, h.bytes)

-- ---- 13

module _ (d : Directory) (log out list : List ℕ) where
  pub bad_directory : directory_kept d ≡ false → left_of (Err BadState) out list ≡ salvage_of d log out list
  unfolding left_of salvage_of
  bad_directory k = sym (rw k)

  module _ (k : directory_kept d ≡ true) where
    pub bad_memory : (length list ≡ 256 → ⊥) → left_of (Err BadState) out list ≡ salvage_of d log out list
    unfolding left_of salvage_of
    bad_memory n = sym (rw (k, ne_eqb (length list) 256 n))

    -- behind the test the kept form
    pub door : length list ≡ 256 → salvage_by log (lines_of d log) out list ≡ salvage_of d log out list
    unfolding salvage_of
    door n = sym (rw (k, eq-eqb (length list) 256 n))
