-- What a call leaves (document 02, "Eight"): on 0 the records kept at the output's front and the lines at the list's, accepted one by one where they
-- stand, and nothing else changed; on any other answer "neither output nor list is touched". Assumes nothing.
use mathlib.Core.Path.{◌≡◌, refl, sym, ap, ◌∙◌}
use mathlib.Core.Bool.{Bool, true, false, ◌&&◌}
use mathlib.Core.List.{List, [], ◌∷◌, ◌++◌, append_assoc}
use Prim.Native.Nat.{ℕ, ◌+◌, ◌*◌, ◌<◌}
use native.Mathlib.Nat.{zero-add, add-zero}
use native.Mathlib.Omega.{arith}
use lib.Dec.{eqb, ltb}
use lib.ListN.{length, take, drop, length-append, length-drop}
use lib.Seq.{take_at, drop_at, length-take-le}
use borrow.Author.Tests.{ltb-false}
use Rattle.std.specs.Prelude.{if◌then◌else◌}
use Rattle.answer.specs.Answer.{number_of}
use Rattle.answer.specs.declared.answer.Answer.TheVariants.{NoRoom, ShortOutput, BadState}
use Rattle.directory.specs.Directory.{directory_kept}
use Rattle.directory.specs.declared.directory.Directory.{Directory}
use Rattle.output.specs.Put.{put}
use Rattle.replay.proofs.Opening.{record_on}
use Rattle.salvaging.specs.declared.lines.Line.{Line}
use Rattle.salvaging.specs.declared.lines.Line.TheVariants.{Kept, Lost}
use Rattle.salvaging.specs.Salvage.{lines_of, words_of_lines, kept_bytes, Left, untouched, salvaged, salvage_by, salvage_of}
use Rattle.salvaging.specs.Meaning.{Covers, covers_end, covers_kept, covers_lost, InTurn, turn_end, turn-lost, turn-kept, Salvages}
use Rattle.salvaging.proofs.Listed.{lines_cover}
use Rattle.salvaging.proofs.Moved.{record_stands}

-- ---- the records kept, one behind the other in other bytes

in_turn : {d : Directory} {log : List ℕ} {at : ℕ} {ls : List Line} → Covers d log at ls → (before behind : List ℕ) (p : ℕ) → length before ≡ p
    → InTurn d log (before ++ (kept_bytes log ls ++ behind)) p ls (p + length (kept_bytes log ls))
unfolding kept_bytes
in_turn (covers_end e) before behind p q = turn_end (sym (add-zero p))
in_turn {d} {log} (covers_kept {at = at} {n = n} {id = id} {ls = ls} ws h e c) before behind p q =
    let bs : List ℕ = take n (drop at log) in
    let o = record_on d log at id ws (at + n) e in
    let l : length bs ≡ n = length-take-le n (drop at log) (rw length-drop (omega (arith, o.inside))) in
    let s : before ++ (bs ++ kept_bytes log ls ++ behind) ≡ before ++ bs ++ (kept_bytes log ls ++ behind) =
    ap (λ (x : List ℕ). before ++ x) (append_assoc bs (kept_bytes log ls) behind) ∙ sym (append_assoc before bs (kept_bytes log ls ++ behind)) in
    let z : p + n + length (kept_bytes log ls) ≡ p + length (bs ++ kept_bytes log ls) = simp length-append (omega (arith, l)) in
    let r = in_turn c (before ++ bs) behind (p + n) (simp length-append (omega (arith, l, q))) in
    let t = record_stands d log at n id ws e before (kept_bytes log ls ++ behind) in
    turn-kept {at = p} {end = p + length (bs ++ kept_bytes log ls)} {n = n} {id = id} {ls = ls} ws e (rw (append_assoc bs (kept_bytes log ls) behind) (rw q at t)) (rw (s, ← z) r)
in_turn (covers_lost h k t c) before behind p q = turn-lost (in_turn c before behind p q)

ends_at : {d : Directory} {log bytes : List ℕ} {at m n : ℕ} {ls : List Line} → m ≡ n → InTurn d log bytes at ls m → InTurn d log bytes at ls n
ends_at e t = rw e at t

-- ---- a list's words

four-each : (ls : List Line) → length (words_of_lines ls) ≡ 4 * length ls
unfolding words_of_lines
four-each [] = refl
four-each (Kept p n id ∷ ls) = omega (arith, four-each ls)
four-each (Lost p n ∷ ls) = omega (arith, four-each ls)

put_front : (old bs : List ℕ) (n : ℕ) → length bs ≡ n → (take n (put old 0 bs) ≡ bs) × (drop n (put old 0 bs) ≡ drop n old)
unfolding put
put_front old bs n e = (take_at bs (drop (0 + length bs) old) n e, drop_at bs (drop (0 + length bs) old) n e ∙ ap (λ (k : ℕ). drop k old) (zero-add (length bs) ∙ e))

-- ---- the answer

module _ (d : Directory) (log out list : List ℕ) where
  abbrev ls : List Line
  ls = lines_of d log

  kept_in_turn : InTurn d log (put out 0 (kept_bytes log ls)) 0 ls (length (kept_bytes log ls))
  unfolding put
  kept_in_turn = ends_at (zero-add (length (kept_bytes log ls))) (in_turn (lines_cover d log) [] (drop (0 + length (kept_bytes log ls)) out) 0 refl)

  -- by the three tests
  abbrev judge : Bool → Bool → Bool → Left
  judge a b c = if a then (if b then untouched NoRoom out list else if c then untouched ShortOutput out list else salvaged log ls out list) else untouched BadState out list

  is-judge : salvage_of d log out list ≡ judge (directory_kept d && eqb (length list) 256) (ltb 64 (length ls)) (ltb (length out) (length (kept_bytes log ls)))
  unfolding salvage_of salvage_by
  is-judge = refl

  -- "A refused call changes no .. output byte"
  pub salvage_refused : 0 < number_of (salvage_of d log out list).answer → ((salvage_of d log out list).out ≡ out) × ((salvage_of d log out list).list ≡ list)
  salvage_refused = rw is-judge (by (directory_kept d && eqb (length list) 256) (ltb 64 (length ls)) (ltb (length out) (length (kept_bytes log ls))))
    where
      by : (a b c : Bool) → 0 < number_of (judge a b c).answer → ((judge a b c).out ≡ out) × ((judge a b c).list ≡ list)
      by false b c h = (refl, refl)
      by true true c h = (refl, refl)
      by true false true h = (refl, refl)
      by true false false h = absurd (omega arith)

  -- THE OUTPUT AND THE LIST
  pub salvage_done : number_of (salvage_of d log out list).answer ≡ 0 → Salvages d log out list (salvage_of d log out list)
  salvage_done = rw is-judge (by (directory_kept d && eqb (length list) 256) (ltb 64 (length ls)) refl (ltb (length out) (length (kept_bytes log ls))) refl)
    where
      by : (a b : Bool) → ltb 64 (length ls) ≡ b → (c : Bool) → ltb (length out) (length (kept_bytes log ls)) ≡ c → number_of (judge a b c).answer ≡ 0 → Salvages d log out list (judge a b c)
      by false b q c r h = absurd (omega arith)
      by true true q c r h = absurd (omega arith)
      by true false q true r h = absurd (omega arith)
      by true false q false r h =
          let o = put_front out (kept_bytes log ls) (length (kept_bytes log ls)) refl in
          let w = put_front list (words_of_lines ls) (4 * length ls) (four-each ls) in
          record {
            lines = refl;
            few = ltb-false 64 (length ls) q;
            written = refl;
            room = ltb-false (length out) (length (kept_bytes log ls)) r;
            front = o.0;
            behind = o.1;
            listed = w.0;
            unlisted = w.1;
            in_turn = kept_in_turn;
          }
