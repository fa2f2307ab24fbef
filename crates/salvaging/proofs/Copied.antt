-- The records that lines keep, and the lines in words, a line at a time. Assumes nothing.
use mathlib.Core.Path.{◌≡◌, refl, ap, ◌∙◌}
use mathlib.Core.List.{List, [], ◌∷◌, ◌++◌}
use Prim.Native.Nat.{ℕ, suc, ◌+◌, ◌*◌, ◌-◌, ◌≤◌, ◌<◌}
use native.Mathlib.Numerals.{add-one}
use native.Mathlib.Omega.{arith}
use lib.ListN.{length, take, drop, get_or, drop_of_length-le}
use lib.Seq.{drop-cons, take_all}
use borrow.Rule.Slice.PartMut.{put_mid}
use Rattle.std.proofs.lemmas.Slice.{put_mid-paste}
use Rattle.output.specs.Put.{put, Wrote}
use Rattle.output.proofs.Laws.{rest, room, none_left}
use Rattle.salvaging.specs.declared.lines.Line.{Line}
use Rattle.salvaging.specs.declared.lines.Line.TheVariants.{Kept, Lost}
use Rattle.salvaging.specs.Salvage.{words_of, words_of_lines, line_bytes, kept_bytes}
use Rattle.salvaging.specs.Inner.{AllWithin}

module _ (ls : List Line) (i : ℕ) (h : i < length ls) where
  turn : (x : Line) → get_or ls i (Kept 0 0 0) ≡ x → drop i ls ≡ x ∷ drop (i + 1) ls
  turn x q = rw add-one (drop-cons ls i (Kept 0 0 0) h ∙ ap (λ (y : Line). y ∷ drop (suc i) ls) q)

  -- ---- the bytes of the records kept

  module _ (log : List ℕ) where
    abbrev x : Line
    x = get_or ls i (Kept 0 0 0)

    bytes-behind : kept_bytes log (drop i ls) ≡ line_bytes log x ++ kept_bytes log (drop (i + 1) ls)
    unfolding kept_bytes
    bytes-behind = ap (kept_bytes log) (turn x refl)

    split : (y : Line) (ys : List Line) → AllWithin (length log) (y ∷ ys) → AllWithin (length log) (y ∷ []) × AllWithin (length log) ys
    split (Kept p n id) ys w = ((w.0, tt), w.1)
    split (Lost p n) ys w = (tt, w)

    pub line-within : AllWithin (length log) (drop i ls) → AllWithin (length log) (x ∷ []) × AllWithin (length log) (drop (i + 1) ls)
    line-within w = split x (drop (i + 1) ls) (rw (turn x refl) at w)

    module _ {o : List ℕ} {at : ℕ} {z : List ℕ} {e : ℕ} (w : Wrote o at (kept_bytes log (drop i ls)) z e) where
      pub record-room : at + length (line_bytes log x) ≤ e
      record-room = room (line_bytes log x) (kept_bytes log (drop (i + 1) ls)) (rw bytes-behind at w)

      pub record-rest : {m : List ℕ} {r : ℕ} → Wrote o at (line_bytes log x) m r → Wrote m r (kept_bytes log (drop (i + 1) ls)) z e
      record-rest k = rest (rw bytes-behind at w) k

  -- ---- the lines in words

  four : (x : Line) → length (words_of x) ≡ 4
  four (Kept p n id) = refl
  four (Lost p n) = refl

  part-put : (old ys : List ℕ) (at n : ℕ) → length ys ≡ n → put_mid at (at + n - at) old ys ≡ put old at ys
  unfolding put
  part-put old ys at n e =
      put_mid-paste at (at + n - at) old ys ys (length ys) refl (omega arith) refl
      ∙ ap (λ (l : List ℕ). take at old ++ l ++ drop (at + length ys) old) (take_all (length ys) ys (omega arith))

  pub line-rest : {o z : List ℕ} {e : ℕ} → Wrote o (4 * i) (words_of_lines (drop i ls)) z e
      → (ys : List ℕ) → ys ≡ words_of (get_or ls i (Kept 0 0 0)) → Wrote (put_mid (4 * i) (4 * i + 4 - 4 * i) o ys) (4 * (i + 1)) (words_of_lines (drop (i + 1) ls)) z e
  unfolding words_of_lines
  line-rest {o} {z} {e} w ys q =
      let x : Line = get_or ls i (Kept 0 0 0) in
      let n : length ys ≡ 4 = ap length q ∙ four x in
      let t : words_of_lines (drop i ls) ≡ words_of x ++ words_of_lines (drop (i + 1) ls) = ap words_of_lines (turn x refl) in
      rest (rw t at w) (record { next = omega (arith, four x); bytes = part-put o ys (4 * i) 4 n ∙ ap (put o (4 * i)) q })

-- ---- where nothing is left, all is written

module _ (ls : List Line) (i : ℕ) (h : length ls ≤ i) where
  none : drop i ls ≡ []
  none = drop_of_length-le ls {i = i} h

  pub records-done : (log l bs : List ℕ) {m : List ℕ} {r : ℕ} → Wrote m r (kept_bytes log (drop i ls)) (put l 0 bs) (0 + length bs) → m ≡ put l 0 bs
  unfolding kept_bytes
  records-done log l bs w = (none_left (rw none at w)).bytes

  pub lines-done : (l bs : List ℕ) {m : List ℕ} {r : ℕ} → Wrote m r (words_of_lines (drop i ls)) (put l 0 bs) (0 + length bs) → m ≡ put l 0 bs
  unfolding words_of_lines
  lines-done l bs w = (none_left (rw none at w)).bytes
