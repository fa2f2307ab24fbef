-- A validating walk is a walk that doesn't, and then one test of the checksum over all the record's bytes. Assumes nothing.
use mathlib.Core.Path.{◌≡◌, refl, sym, ap, ◌∙◌}
use mathlib.Core.Bool.{Bool, true, false}
use mathlib.Core.List.{List, [], ◌∷◌, ◌++◌}
use Prim.Native.Nat.{ℕ, zero, suc, ◌+◌, ◌-◌, ◌≤◌, ◌<◌}
use native.Mathlib.Omega.{arith}
use lib.Dec.{eqb, ltb}
use lib.ListN.{length, get_or, take, drop}
use lib.Seq.{take-add, drop-drop, drop-cons}
use borrow.Author.Tests.{le-ltb}
use Rattle.words.specs.Words.{little_at}
use Rattle.words.proofs.Choices.{if_true, if_false}
use Rattle.checksum.specs.Checksum.{all_ones, updated, finished, checksum_of}
use Rattle.checksum.proofs.Register.{updated-append}
use Rattle.directory.specs.declared.directory.Directory.{Directory}
use Rattle.record.specs.Format.{Got, stopped, got, read_at}
use Rattle.record.specs.Next.{plain, is_end, forward_to, reader_after, stepped, step_of}
use Rattle.record.specs.Record.{Item, inside}
use Rattle.answer.specs.declared.answer.Answer.TheVariants.{WrongSum}
use Rattle.record.specs.declared.reader.LogReader.{LogReader}
use Rattle.record.proofs.Formats.{within}
use Rattle.record.proofs.Parts.{tested}
use Rattle.effect.specs.Effect.{Written}
use Rattle.answer.specs.Answer.{refusal}
use Rattle.replay.specs.Inner.{Opened}
use Rattle.replay.specs.Replay.{Walked, fault, walked, add_first, by_step, rest_of}
use Rattle.replay.specs.Sum.{sum_held, sum_tested}
use Rattle.replay.proofs.Ends.{EndTag, end_read, summing, inside-sum}
use Rattle.std.specs.Prelude.{Result}
use Rattle.record.specs.declared.reader.Stepped.{Stepped}
use Rattle.answer.specs.declared.answer.Refusal.{Refusal}

-- a step inside a record
pub inside-step : (d : Directory) (log : List ℕ) (r : LogReader) → r.inside ≡ true → r.position ≤ length log
    → step_of d log r ≡ stepped log r (read_at (inside d r.validate r.crc32) r.position log)
unfolding step_of
inside-step d log r b h = if_false (ltb (length log) r.position) _ _ (le-ltb (length log) r.position h) ∙ if_true r.inside _ _ b

-- the parts of a stretch
stretch : (log : List ℕ) (at mid end : ℕ) → at ≤ mid → mid ≤ end → take (end - at) (drop at log) ≡ take (mid - at) (drop at log) ++ take (end - mid) (drop mid log)
stretch log at mid end h k =
    let e : end - at ≡ (mid - at) + (end - mid) = omega arith in
    let f : at + (mid - at) ≡ mid = omega arith in
    rw (e, take-add, drop-drop, f)

-- the checksum over a record up to and including its end tag
pub sum-at : (log : List ℕ) (at pos register : ℕ) → at ≤ pos → pos < length log → get_or log pos 0 ≡ 4 → register ≡ updated all_ones (take (pos - at) (drop at log))
    → finished (updated register (4 ∷ [])) ≡ checksum_of (take (pos + 1 - at) (drop at log))
unfolding checksum_of
sum-at log at pos register h k tag e =
    let one : take (pos + 1 - pos) (drop pos log) ≡ 4 ∷ [] = rw (drop-cons log pos 0, tag) (ap (λ (n : ℕ). take n (4 ∷ drop (suc pos) log)) (z pos)) in
    ap finished
    (ap (λ (x : ℕ). updated x (4 ∷ [])) e
    ∙ sym (updated-append all_ones (take (pos - at) (drop at log)) (4 ∷ []))
    ∙ ap (λ (l : List ℕ). updated all_ones (take (pos - at) (drop at log) ++ l)) (sym one)
    ∙ ap (updated all_ones) (sym (stretch log at pos (pos + 1) h (omega arith))))
  where
    z : (p : ℕ) → p + 1 - p ≡ 1
    z p = omega arith

sum_first : (at : ℕ) (log : List ℕ) (w : Written) (g : Walked (List Written)) → add_first w (sum_tested at log g) ≡ sum_tested at log (add_first w g)
sum_first at log w (fault x) = refl
sum_first at log w (walked ws end) = go (eqb (little_at 4 log (end - 4)) (checksum_of (take (end - 4 - at) (drop at log))))
  where
    go : (b : Bool) → add_first w (sum_held b end ws) ≡ sum_held b end (w ∷ ws)
    go true = refl
    go false = refl

-- an action behind, the reader is as it should be
forward-opened : (log : List ℕ) (at : ℕ) (r : LogReader) (end : ℕ) → Opened log at r → r.position ≤ end → end ≤ length log → Opened log at (forward_to log r end)
unfolding forward_to
forward-opened log at r end o h k =
    record {
      inside = o.inside;
      validates = o.validates;
      behind = omega (arith, o.behind);
      within = k;
      sum =
          if_true r.validate _ _ o.validates
          ∙ ap (λ (x : ℕ). updated x (take (end - r.position) (drop r.position log))) o.sum
          ∙ sym (updated-append all_ones (take (r.position - at) (drop at log)) (take (end - r.position) (drop r.position log)))
          ∙ ap (updated all_ones) (sym (stretch log at r.position end o.behind h));
    }

plain-forward : (log : List ℕ) (r : LogReader) (end : ℕ) → forward_to log (plain r) end ≡ plain (forward_to log r end)
unfolding forward_to
plain-forward log r end = refl

module _ (d : Directory) (log : List ℕ) (at : ℕ) where
  -- one step of each walk, by what the plain one reads
  both : (n : ℕ) → ((r : LogReader) → Opened log at r → rest_of n d log r ≡ sum_tested at log (rest_of n d log (plain r))) → (r : LogReader) → Opened log at r
      → (g : Got Item) → read_at (inside d false all_ones) r.position log ≡ g
      → by_step log (rest_of n d log) (stepped log r (summing r.crc32 r.position log g)) ≡ sum_tested at log (by_step log (rest_of n d log) (stepped log (plain r) g))
  unfolding reader_after
  both n ih r o (stopped answer) q = refl
  both n ih r o (got i end) q = go (is_end i.action) refl
    where
      Goal : Type 0
      Goal = by_step log (rest_of n d log) (stepped log r (summing r.crc32 r.position log (got i end))) ≡ sum_tested at log (by_step log (rest_of n d log) (stepped log (plain r) (got i end)))

      w : Written
      w = record { action = i.action; payload = take i.payload (drop (end - i.payload) log) }

      closing : is_end i.action ≡ true → r.position ≡ end - 5 → (b : Bool) → by_step log (rest_of n d log) (stepped log r (tested b (got i end) WrongSum)) ≡ sum_held b end []
      closing e z true = rw e
      closing e z false = ap {B = Walked (List Written)} (λ (p : ℕ). fault (refusal WrongSum p)) z

      going : is_end i.action ≡ false → (p : LogReader) → by_step log (rest_of n d log) (stepped log p (got i end)) ≡ add_first w (rest_of n d log (forward_to log p end))
      going e p = rw e

      same_test : EndTag r.position end log → r.position < length log
          → eqb (little_at 4 log (r.position + 1)) (finished (updated r.crc32 (4 ∷ []))) ≡ eqb (little_at 4 log (end - 4)) (checksum_of (take (end - 4 - at) (drop at log)))
      same_test t l =
          let z : end - 4 ≡ r.position + 1 = omega (arith, t.closes) in
          rw (z, sum-at log at r.position r.crc32 o.behind l t.tag o.sum)

      go : (b : Bool) → is_end i.action ≡ b → Goal
      go true e =
          let t : EndTag r.position end log = end_read d false all_ones r.position log i end q e in
          let f : end ≤ length log = (within (inside d false all_ones) r.position log i end o.within q).inside in
          let s : eqb (little_at 4 log (r.position + 1)) (finished (updated r.crc32 (4 ∷ []))) ≡ eqb (little_at 4 log (end - 4)) (checksum_of (take (end - 4 - at) (drop at log))) =
          same_test t (omega (arith, t.closes)) in
          rw (e, s) (closing e (omega (arith, t.closes)) (eqb (little_at 4 log (end - 4)) (checksum_of (take (end - 4 - at) (drop at log)))))
      go false e =
          let m = within (inside d false all_ones) r.position log i end o.within q in
          ap (λ (g : Got Item). by_step log (rest_of n d log) (stepped log r g)) (if_false (is_end i.action) _ _ e)
          ∙ going e r
          ∙ ap (add_first w) (ih (forward_to log r end) (forward-opened log at r end o m.behind m.inside))
          ∙ sum_first at log w (rest_of n d log (plain (forward_to log r end)))
          ∙ ap (λ (x : LogReader). sum_tested at log (add_first w (rest_of n d log x))) (sym (plain-forward log r end))
          ∙ ap (sum_tested at log) (sym (going e (plain r)))

  pub sum-rest : (n : ℕ) (r : LogReader) → Opened log at r → rest_of n d log r ≡ sum_tested at log (rest_of n d log (plain r))
  unfolding rest_of
  sum-rest zero r o = refl
  sum-rest (suc n) r o =
      ap (by_step log (rest_of n d log))
      (inside-step d log r o.inside o.within
      ∙ ap (λ (v : Bool). stepped log r (read_at (inside d v r.crc32) r.position log)) o.validates
      ∙ ap (stepped log r) (inside-sum d r.crc32 all_ones r.position log))
      ∙ both n (sum-rest n) r o (read_at (inside d false all_ones) r.position log) refl
      ∙ ap (λ (x : Result Stepped Refusal). sum_tested at log (by_step log (rest_of n d log) x)) (sym (inside-step d log (plain r) o.inside o.within))

-- what the validating walk reads, the plain one reads
pub plain-walked : (d : Directory) (log : List ℕ) (at n : ℕ) (r : LogReader) (ws : List Written) (end : ℕ) → Opened log at r → rest_of n d log r ≡ walked ws end
    → rest_of n d log (plain r) ≡ walked ws end
plain-walked d log at n r ws end o e = by (rest_of n d log (plain r)) (sym (sum-rest d log at n r o) ∙ e)
  where
    held : (b : Bool) (vs : List Written) (k : ℕ) → sum_held b k vs ≡ walked ws end → walked vs k ≡ walked ws end
    held true vs k q = q
    held false vs k q = let z : ◌≡◌ {A = ℕ} 0 1 = cc in absurd (omega arith)

    by : (g : Walked (List Written)) → sum_tested at log g ≡ walked ws end → g ≡ walked ws end
    by (fault x) q = q
    by (walked vs k) q = held (eqb (little_at 4 log (k - 4)) (checksum_of (take (k - 4 - at) (drop at log)))) vs k q
