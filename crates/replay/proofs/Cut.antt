-- A record looks at nothing behind itself: it is the same in a log that is cut or goes on otherwise behind it. Assumes nothing.
use mathlib.Core.Path.{◌≡◌, refl, sym, ap, ◌∙◌}
use mathlib.Core.Bool.{Bool, true, false}
use mathlib.Core.List.{List, [], ◌∷◌, ◌++◌, append_assoc}
use Prim.Native.Nat.{ℕ, zero, suc, ◌+◌, ◌-◌, ◌≤◌}
use native.Mathlib.Omega.{arith}
use lib.ListN.{length, take, drop, length-append}
use lib.Seq.{take-add, length-take-le}
use Rattle.words.proofs.Choices.{if_true, if_false}
use Rattle.directory.specs.declared.directory.Directory.{Directory}
use Rattle.record.specs.Next.{is_end, reader_at, step_of}
use Rattle.record.specs.declared.reader.LogReader.{LogReader}
use Rattle.record.specs.declared.reader.Stepped.{Stepped}
use Rattle.record.proofs.Formats.{same-part}
use Rattle.record.proofs.Steps.{step-on, step_local}
use Rattle.effect.specs.Effect.{Written}
use Rattle.effect.proofs.Sized.{payload-sized}
use Rattle.replay.specs.Replay.{Walked, fault, walked, written_in, add_first, by_step, rest_of, record_at}
use Rattle.replay.proofs.Opening.{opening, Whole, whole_record, record_whole}
use Rattle.replay.proofs.Places.{going, EndsIn, ends_in}
use Rattle.replay.proofs.Rest.{enough}
use Rattle.std.specs.Prelude.{Result, Ok, Err}
use Rattle.answer.specs.declared.answer.Refusal.{Refusal}

-- more steps than a walk needs change nothing of it
pub rest_more : (d : Directory) (log : List ℕ) (n m : ℕ) (r : LogReader) (ws : List Written) (end : ℕ) → n ≤ m → rest_of n d log r ≡ walked ws end → rest_of m d log r ≡ walked ws end
unfolding rest_of
rest_more d log zero m r ws end h e = let z : ◌≡◌ {A = ℕ} 0 1 = cc in absurd (omega arith)
rest_more d log (suc n) zero r ws end h e = absurd (omega arith)
rest_more d log (suc n) (suc m) r ws end h e = go (step_of d log r) refl e (λ k vs. rest_more d log n m k vs end (omega arith))
  where
    same : (w : Written) (g h : Walked (List Written)) → ((vs : List Written) → g ≡ walked vs end → h ≡ walked vs end) → add_first w g ≡ walked ws end → add_first w h ≡ walked ws end
    same w (fault x) h k f = let z : ◌≡◌ {A = ℕ} 0 1 = cc in absurd (omega arith)
    same w (walked vs x) h k f = let p : x ≡ end = cc in ap (add_first w) (k vs (ap (walked vs) p)) ∙ sym (ap (walked (w ∷ vs)) p) ∙ f

    by : (s : Stepped) → (t : Bool) → is_end s.action ≡ t → by_step log (rest_of n d log) (Ok s) ≡ walked ws end
        → ((k : LogReader) (vs : List Written) → rest_of n d log k ≡ walked vs end → rest_of m d log k ≡ walked vs end) → by_step log (rest_of m d log) (Ok s) ≡ walked ws end
    by s true t f ih = if_true (is_end s.action) _ _ t ∙ sym (if_true (is_end s.action) _ _ t) ∙ f
    by s false t f ih =
        if_false (is_end s.action) _ _ t
        ∙ same (written_in log s) (rest_of n d log s.reader) (rest_of m d log s.reader) (ih s.reader) (sym (if_false (is_end s.action) _ _ t) ∙ f)

    go : (st : Result Stepped Refusal) → step_of d log r ≡ st → by_step log (rest_of n d log) st ≡ walked ws end
        → ((k : LogReader) (vs : List Written) → rest_of n d log k ≡ walked vs end → rest_of m d log k ≡ walked vs end) → by_step log (rest_of m d log) (step_of d log r) ≡ walked ws end
    go (Err x) q f ih = ap (by_step log (rest_of m d log)) q ∙ f
    go (Ok s) q f ih = ap (by_step log (rest_of m d log)) q ∙ by s (is_end s.action) refl f ih

pub rest_any : (d : Directory) (log : List ℕ) (n : ℕ) (r : LogReader) (ws : List Written) (end : ℕ) → rest_of n d log r ≡ walked ws end → rest_of (suc (length log)) d log r ≡ walked ws end
rest_any d log n r ws end e =
    enough d log (suc (length log)) (n + suc (length log)) r (omega arith) (omega arith) ∙ rest_more d log n (n + suc (length log)) r ws end (omega arith) e

module _ (d : Directory) (log more : List ℕ) (k : ℕ) (cut : k ≤ length log) where
  -- the log cut at k, and other bytes behind
  abbrev other : List ℕ
  other = take k log ++ more

  pub step_cut : (r : LogReader) (s : Stepped) → step_of d log r ≡ Ok s → s.reader.position ≤ k → step_of d other r ≡ Ok s
  step_cut r s e h =
      let p : ℕ = s.reader.position in
      let z : p + (k - p) ≡ k = omega arith in
      let f : other ≡ take p log ++ (take (k - p) (drop p log) ++ more) =
      ap (λ (n : ℕ). take n log ++ more) (sym z) ∙ ap (λ (l : List ℕ). l ++ more) (take-add p (k - p) log) ∙ append_assoc (take p log) (take (k - p) (drop p log)) more in
      ap (λ (l : List ℕ). step_of d l r) f ∙ step_local d log r s e (take (k - p) (drop p log) ++ more)

  -- a payload lies within the bytes that its step took
  payload_in : (r : LogReader) (s : Stepped) → step_of d log r ≡ Ok s → s.start + s.length ≤ s.reader.position
  payload_in r s e =
      let p : ℕ = s.reader.position in
      let o = step-on d log r s e in
      let w : s.start + s.length ≤ length (take p log ++ []) = (payload-sized d (take p log ++ []) r s (step_local d log r s e [])).within in
      let l : length (take p log ++ []) ≡ p = simp length-append (omega (arith, length-take-le p log o.inside)) in
      omega arith

  written-cut : (r : LogReader) (s : Stepped) → step_of d log r ≡ Ok s → s.reader.position ≤ k → written_in other s ≡ written_in log s
  written-cut r s e h = rw (same-part s.length s.start k log more cut (omega (arith, payload_in r s e)))

  rest-cut : (n : ℕ) (r : LogReader) (ws : List Written) (end : ℕ) → r.inside ≡ true → end ≤ k → rest_of n d log r ≡ walked ws end → rest_of n d other r ≡ walked ws end
  unfolding rest_of
  rest-cut zero r ws end b h e = let z : ◌≡◌ {A = ℕ} 0 1 = cc in absurd (omega arith)
  rest-cut (suc n) r ws end b h e = go (step_of d log r) refl e (λ c vs i. rest-cut n c vs end i h)
    where
      Next : Type 0
      Next = (c : LogReader) (vs : List Written) → c.inside ≡ true → rest_of n d log c ≡ walked vs end → rest_of n d other c ≡ walked vs end

      behind : (w : Written) (s : Stepped) (g : Walked (List Written)) → rest_of n d log s.reader ≡ g → s.reader.inside ≡ true → Next → add_first w g ≡ walked ws end
          → (s.reader.position ≤ k) × (add_first w (rest_of n d other s.reader) ≡ walked ws end)
      behind w s (fault x) q i ih f = let z : ◌≡◌ {A = ℕ} 0 1 = cc in absurd (omega arith)
      behind w s (walked vs x) q i ih f =
          let p : x ≡ end = cc in
          let q' : rest_of n d log s.reader ≡ walked vs end = q ∙ ap (walked vs) p in
          let l : EndsIn log s.reader end = ends_in d log n s.reader vs end i q' in
          (omega (arith, l.five), ap (add_first w) (ih s.reader vs i q') ∙ sym (ap (walked (w ∷ vs)) p) ∙ f)

      by : (s : Stepped) → step_of d log r ≡ Ok s → (t : Bool) → is_end s.action ≡ t → by_step log (rest_of n d log) (Ok s) ≡ walked ws end → Next
          → by_step other (rest_of n d other) (step_of d other r) ≡ walked ws end
      by s q true t f ih =
          let f' : walked [] s.reader.position ≡ walked ws end = sym (if_true (is_end s.action) _ _ t) ∙ f in
          let p : s.reader.position ≡ end = cc in
          ap (by_step other (rest_of n d other)) (step_cut r s q (omega arith)) ∙ if_true (is_end s.action) _ _ t ∙ f'
      by s q false t f ih =
          let w : Written = written_in log s in
          let m = behind w s (rest_of n d log s.reader) refl ((going d log r s b q).stays t) ih (sym (if_false (is_end s.action) _ _ t) ∙ f) in
          ap (by_step other (rest_of n d other)) (step_cut r s q m.0) ∙ if_false (is_end s.action) _ _ t
          ∙ ap (λ (x : Written). add_first x (rest_of n d other s.reader)) (written-cut r s q m.0) ∙ m.1

      go : (st : Result Stepped Refusal) → step_of d log r ≡ st → by_step log (rest_of n d log) st ≡ walked ws end → Next → by_step other (rest_of n d other) (step_of d other r) ≡ walked ws end
      go (Err x) q f ih = let z : ◌≡◌ {A = ℕ} 0 1 = cc in absurd (omega arith)
      go (Ok s) q f ih = by s q (is_end s.action) refl f ih

  -- a whole record that ends at k or before it is one of the other log too
  pub record_cut : (at expected : ℕ) (ws : List Written) (end : ℕ) → end ≤ k → record_at d log at expected ≡ walked ws end → record_at d other at expected ≡ walked ws end
  record_cut at expected ws end h e =
      let w : Whole d log at expected ws end = whole_record d log at expected ws end e in
      let o = opening d log at w.s w.opens in
      let l : EndsIn log w.s.reader end = ends_in d log (suc (length log)) w.s.reader ws end o.inside w.rest in
      record_whole d other at expected ws end
      (record {
        s = w.s;
        opens = step_cut (reader_at at true) w.s w.opens (omega (arith, l.five));
        id = w.id;
        rest = rest_any d other (suc (length log)) w.s.reader ws end (rest-cut (suc (length log)) w.s.reader ws end o.inside h w.rest);
      })
