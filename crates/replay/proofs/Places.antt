-- Where a record's walk goes: each step inside it stays inside it up to the end tag, and the record ends within the log. Assumes nothing.
use mathlib.Core.Path.{◌≡◌, refl, sym, ap, ◌∙◌}
use mathlib.Core.Bool.{Bool, true, false, true≢false}
use mathlib.Core.List.{List}
use Prim.Native.Nat.{ℕ, zero, suc, ◌+◌, ◌-◌, ◌≤◌}
use native.Mathlib.Omega.{arith}
use lib.ListN.{length}
use Rattle.words.proofs.Choices.{if_true, if_false}
use Rattle.directory.specs.declared.directory.Directory.{Directory}
use Rattle.record.specs.Next.{is_end, forward_to, reader_after, step_of}
use Rattle.record.specs.declared.reader.LogReader.{LogReader}
use Rattle.record.specs.declared.reader.Stepped.{Stepped}
use Rattle.record.proofs.Steps.{Read, within_record, at-opening, taken, step-on}
use Rattle.effect.specs.Effect.{Written}
use Rattle.replay.specs.Replay.{Walked, fault, walked, written_in, add_first, by_step, rest_of}
use Rattle.replay.proofs.Ends.{EndTag, end_read}
use Rattle.std.specs.Prelude.{Result, Ok, Err}
use Rattle.answer.specs.declared.answer.Refusal.{Refusal}

-- a step inside a record: the end tag takes 5 bytes, and behind any other action the reader is inside still
pub record Going (r : LogReader) (s : Stepped) : Type 0 where
  pub ends : is_end s.action ≡ true → s.reader.position ≡ r.position + 5
  pub stays : is_end s.action ≡ false → s.reader.inside ≡ true

going-read : {d : Directory} {log : List ℕ} {r : LogReader} {s : Stepped} → r.inside ≡ true → Read d log r s → Going r s
unfolding reader_after forward_to
going-read {d} {log} {r} {s} b (at-opening c id end q f) = absurd (true≢false (sym b ∙ c))
going-read {d} {log} {r} {s} b (within_record c i end q f) =
    let t : Stepped = record { action = i.action; start = end - i.payload; length = i.payload; reader = reader_after log r i.action end } in
    let p : s ≡ t = cc in
    let a : s.action ≡ i.action = ap (λ (x : Stepped). x.action) p in
    let m : s.reader ≡ reader_after log r i.action end = ap (λ (x : Stepped). x.reader) p in
    record {
      ends = λ e.
          let g : is_end i.action ≡ true = ap is_end (sym a) ∙ e in
          let k : EndTag r.position end log = end_read d r.validate r.crc32 r.position log i end q g in
          ap (λ (x : LogReader). x.position) (m ∙ if_true (is_end i.action) _ _ g) ∙ omega (arith, k.closes);
      stays = λ e.
          let g : is_end i.action ≡ false = ap is_end (sym a) ∙ e in
          ap (λ (x : LogReader). x.inside) (m ∙ if_false (is_end i.action) _ _ g) ∙ b;
    }

pub going : (d : Directory) (log : List ℕ) (r : LogReader) (s : Stepped) → r.inside ≡ true → step_of d log r ≡ Ok s → Going r s
going d log r s b e = going-read b (taken d log r s e).read

-- one action less in front
less : (w : Written) (g : Walked (List Written)) (ws : List Written) (end : ℕ) → add_first w g ≡ walked ws end → (vs : List Written) × (g ≡ walked vs end)
less w (fault x) ws end e = let z : ◌≡◌ {A = ℕ} 0 1 = cc in absurd (omega arith)
less w (walked vs x) ws end e = let p : x ≡ end = cc in (vs, ap (walked vs) p)

-- a record that is walked to its end has at least the end tag's 5 bytes, within the log
pub record EndsIn (log : List ℕ) (r : LogReader) (end : ℕ) : Type 0 where
  pub five : r.position + 5 ≤ end
  pub inside : end ≤ length log

pub ends_in : (d : Directory) (log : List ℕ) (n : ℕ) (r : LogReader) (ws : List Written) (end : ℕ) → r.inside ≡ true → rest_of n d log r ≡ walked ws end → EndsIn log r end
unfolding rest_of
ends_in d log zero r ws end b e = let z : ◌≡◌ {A = ℕ} 0 1 = cc in absurd (omega arith)
ends_in d log (suc n) r ws end b e = go (step_of d log r) refl e (λ k vs. ends_in d log n k vs end)
  where
    on : (s : Stepped) → step_of d log r ≡ Ok s → (t : Bool) → is_end s.action ≡ t → by_step log (rest_of n d log) (Ok s) ≡ walked ws end
        → ((vs : List Written) → s.reader.inside ≡ true → rest_of n d log s.reader ≡ walked vs end → EndsIn log s.reader end) → EndsIn log r end
    on s q true t f ih =
        let o = step-on d log r s q in
        let p : s.reader.position ≡ end = cc (sym (if_true (is_end s.action) _ _ t) ∙ f) in
        record { five = omega (arith, (going d log r s b q).ends t, p); inside = omega (arith, o.inside, p) }
    on s q false t f ih =
        let o = step-on d log r s q in
        let l = less (written_in log s) (rest_of n d log s.reader) ws end (sym (if_false (is_end s.action) _ _ t) ∙ f) in
        let k : EndsIn log s.reader end = ih l.0 ((going d log r s b q).stays t) l.1 in
        record { five = omega (arith, o.forward, k.five); inside = k.inside }

    go : (st : Result Stepped Refusal) → step_of d log r ≡ st → by_step log (rest_of n d log) st ≡ walked ws end
        → ((k : LogReader) (vs : List Written) → k.inside ≡ true → rest_of n d log k ≡ walked vs end → EndsIn log k end) → EndsIn log r end
    go (Err x) q f ih = let z : ◌≡◌ {A = ℕ} 0 1 = cc in absurd (omega arith)
    go (Ok s) q f ih = on s q (is_end s.action) refl f (ih s.reader)
