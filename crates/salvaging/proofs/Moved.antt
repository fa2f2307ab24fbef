-- A record looks at nothing before itself: where its bytes stand in another log, whatever lies before and behind them, it is the same record.
-- Assumes nothing.
use mathlib.Core.Path.{◌≡◌, refl, sym, ap, ◌∙◌}
use mathlib.Core.Bool.{Bool, true, false}
use mathlib.Core.List.{List, [], ◌∷◌, ◌++◌}
use Prim.Native.Nat.{ℕ, zero, suc, ◌+◌, ◌-◌, ◌≤◌, ◌<◌}
use native.Mathlib.Nat.{add-zero}
use native.Mathlib.Omega.{arith}
use lib.Dec.{eqb, ltb}
use lib.ListN.{length, take, drop, length-append, length-drop}
use lib.Seq.{drop-drop, drop_at, length-take-le}
use borrow.Author.Tests.{ltb-true, ltb-false, lt-ltb, le-ltb}
use Rattle.words.proofs.Choices.{if_true, if_false}
use Rattle.directory.specs.declared.directory.Directory.{Directory}
use Rattle.record.specs.Format.{Got, stopped, got, read_at}
use Rattle.record.specs.Record.{Item, inside, opening}
use Rattle.record.specs.Next.{is_end, forward_to, reader_after, stepped, beginning, opened, reader_at, step_of}
use Rattle.record.specs.declared.action.LogAction.{LogAction}
use Rattle.record.specs.declared.action.LogAction.TheVariants.{BeginRecord}
use Rattle.record.specs.declared.reader.LogReader.{LogReader}
use Rattle.record.specs.declared.reader.Stepped.{Stepped}
use Rattle.record.proofs.Formats.{moved, from}
use Rattle.record.proofs.Steps.{step-on, step_local}
use Rattle.answer.specs.declared.answer.Refusal.{Refusal}
use Rattle.effect.specs.Effect.{Written}
use Rattle.effect.proofs.Sized.{payload-sized}
use Rattle.replay.specs.Replay.{Walked, fault, walked, add_first, by_step, rest_of, record_at}
use Rattle.replay.proofs.Opening.{Whole, whole_record, record_whole, record_on}
use Rattle.replay.proofs.Cut.{rest_any, record_cut}
use Rattle.std.specs.Prelude.{Result, Ok, Err}

-- a reader n bytes further on, and a step's answer
abbrev moved_reader : ℕ → LogReader → LogReader
moved_reader n r = record { position = n + r.position; record_id = r.record_id; crc32 = r.crc32; validate = r.validate; inside = r.inside }

abbrev moved_took : ℕ → Stepped → Stepped
moved_took n s = record { action = s.action; start = n + s.start; length = s.length; reader = moved_reader n s.reader }

-- both refuse, or both take the same
data SameStep (n : ℕ) : Result Stepped Refusal → Result Stepped Refusal → Type 0 where
  both-refuse : (x y : Refusal) → SameStep n (Err x) (Err y)
  both_take : (s : Stepped) → SameStep n (Ok s) (Ok (moved_took n s))

data SameWalk (n : ℕ) : Walked (List Written) → Walked (List Written) → Type 0 where
  both-fault : (x y : Refusal) → SameWalk n (fault x) (fault y)
  both-walk : (ws : List Written) (end : ℕ) → SameWalk n (walked ws end) (walked ws (n + end))

same_at : (n : ℕ) (a b c e : Result Stepped Refusal) → a ≡ c → b ≡ e → SameStep n c e → SameStep n a b
same_at n a b c e p q h = rw (p, q) h

after-ends : (log : List ℕ) (r : LogReader) (action : LogAction) (end : ℕ) → (reader_after log r action end).position ≡ end
unfolding reader_after forward_to
after-ends log r action end = by (is_end action) refl
  where
    by : (b : Bool) → is_end action ≡ b → (reader_after log r action end).position ≡ end
    by true q = rw q
    by false q = rw q

module _ (n : ℕ) (log : List ℕ) where
  moved-forward : (r : LogReader) (end : ℕ) → forward_to log (moved_reader n r) (n + end) ≡ moved_reader n (forward_to (drop n log) r end)
  unfolding forward_to
  moved-forward r end =
      let e : n + end - (n + r.position) ≡ end - r.position = omega arith in
      rw (e, drop-drop r.position n log)

  moved-after : (r : LogReader) (action : LogAction) (end : ℕ) → reader_after log (moved_reader n r) action (n + end) ≡ moved_reader n (reader_after (drop n log) r action end)
  unfolding reader_after
  moved-after r action end = by (is_end action) refl
    where
      by : (b : Bool) → is_end action ≡ b → reader_after log (moved_reader n r) action (n + end) ≡ moved_reader n (reader_after (drop n log) r action end)
      by true q = rw q
      by false q = rw q (moved-forward r end)

  module _ (d : Directory) (r : LogReader) where
    -- a payload is part of the bytes that its step took
    payload_in : (s : Stepped) → step_of d (drop n log) r ≡ Ok s → s.start + s.length ≤ s.reader.position
    payload_in s e =
        let l : List ℕ = drop n log in
        let p : ℕ = s.reader.position in
        let o = step-on d l r s e in
        let w : s.start + s.length ≤ length (take p l ++ []) = (payload-sized d (take p l ++ []) r s (step_local d l r s e [])).within in
        let k : length (take p l ++ []) ≡ p = simp length-append (omega (arith, length-take-le p l o.inside)) in
        omega arith

    stepped_same : (g : Got Item) → ((s : Stepped) → stepped (drop n log) r g ≡ Ok s → s.start + s.length ≤ s.reader.position)
        → SameStep n (stepped (drop n log) r g) (stepped log (moved_reader n r) (moved n g))
    stepped_same (stopped a) h = both-refuse _ _
    stepped_same (got i end) h =
        let s : Stepped = record { action = i.action; start = end - i.payload; length = i.payload; reader = reader_after (drop n log) r i.action end } in
        let e : n + end - i.payload ≡ n + (end - i.payload) = omega (arith, h s refl, after-ends (drop n log) r i.action end) in
        rw (e, moved-after r i.action end) (both_take s)

    opened-same : (g : Got ℕ) → SameStep n (opened (drop n log) r g) (opened log (moved_reader n r) (moved n g))
    opened-same (stopped a) = both-refuse _ _
    opened-same (got id end) =
        let s : Stepped = record { action = BeginRecord; start = end; length = 0; reader = forward_to (drop n log) (beginning r id) end } in
        rw (moved-forward (beginning r id) end) (both_take s)

    inside-same : r.inside ≡ true → ltb (length (drop n log)) r.position ≡ false
        → SameStep n (stepped (drop n log) r (read_at (inside d r.validate r.crc32) r.position (drop n log))) (stepped log (moved_reader n r) (read_at (inside d r.validate r.crc32) (n + r.position) log))
    unfolding step_of
    inside-same b q =
        rw (from (inside d r.validate r.crc32) n r.position log)
        (stepped_same (read_at (inside d r.validate r.crc32) r.position (drop n log)) (λ s e. payload_in s (if_false (ltb (length (drop n log)) r.position) _ _ q ∙ if_true r.inside _ _ b ∙ e)))

    -- a step takes the same bytes wherever they stand
    step_same : n ≤ length log → SameStep n (step_of d (drop n log) r) (step_of d log (moved_reader n r))
    unfolding step_of
    step_same k = placed (ltb (length (drop n log)) r.position) refl
      where
        either : (b : Bool) → r.inside ≡ b → ltb (length (drop n log)) r.position ≡ false → ltb (length log) (n + r.position) ≡ false → SameStep n (step_of d (drop n log) r) (step_of d log (moved_reader n r))
        either true b q m =
            same_at n _ _ _ _ (if_false (ltb (length (drop n log)) r.position) _ _ q ∙ if_true r.inside _ _ b) (if_false (ltb (length log) (n + r.position)) _ _ m ∙ if_true r.inside _ _ b) (inside-same b q)
        either false b q m =
            same_at n _ _ _ _ (if_false (ltb (length (drop n log)) r.position) _ _ q ∙ if_false r.inside _ _ b) (if_false (ltb (length log) (n + r.position)) _ _ m ∙ if_false r.inside _ _ b ∙ ap (opened log (moved_reader n r)) (from (opening r.validate) n r.position log))
            (opened-same (read_at (opening r.validate) r.position (drop n log)))

        placed : (t : Bool) → ltb (length (drop n log)) r.position ≡ t → SameStep n (step_of d (drop n log) r) (step_of d log (moved_reader n r))
        placed true q =
            let l : length (drop n log) < r.position = ltb-true (length (drop n log)) r.position q in
            let m : ltb (length log) (n + r.position) ≡ true = lt-ltb (length log) (n + r.position) (omega (arith, length-drop n log)) in
            rw (q, m) (both-refuse _ _)
        placed false q =
            let l : r.position ≤ length (drop n log) = ltb-false (length (drop n log)) r.position q in
            let m : ltb (length log) (n + r.position) ≡ false = le-ltb (length log) (n + r.position) (omega (arith, length-drop n log)) in
            either r.inside refl q m

  -- and so does the walk to a record's end
  rest-same : (d : Directory) → n ≤ length log → (k : ℕ) (r : LogReader) → SameWalk n (rest_of k d (drop n log) r) (rest_of k d log (moved_reader n r))
  unfolding rest_of
  rest-same d l zero r = both-fault _ _
  rest-same d l (suc k) r = by (step_of d (drop n log) r) (step_of d log (moved_reader n r)) (step_same d r l) (rest-same d l k)
    where
      first : (w : Written) (g h : Walked (List Written)) → SameWalk n g h → SameWalk n (add_first w g) (add_first w h)
      first w g h (both-fault x y) = both-fault x y
      first w g h (both-walk ws end) = both-walk (w ∷ ws) end

      on : (s : Stepped) (b : Bool) → is_end s.action ≡ b → ((c : LogReader) → SameWalk n (rest_of k d (drop n log) c) (rest_of k d log (moved_reader n c)))
          → SameWalk n (by_step (drop n log) (rest_of k d (drop n log)) (Ok s)) (by_step log (rest_of k d log) (Ok (moved_took n s)))
      on s true b ih = rw b (both-walk [] s.reader.position)
      on s false b ih = rw (b, drop-drop s.start n log) (first (record { action = s.action; payload = take s.length (drop (n + s.start) log) }) _ _ (ih s.reader))

      by : (st su : Result Stepped Refusal) → SameStep n st su → ((c : LogReader) → SameWalk n (rest_of k d (drop n log) c) (rest_of k d log (moved_reader n c)))
          → SameWalk n (by_step (drop n log) (rest_of k d (drop n log)) st) (by_step log (rest_of k d log) su)
      by st su (both-refuse x y) ih = both-fault x y
      by st su (both_take s) ih = on s (is_end s.action) refl ih

-- ---- a record without what lies before it, and with it

module _ (d : Directory) (log : List ℕ) (p : ℕ) (k : p ≤ length log) (id : ℕ) (ws : List Written) where
  front : reader_at p true ≡ moved_reader p (reader_at 0 true)
  front = let e : p + 0 ≡ p = add-zero p in rw e

  -- as it is read at the front of the bytes from its place on
  record Front (end : ℕ) : Type 0 where
    long : ℕ
    ends : end ≡ p + long
    reads : record_at d (drop p log) 0 id ≡ walked ws long

  down : (end : ℕ) → record_at d log p id ≡ walked ws end → Front end
  down end e =
      let w : Whole d log p id ws end = whole_record d log p id ws end e in
      opens w _ _ refl (sym w.opens ∙ ap (step_of d log) front) (step_same p log d (reader_at 0 true) k)
    where
      rests : (w : Whole d log p id ws end) (s : Stepped) → step_of d (drop p log) (reader_at 0 true) ≡ Ok s → w.s ≡ moved_took p s → (g h : Walked (List Written))
          → rest_of (suc (length log)) d (drop p log) s.reader ≡ g → walked ws end ≡ h → SameWalk p g h → Front end
      rests w s q m g h a b (both-fault x y) = let z : ◌≡◌ {A = ℕ} 0 1 = cc in absurd (omega arith)
      rests w s q m g h a b (both-walk vs n) =
          let x : ws ≡ vs = cc in
          let y : end ≡ p + n = cc in
          record {
            long = n;
            ends = y;
            reads =
                record_whole d (drop p log) 0 id ws n
                (record {
                  s = s;
                  opens = q;
                  id = ap (λ (t : Stepped). eqb t.reader.record_id id) (sym m) ∙ w.id;
                  rest = rest_any d (drop p log) (suc (length log)) s.reader ws n (a ∙ ap (λ (v : List Written). walked v n) (sym x));
                });
          }

      opens : (w : Whole d log p id ws end) (st su : Result Stepped Refusal) → step_of d (drop p log) (reader_at 0 true) ≡ st → Ok w.s ≡ su → SameStep p st su → Front end
      opens w st su q r (both-refuse x y) = let z : ◌≡◌ {A = ℕ} 0 1 = cc in absurd (omega arith)
      opens w st su q r (both_take s) =
          let m : w.s ≡ moved_took p s = cc in
          rests w s q m _ _ refl (sym w.rest ∙ ap (λ (t : Stepped). rest_of (suc (length log)) d log t.reader) m) (rest-same p log d k (suc (length log)) s.reader)

  up : (n : ℕ) → record_at d (drop p log) 0 id ≡ walked ws n → record_at d log p id ≡ walked ws (p + n)
  up n e =
      let w : Whole d (drop p log) 0 id ws n = whole_record d (drop p log) 0 id ws n e in
      opens w _ _ w.opens (ap (step_of d log) front) (step_same p log d (reader_at 0 true) k)
    where
      rests : (w : Whole d (drop p log) 0 id ws n) (g h : Walked (List Written)) → g ≡ walked ws n → SameWalk p g h → h ≡ walked ws (p + n)
      rests w g h a (both-fault x y) = let z : ◌≡◌ {A = ℕ} 0 1 = cc in absurd (omega arith)
      rests w g h a (both-walk vs m) = let x : vs ≡ ws = cc in let y : m ≡ n = cc in rw (x, y)

      opens : (w : Whole d (drop p log) 0 id ws n) (st su : Result Stepped Refusal) → st ≡ Ok w.s → step_of d log (reader_at p true) ≡ su → SameStep p st su → record_at d log p id ≡ walked ws (p + n)
      opens w st su q r (both-refuse x y) = let z : ◌≡◌ {A = ℕ} 0 1 = cc in absurd (omega arith)
      opens w st su q r (both_take s) =
          let m : s ≡ w.s = cc in
          record_whole d log p id ws (p + n)
          (record {
            s = moved_took p w.s;
            opens = r ∙ ap (λ (t : Stepped). Ok (moved_took p t)) m;
            id = w.id;
            rest = rest_any d log (suc (length (drop p log))) (moved_reader p w.s.reader) ws (p + n) (rests w _ _ w.rest (rest-same p log d k (suc (length (drop p log))) w.s.reader));
          })

-- A RECORD'S BYTES, wherever they stand: it is accepted there under its id, with the same actions
pub record_stands : (d : Directory) (log : List ℕ) (p n id : ℕ) (ws : List Written) → record_at d log p id ≡ walked ws (p + n) → (front behind : List ℕ)
    → record_at d (front ++ (take n (drop p log) ++ behind)) (length front) id ≡ walked ws (length front + n)
record_stands d log p n id ws e before behind =
    let o = record_on d log p id ws (p + n) e in
    let f : Front d log p (omega (arith, o.forward, o.inside)) id ws (p + n) = down d log p (omega (arith, o.forward, o.inside)) id ws (p + n) e in
    let m : f.long ≡ n = omega (arith, f.ends) in
    let c : record_at d (take n (drop p log) ++ behind) 0 id ≡ walked ws n =
    record_cut d (drop p log) behind n (rw length-drop (omega (arith, o.inside))) 0 id ws n (omega arith) (f.reads ∙ ap (walked ws) m) in
    let s : drop (length before) (before ++ (take n (drop p log) ++ behind)) ≡ take n (drop p log) ++ behind = drop_at before (take n (drop p log) ++ behind) (length before) refl in
    up d (before ++ (take n (drop p log) ++ behind)) (length before) (simp length-append (omega arith)) id ws n (ap (λ (l : List ℕ). record_at d l 0 id) s ∙ c)
