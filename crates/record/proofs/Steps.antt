-- What holds of every step: it moves forward within the log, it looks at nothing behind the bytes it takes, and between records at nothing
-- before its position. Assumes nothing.
use mathlib.Core.Path.{◌≡◌, refl, sym, ap, ◌∙◌}
use mathlib.Core.Bool.{Bool, true, false}
use mathlib.Core.List.{List, ◌++◌}
use Prim.Native.Nat.{ℕ, ◌+◌, ◌-◌, ◌≤◌}
use native.Mathlib.Omega.{arith}
use lib.Dec.{ltb}
use lib.ListN.{length, take, drop, length-append}
use lib.Seq.{length-take-le}
use borrow.Author.Tests.{ltb-false, le-ltb}
use Rattle.std.specs.Prelude.{if◌then◌else◌}
use Rattle.words.proofs.Choices.{if_true, if_false}
use Rattle.directory.specs.declared.directory.Directory.{Directory}
use Rattle.record.specs.Format.{Got, stopped, got, read_at}
use Rattle.record.specs.Record.{Item, inside, opening}
use Rattle.record.specs.Next.{refused, is_end, forward_to, reader_after, stepped, beginning, opened, reader_at, opening_of, step_of}
use Rattle.record.specs.Steps.{On, moved_step}
use Rattle.answer.specs.declared.answer.Answer.TheVariants.{BadArgument}
use Rattle.record.specs.declared.action.LogAction.{LogAction}
use Rattle.record.specs.declared.reader.LogReader.{LogReader}
use Rattle.record.specs.declared.reader.Stepped.{Stepped}
use Rattle.record.proofs.Formats.{within, within-need, local, same-part, moved, from}
use Rattle.std.specs.Prelude.{Result, Ok}
use Rattle.answer.specs.declared.answer.Refusal.{Refusal}

-- ---- the reader behind a step stands where the bytes taken end

after-position : (log : List ℕ) (r : LogReader) (action : LogAction) (end : ℕ) → (reader_after log r action end).position ≡ end
unfolding reader_after forward_to
after-position log r action end = go (is_end action) refl
  where
    go : (b : Bool) → is_end action ≡ b → (reader_after log r action end).position ≡ end
    go true e = rw e
    go false e = rw e

-- ---- a step that is taken was read: what it read, and where that ended

pub data Read (d : Directory) (log : List ℕ) (r : LogReader) (s : Stepped) : Type 0 where
  within_record : r.inside ≡ true → (i : Item) (end : ℕ) → read_at (inside d r.validate r.crc32) r.position log ≡ got i end
      → Ok s ≡ stepped log r (got i end) → Read d log r s
  at-opening : r.inside ≡ false → (id end : ℕ) → read_at (opening r.validate) r.position log ≡ got id end
      → Ok s ≡ opened log r (got id end) → Read d log r s

pub record Taken (d : Directory) (log : List ℕ) (r : LogReader) (s : Stepped) : Type 0 where
  pub fits : r.position ≤ length log
  pub read : Read d log r s

pub taken : (d : Directory) (log : List ℕ) (r : LogReader) (s : Stepped) → step_of d log r ≡ Ok s → Taken d log r s
unfolding step_of
taken d log r s e = placed (ltb (length log) r.position) refl
  where
    insides : r.inside ≡ true → stepped log r (read_at (inside d r.validate r.crc32) r.position log) ≡ Ok s → (g : Got Item)
        → read_at (inside d r.validate r.crc32) r.position log ≡ g → Read d log r s
    insides b f (stopped a) q = let z : ◌≡◌ {A = ℕ} 0 1 = cc (rw q at f) in absurd (omega arith)
    insides b f (got i end) q = within_record b i end q (sym (rw q at f))

    openings : r.inside ≡ false → opened log r (read_at (opening r.validate) r.position log) ≡ Ok s → (g : Got ℕ)
        → read_at (opening r.validate) r.position log ≡ g → Read d log r s
    openings b f (stopped a) q = let z : ◌≡◌ {A = ℕ} 0 1 = cc (rw q at f) in absurd (omega arith)
    openings b f (got id end) q = at-opening b id end q (sym (rw q at f))

    either : (b : Bool) → r.inside ≡ b → ltb (length log) r.position ≡ false → Read d log r s
    either true b q = insides b (sym (if_true r.inside _ _ b) ∙ (rw q at e)) _ refl
    either false b q = openings b (sym (if_false r.inside _ _ b) ∙ (rw q at e)) _ refl

    placed : (t : Bool) → ltb (length log) r.position ≡ t → Taken d log r s
    placed true q = let z : ◌≡◌ {A = ℕ} 0 1 = cc (rw q at e) in absurd (omega arith)
    placed false q = record { fits = ltb-false (length log) r.position q; read = either r.inside refl q }

-- ---- between records a step is an opening

pub step-opens : (d : Directory) (log : List ℕ) (r : LogReader) → r.inside ≡ false → step_of d log r ≡ opening_of log r
unfolding step_of opening_of
step-opens d log r b =
    ap (λ (x : Result Stepped Refusal). if ltb (length log) r.position then refused BadArgument r.position else x) (if_false r.inside _ _ b)

-- ---- it moves forward within the log

module _ (at : ℕ) (log : List ℕ) (fits : at ≤ length log) where
  inside_on : (d : Directory) (validate : Bool) (register : ℕ) (i : Item) (end : ℕ) → read_at (inside d validate register) at log ≡ got i end → at + 1 ≤ end
  unfolding inside
  inside_on d validate register i end q = within-need 1 _ _ at log i end fits q

  opening_on : (validate : Bool) (id end : ℕ) → read_at (opening validate) at log ≡ got id end → at + 1 ≤ end
  unfolding opening
  opening_on validate id end q = within-need 1 _ _ at log id end fits q

position-of : (s t : Stepped) → ◌≡◌ {A = Result Stepped Refusal} (Ok s) (Ok t) → s.reader.position ≡ t.reader.position
position-of s t q = let p : s ≡ t = cc in ap (λ (x : Stepped). x.reader.position) p

-- where the step's bytes end
pub ends : {d : Directory} {log : List ℕ} {r : LogReader} {s : Stepped} → Read d log r s → ℕ
ends (within_record b i end q f) = end
ends (at-opening b id end q f) = end

ends_at : {d : Directory} {log : List ℕ} {r : LogReader} {s : Stepped} (t : Read d log r s) → s.reader.position ≡ ends t
unfolding forward_to ends
ends_at {log = log} {r = r} {s = s} (within_record b i end q f) = position-of s _ f ∙ after-position log r i.action end
ends_at {s = s} (at-opening b id end q f) = position-of s _ f

ends_on : {d : Directory} {log : List ℕ} {r : LogReader} {s : Stepped} → r.position ≤ length log → (t : Read d log r s) → (r.position + 1 ≤ ends t) × (ends t ≤ length log)
unfolding ends
ends_on {d} {log} {r} {s} h (within_record b i end q f) =
    (inside_on r.position log h d r.validate r.crc32 i end q, (within (inside d r.validate r.crc32) r.position log i end h q).inside)
ends_on {d} {log} {r} {s} h (at-opening b id end q f) =
    (opening_on r.position log h r.validate id end q, (within (opening r.validate) r.position log id end h q).inside)

-- each taken step moves forward and stays in the log
pub step-on : (d : Directory) (log : List ℕ) (r : LogReader) (s : Stepped) → step_of d log r ≡ Ok s → On log r s
step-on d log r s e =
    let t : Taken d log r s = taken d log r s e in
    let p : s.reader.position ≡ ends t.read = ends_at t.read in
    let w = ends_on t.fits t.read in
    record { forward = omega (arith, w.0); inside = omega (arith, w.1) }

-- ---- it looks at nothing behind the bytes it takes

same-forward : (r : LogReader) (end : ℕ) (log more : List ℕ) → r.position ≤ end → end ≤ length log → forward_to (take end log ++ more) r end ≡ forward_to log r end
unfolding forward_to
same-forward r end log more h k = rw (same-part (end - r.position) r.position end log more k (omega arith))

same_after : (r : LogReader) (action : LogAction) (end : ℕ) (log more : List ℕ) → r.position ≤ end → end ≤ length log
    → reader_after (take end log ++ more) r action end ≡ reader_after log r action end
unfolding reader_after
same_after r action end log more h k = rw (same-forward r end log more h k)

module _ (d : Directory) (log : List ℕ) (r : LogReader) (s : Stepped) (more : List ℕ) (fits : r.position ≤ length log) where
  -- the log cut behind the step's bytes, and other bytes behind them
  abbrev cut : ℕ → List ℕ
  cut end = take end log ++ more

  placed : (end : ℕ) → r.position + 1 ≤ end → end ≤ length log → ltb (length (cut end)) r.position ≡ false
  placed end h k = le-ltb (length (cut end)) r.position (simp length-append (omega (arith, length-take-le end log k)))

  again : (t : Read d log r s) → step_of d (cut (ends t)) r ≡ Ok s
  unfolding step_of ends
  again (within_record b i end q f) =
      let w : (r.position + 1 ≤ end) × (end ≤ length log) = ends_on {d = d} {log = log} {r = r} {s = s} fits (within_record b i end q f) in
      if_false (ltb (length (cut end)) r.position) _ _ (placed end w.0 w.1)
      ∙ if_true r.inside _ _ b
      ∙ ap (stepped (cut end) r) (local (inside d r.validate r.crc32) r.position log i end fits q more)
      ∙ rw (same_after r i.action end log more (omega (arith, w.0)) w.1) (sym f)
  again (at-opening b id end q f) =
      let w : (r.position + 1 ≤ end) × (end ≤ length log) = ends_on {d = d} {log = log} {r = r} {s = s} fits (at-opening b id end q f) in
      if_false (ltb (length (cut end)) r.position) _ _ (placed end w.0 w.1)
      ∙ if_false r.inside _ _ b
      ∙ ap (opened (cut end) r) (local (opening r.validate) r.position log id end fits q more)
      ∙ rw (same-forward (beginning r id) end log more (omega (arith, w.0)) w.1) (sym f)

-- a step looks at nothing behind the bytes it takes: it survives any cutting behind them, and any bytes behind them
pub step_local : (d : Directory) (log : List ℕ) (r : LogReader) (s : Stepped) → step_of d log r ≡ Ok s
    → (more : List ℕ) → step_of d (take s.reader.position log ++ more) r ≡ Ok s
step_local d log r s e more =
    let t : Taken d log r s = taken d log r s e in
    ap (λ (n : ℕ). step_of d (take n log ++ more) r) (ends_at t.read) ∙ again d log r s more t.fits t.read

-- ---- between records it looks at nothing before its position

opened-moved : (log : List ℕ) (r : LogReader) (g : Got ℕ)
    → opened log r (moved r.position g) ≡ moved_step r.position (opened (drop r.position log) (reader_at 0 r.validate) g)
unfolding forward_to
opened-moved log r (stopped x) =
    let e : r.position ≡ r.position + 0 = omega arith in
    ap (refused x) e
opened-moved log r (got id end) =
    let e : r.position + end - r.position ≡ end - 0 = omega arith in
    rw e

-- between records an answer depends only on the bytes from the position on: it is that of a new reader at the front of those bytes
pub between : (d : Directory) (log : List ℕ) (r : LogReader) → r.inside ≡ false → r.position ≤ length log
    → step_of d log r ≡ moved_step r.position (step_of d (drop r.position log) (reader_at 0 r.validate))
unfolding step_of
between d log r b h =
    let p : ℕ = r.position in
    let z : p + 0 ≡ p = omega arith in
    if_false (ltb (length log) r.position) _ _ (le-ltb (length log) r.position h)
    ∙ if_false r.inside _ _ b
    ∙ ap (opened log r) (ap (λ (n : ℕ). read_at (opening r.validate) n log) (sym z) ∙ from (opening r.validate) p 0 log)
    ∙ opened-moved log r (read_at (opening r.validate) 0 (drop p log))
    ∙ ap (moved_step p) (sym (if_false (ltb (length (drop p log)) 0) _ _ (le-ltb (length (drop p log)) 0 (omega arith))))
