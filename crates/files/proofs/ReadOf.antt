-- `read_next`: the file that is read, and what each opening comes to. Assumes nothing.
use Prim.Native.Nat.{ℕ, ◌+◌, ◌≤◌, ◌<◌}
use mathlib.Core.Bool.{Bool, true, false, not, ◌||◌}
use mathlib.Core.List.{List}
use mathlib.Core.Path.{◌≡◌, refl, sym, ap, ◌∙◌}
use native.Mathlib.Omega.{arith}
use lib.Dec.{eqb}
use borrow.Author.Tests.{eqb-false, eq-eqb, ne_eqb}
use Rattle.std.specs.Prelude.{if◌then◌else◌}
use Rattle.words.proofs.Choices.{if_true, if_false}
use Rattle.numbers.specs.Numbers.{one_if}
use Rattle.answer.specs.Answer.{number_of}
use Rattle.record.specs.Next.{reader_at, opening_of}
use Rattle.answer.specs.declared.answer.Answer.{Answer}
use Rattle.answer.specs.declared.answer.Answer.TheVariants.{EndOfLog}
use Rattle.files.specs.Moves.{front_read, reading_cleaned}
use Rattle.files.specs.Read.{now_reading, not_read, read_by, read_next_kept}
use Rattle.files.specs.Inner.{has_file}
use Rattle.files.specs.declared.queues.Queues.{Queues}
use Rattle.files.proofs.Rule.{Room}

pub has-front : (q : Queues) → has_file q ≡ true → q.reading.some ≡ false → 0 < q.read_queue.count
unfolding has_file
has-front q h n = by (eqb q.read_queue.count 0) refl
  where
    by : (b : Bool) → eqb q.read_queue.count 0 ≡ b → 0 < q.read_queue.count
    by true f = let z : false ≡ true = rw (n, f) at h in let w : ◌≡◌ {A = ℕ} 0 1 = cc in absurd (omega arith)
    by false f = omega (arith, eqb-false q.read_queue.count 0 f)

-- the file that is read finds room in cleanup
pub now_room : (q : Queues) → Room q → has_file q ≡ true → (now_reading q).cleanup_queue.count + one_if (now_reading q).reading.some ≤ 64
unfolding now_reading front_read
now_room q r h = by q.reading.some refl
  where
    by : (b : Bool) → q.reading.some ≡ b → (if b then q else front_read q).cleanup_queue.count + one_if (if b then q else front_read q).reading.some ≤ 64
    by true e = omega (arith, r.all)
    by false e = omega (arith, r.all, has-front q h e)

module _ (q : Queues) where
  pub now_on : q.reading.some ≡ true → now_reading q ≡ q
  unfolding now_reading
  now_on e = if_true q.reading.some q (front_read q) e

  pub now_front : q.reading.some ≡ false → now_reading q ≡ front_read q
  unfolding now_reading
  now_front e = if_false q.reading.some q (front_read q) e

  pub has_reading : q.reading.some ≡ true → has_file q ≡ true
  unfolding has_file
  has_reading e = ap (λ (b : Bool). b || not (eqb q.read_queue.count 0)) e

  pub has-waiting : q.reading.some ≡ false → (q.read_queue.count ≡ 0 → ⊥) → has_file q ≡ true
  unfolding has_file
  has-waiting e d = ap (λ (b : Bool). b || not (eqb q.read_queue.count 0)) e ∙ ap not (ne_eqb q.read_queue.count 0 d)

  -- the file goes to cleanup exactly at the end of its log
  pub at-end : (a : Answer) (n : ℕ) → n ≡ number_of a → n ≡ 1 → reading_cleaned (now_reading q) ≡ (if eqb (number_of a) 1 then reading_cleaned (now_reading q) else q)
  at-end a n e f = sym (if_true (eqb (number_of a) 1) (reading_cleaned (now_reading q)) q (eq-eqb (number_of a) 1 (sym e ∙ f)))

  pub not_at-end : (a : Answer) (n : ℕ) → n ≡ number_of a → (n ≡ 1 → ⊥) → q ≡ (if eqb (number_of a) 1 then reading_cleaned (now_reading q) else q)
  not_at-end a n e d = sym (if_false (eqb (number_of a) 1) (reading_cleaned (now_reading q)) q (ne_eqb (number_of a) 1 (λ z. d (e ∙ z))))

  module _ (log : List ℕ) (p : ℕ) (v : Bool) where
    pub next_reading : q.reading.some ≡ true → read_next_kept q log p v ≡ read_by q (reader_at p v) (opening_of log (reader_at p v))
    unfolding read_next_kept
    next_reading e = if_true q.reading.some _ _ e

    module _ (n : q.reading.some ≡ false) where
      pub next-none : q.read_queue.count ≡ 0 → read_next_kept q log p v ≡ not_read EndOfLog (reader_at p v) q
      unfolding read_next_kept
      next-none e = if_false q.reading.some _ _ n ∙ if_true (eqb q.read_queue.count 0) _ _ (eq-eqb q.read_queue.count 0 e)

      pub next-front : (q.read_queue.count ≡ 0 → ⊥) → read_next_kept q log p v ≡ read_by q (reader_at p v) (opening_of log (reader_at 0 v))
      unfolding read_next_kept
      next-front d = if_false q.reading.some _ _ n ∙ if_false (eqb q.read_queue.count 0) _ _ (ne_eqb q.read_queue.count 0 d)
