-- What a refused step comes to: 2 inside a record and 1 between records may change, and any other answer is one that settles a run. Assumes nothing.
use mathlib.Core.Path.{◌≡◌, refl, sym, ap, ◌∙◌}
use mathlib.Core.Bool.{Bool, true, false, true≢false}
use mathlib.Core.List.{List}
use Prim.Native.Nat.{ℕ, ◌≤◌}
use native.Mathlib.Omega.{arith}
use lib.Dec.{leb}
use lib.ListN.{length}
use borrow.Author.Tests.{leb-true, le-ltb}
use Rattle.std.specs.Prelude.{if◌then◌else◌}
use Rattle.answer.specs.Answer.{number_of}
use Rattle.answer.specs.declared.answer.Answer.{Answer}
use Rattle.answer.specs.declared.answer.Answer.TheVariants.{Done, EndOfLog, Cut, UnknownTag, OutOfPlace, WrongId, NoTable, NoIndex, WrongSum, NoRoom, ShortOutput, NotNext, UsedUp, BadState, BadArgument}
use Rattle.answer.specs.declared.answer.Refusal.{Refusal}
use Rattle.directory.specs.declared.directory.Directory.{Directory}
use Rattle.record.specs.Fault.{inside_fault, opening_fault}
use Rattle.record.specs.Next.{step_of}
use Rattle.record.specs.declared.reader.LogReader.{LogReader}
use Rattle.record.proofs.Faults as faults
use Rattle.numbers.proofs.Laws.{left-of, right_of}
use Rattle.checker.specs.Check.{may_change, decides}
use Rattle.std.specs.Prelude.{Err}

-- ---- the two sorts exclude each other

pub least-three : (a : Answer) → decides a ≡ true → 3 ≤ number_of a
least-three a e = leb-true 3 (number_of a) (left-of (leb 3 (number_of a)) (leb (number_of a) 12) e)

pub most-twelve : (a : Answer) → decides a ≡ true → number_of a ≤ 12
most-twelve a e = leb-true (number_of a) 12 (right_of (leb 3 (number_of a)) (leb (number_of a) 12) e)

pub no_change : (a : Answer) → decides a ≡ true → may_change a ≡ false
no_change a e = le-ltb (number_of a) 3 (least-three a e)

-- ---- and one of them it is

data Sort (short answer : Answer) : Type 0 where
  waits : answer ≡ short → Sort short answer
  final : decides answer ≡ true → Sort short answer

inside-sort : (a : Answer) (tag : ℕ) → inside_fault a tag ≡ true → Sort Cut a
inside-sort Done tag e = absurd (true≢false (sym e))
inside-sort EndOfLog tag e = absurd (true≢false (sym e))
inside-sort Cut tag e = waits refl
inside-sort UnknownTag tag e = final refl
inside-sort OutOfPlace tag e = final refl
inside-sort WrongId tag e = final refl
inside-sort NoTable tag e = final refl
inside-sort NoIndex tag e = final refl
inside-sort WrongSum tag e = final refl
inside-sort NoRoom tag e = final refl
inside-sort ShortOutput tag e = final refl
inside-sort NotNext tag e = final refl
inside-sort UsedUp tag e = final refl
inside-sort BadState tag e = absurd (true≢false (sym e))
inside-sort BadArgument tag e = absurd (true≢false (sym e))

opening-sort : (a : Answer) (tag : ℕ) → opening_fault a tag ≡ true → Sort EndOfLog a
opening-sort Done tag e = absurd (true≢false (sym e))
opening-sort EndOfLog tag e = waits refl
opening-sort Cut tag e = absurd (true≢false (sym e))
opening-sort UnknownTag tag e = final refl
opening-sort OutOfPlace tag e = final refl
opening-sort WrongId tag e = final refl
opening-sort NoTable tag e = final refl
opening-sort NoIndex tag e = final refl
opening-sort WrongSum tag e = final refl
opening-sort NoRoom tag e = final refl
opening-sort ShortOutput tag e = final refl
opening-sort NotNext tag e = final refl
opening-sort UsedUp tag e = final refl
opening-sort BadState tag e = absurd (true≢false (sym e))
opening-sort BadArgument tag e = absurd (true≢false (sym e))

-- the answer of a log that ends here
abbrev pub short_of : LogReader → Answer
short_of r = if r.inside then Cut else EndOfLog

module _ (d : Directory) (log : List ℕ) (r : LogReader) (x : Refusal) (within : r.position ≤ length log) (e : step_of d log r ≡ Err x) where
  inside-told : faults.Told inside_fault Cut log r.position x.answer → Sort Cut x.answer
  inside-told (faults.no_byte l a) = waits a
  inside-told (faults.by-tag l a) = inside-sort x.answer _ a

  opening-told : faults.Told opening_fault EndOfLog log r.position x.answer → Sort EndOfLog x.answer
  opening-told (faults.no_byte l a) = waits a
  opening-told (faults.by-tag l a) = opening-sort x.answer _ a

  sort : Sort (short_of r) x.answer
  sort = by (faults.halted d log r x e).why
    where
      by : faults.Why d log r x.answer → Sort (short_of r) x.answer
      by (faults.beyond l a) = absurd (omega arith)
      by (faults.in_record b l q) = rw b (inside-told (faults.told-inside log r.position l x.answer d r.validate r.crc32 q))
      by (faults.at-opening b l q) = rw b (opening-told (faults.told-opening log r.position l x.answer r.validate q))

  pub step-decides : may_change x.answer ≡ false → decides x.answer ≡ true
  step-decides m = by sort
    where
      short : (b : Bool) → may_change (if b then Cut else EndOfLog) ≡ true
      short true = refl
      short false = refl

      by : Sort (short_of r) x.answer → decides x.answer ≡ true
      by (waits a) = absurd (true≢false (sym (short r.inside) ∙ ap may_change (sym a) ∙ m))
      by (final f) = f

  pub step_waits : may_change x.answer ≡ true → short_of r ≡ x.answer
  step_waits m = by sort
    where
      by : Sort (short_of r) x.answer → short_of r ≡ x.answer
      by (waits a) = sym a
      by (final f) = absurd (true≢false (sym m ∙ no_change x.answer f))
