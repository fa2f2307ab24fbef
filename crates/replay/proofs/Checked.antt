-- The first pass: the end of the record read plainly, and then the checksum over all its bytes. Assumes nothing.
use mathlib.Core.Path.{◌≡◌, refl, sym, ap, ◌∙◌, subst}
use mathlib.Core.Bool.{Bool, true, false, and-eq-true_iff}
use mathlib.Core.List.{List, []}
use Prim.Native.Nat.{ℕ, suc, ◌-◌}
use native.Mathlib.Omega.{arith}
use lib.Dec.{eqb}
use lib.ListN.{length, take, drop}
use borrow.Author.Tests.{eqb-true}
use Rattle.words.specs.Words.{little_at}
use Rattle.words.proofs.Choices.{if_true, if_false}
use Rattle.checksum.specs.Checksum.{checksum_of}
use Rattle.directory.specs.Directory.{directory_kept, image_length}
use Rattle.directory.specs.declared.directory.Directory.{Directory}
use Rattle.answer.specs.declared.answer.Answer.TheVariants.{WrongSum, BadState}
use Rattle.record.specs.declared.reader.LogReader.{LogReader}
use Rattle.effect.specs.Effect.{Written}
use Rattle.record.specs.Next.{plain}
use Rattle.answer.specs.declared.answer.Refusal.{Refusal}
use Rattle.answer.specs.Answer.{refusal}
use Rattle.replay.specs.Inner.{is_walked, Opened, Walker}
use Rattle.replay.specs.Replay.{Walked, fault, walked, record_at, tables_kept, judged, image_after, end_in}
use Rattle.replay.specs.Sum.{sum_held, sum_tested}
use Rattle.replay.proofs.Places.{EndsIn, ends_in}
use Rattle.replay.proofs.Rest.{whole}
use Rattle.replay.proofs.Sum.{sum-rest, plain-walked}
use Rattle.std.specs.Prelude.{Ok, Err}

-- what an end answered says of the walk
pub ended-walked : (g : Walked (List Written)) (end : ℕ) → Ok end ≡ end_in g → (ws : List Written) × (g ≡ walked ws end)
ended-walked (fault x) end e = let z : ◌≡◌ {A = ℕ} 0 1 = cc in absurd (omega arith)
ended-walked (walked ws x) end e = let p : x ≡ end = cc in (ws, ap (walked ws) p)

pub not_ended_lem : (g : Walked (List Written)) (a : Refusal) → Err a ≡ end_in g → g ≡ fault a
not_ended_lem (fault x) a e = let p : x ≡ a = cc in ap {B = Walked (List Written)} fault p
not_ended_lem (walked ws x) a e = let z : ◌≡◌ {A = ℕ} 0 1 = cc in absurd (omega arith)

-- a record that is read to its end has at least the end tag's 5 bytes, within the log
pub ended-place : (d : Directory) (log : List ℕ) (r : LogReader) (end : ℕ) → Walker log r → Ok end ≡ end_in (whole d log r) → EndsIn log r end
ended-place d log r end w e =
    let g = ended-walked (whole d log r) end e in
    ends_in d log (suc (length log)) r g.0 end w.inside g.1

pub untouched : (d : Directory) (image : List ℕ) (a : Refusal) (g : Walked (List Written)) → Err a ≡ end_in g → image ≡ image_after d image g
untouched d image a g e = sym (ap (image_after d image) (not_ended_lem g a e))

module _ (d : Directory) (log : List ℕ) (at : ℕ) (r : LogReader) (o : Opened log at r) where
  abbrev fits : ℕ → Bool
  fits end = eqb (little_at 4 log (end - 4)) (checksum_of (take (end - 4 - at) (drop at log)))

  pub checked-no : (a : Refusal) → Err a ≡ end_in (whole d log (plain r)) → Err a ≡ end_in (whole d log r)
  checked-no a e = sym (ap end_in (sum-rest d log at (suc (length log)) r o ∙ ap (sum_tested at log) (not_ended_lem (whole d log (plain r)) a e)))

  by-sum : (end : ℕ) → Ok end ≡ end_in (whole d log (plain r)) → (b : Bool) → fits end ≡ b → end_in (whole d log r) ≡ end_in (sum_held b end [])
  by-sum end e b q =
      let g = ended-walked (whole d log (plain r)) end e in
      ap end_in (sum-rest d log at (suc (length log)) r o ∙ ap (sum_tested at log) g.1 ∙ ap (λ (t : Bool). sum_held t end g.0) q)
      ∙ either b g.0
    where
      either : (b : Bool) (ws : List Written) → end_in (sum_held b end ws) ≡ end_in (sum_held b end [])
      either true ws = refl
      either false ws = refl

  pub checked_yes : (end : ℕ) → Ok end ≡ end_in (whole d log (plain r)) → fits end ≡ true → Ok end ≡ end_in (whole d log r)
  checked_yes end e q = sym (by-sum end e true q)

  pub checked_wrong : (end : ℕ) → Ok end ≡ end_in (whole d log (plain r)) → fits end ≡ false → Err (refusal WrongSum (end - 5)) ≡ end_in (whole d log r)
  checked_wrong end e q = sym (by-sum end e false q)

  -- a reader that leaves the checksum out walks on
  pub plain_walker : (p : LogReader) → p ≡ plain r → Walker log p
  plain_walker p e = subst (Walker log) (sym e) (record { inside = o.inside; plainly = refl; within = o.within })

  -- the second pass reads what the first one read, and no checksum
  pub second_walks : (end : ℕ) → Ok end ≡ end_in (whole d log r) → is_walked (whole d log (plain r)) ≡ true
  second_walks end e =
      let g = ended-walked (whole d log r) end e in
      ap is_walked (plain-walked d log at (suc (length log)) r g.0 end o g.1)

  pub second-leaves : (image : List ℕ) (end : ℕ) → Ok end ≡ end_in (whole d log r) → image_after d image (whole d log (plain r)) ≡ image_after d image (whole d log r)
  second-leaves image end e =
      let g = ended-walked (whole d log r) end e in
      ap (image_after d image) (plain-walked d log at (suc (length log)) r g.0 end o g.1 ∙ sym g.1)

-- ---- 13 first

module _ (d : Directory) (log : List ℕ) (at expected : ℕ) (image : List ℕ) where
  pub judged-kept : tables_kept d image ≡ true → judged d log at expected image ≡ record_at d log at expected
  unfolding judged
  judged-kept e = if_true (tables_kept d image) _ _ e

  pub judged_bad : tables_kept d image ≡ false → judged d log at expected image ≡ fault (refusal BadState at)
  unfolding judged
  judged_bad e = if_false (tables_kept d image) _ _ e

  -- what is accepted is a whole record
  pub judged-walked : (ws : List Written) (end : ℕ) → judged d log at expected image ≡ walked ws end → record_at d log at expected ≡ walked ws end
  judged-walked ws end e = go (tables_kept d image) refl
    where
      go : (b : Bool) → tables_kept d image ≡ b → record_at d log at expected ≡ walked ws end
      go true q = sym (judged-kept q) ∙ e
      go false q = let z : ◌≡◌ {A = ℕ} 0 1 = cc (sym (judged_bad q) ∙ e) in absurd (omega arith)

-- what 13 tests
module _ (d : Directory) (image : List ℕ) (e : tables_kept d image ≡ true) where
  pub kept-directory : directory_kept d ≡ true
  unfolding tables_kept
  kept-directory = ((and-eq-true_iff (directory_kept d) (eqb (length image) (image_length d))).0 e).0

  pub kept-length : length image ≡ image_length d
  unfolding tables_kept
  kept-length = eqb-true (length image) (image_length d) ((and-eq-true_iff (directory_kept d) (eqb (length image) (image_length d))).0 e).1
