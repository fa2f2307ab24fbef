-- What each test of the end of a record answers, and what is known where all were passed. Assumes nothing.
use mathlib.Core.Path.{◌≡◌, refl, ◌∙◌}
use mathlib.Core.Bool.{Bool, true, false, not}
use mathlib.Core.List.{List, []}
use Prim.Native.Nat.{ℕ, ◌+◌, ◌-◌, ◌≤◌, ◌<◌}
use native.Mathlib.Omega.{arith}
use lib.Dec.{ltb, eqb}
use lib.ListN.{length}
use borrow.Author.Tests.{not-true, lt-ltb, le-ltb, ltb-false, eq-eqb, ne_eqb, eqb-true, eqb-false}
use Rattle.std.specs.Prelude.{if◌then◌else◌, Result, Ok, Err}
use Rattle.directory.specs.declared.directory.Directory.{Directory}
use Rattle.answer.specs.declared.answer.Answer.{Answer}
use Rattle.answer.specs.declared.answer.Answer.TheVariants.{Done, NoRoom, ShortOutput, NotNext, UsedUp, BadState}
use Rattle.numbers.proofs.Laws.{left-of, right_of}
use Rattle.memory.specs.Parts.{parts_of, parts_kept}
use Rattle.memory.specs.declared.counts.Counts.{Counts}
use Rattle.memory.specs.declared.span.Holder.TheVariants as holder
use Rattle.putting.specs.Listed.{passes, crowded}
use Rattle.change.specs.Change.{change_kept}
use Rattle.change.specs.Size.{record_size}
use Rattle.files.specs.Queues.{queues_kept, appending_size}
use Rattle.files.specs.Calls.{file_set_full, files_used_up, taken_by, take_file_kept}
use Rattle.files.specs.declared.writing.Taken.{Taken}
use Rattle.ending.specs.EndRecord.{Handed, handed_of, handed_kept, end_answer, is_done}
use Rattle.ending.specs.Inner.{handed_by, file_for}
use Rattle.ending.specs.declared.handed.Handed as code

-- ---- the rules, one after the other

module _ (d : Directory) (h : Handed) where
  pub list_breaks : change_kept d h.list ≡ false → handed_kept d h ≡ false
  unfolding handed_kept
  list_breaks e = rw e

  module _ (e : change_kept d h.list ≡ true) where
    pub shared_breaks : parts_kept holder.Shared h.overlays.parts ≡ false → handed_kept d h ≡ false
    unfolding handed_kept
    shared_breaks f = rw (e, f)

    module _ (f : parts_kept holder.Shared h.overlays.parts ≡ true) where
      pub queues_break : queues_kept h.queues ≡ false → handed_kept d h ≡ false
      unfolding handed_kept
      queues_break g = rw (e, f, g)

      pub next-says : queues_kept h.queues ≡ true → handed_kept d h ≡ not (eqb h.next 0)
      unfolding handed_kept
      next-says g = rw (e, f, g)

-- the output has no rule
pub any_output : (d : Directory) (h : code.Handed) (out : List ℕ) → handed_kept d (handed_by h []) ≡ handed_kept d (handed_by h out)
unfolding handed_kept handed_of
any_output d h out = refl

-- ---- what they give

module _ (d : Directory) (h : Handed) (e : handed_kept d h ≡ true) where
  pub list-kept : change_kept d h.list ≡ true
  unfolding handed_kept
  list-kept = left-of (change_kept d h.list) _ e

  pub shared_kept : parts_kept holder.Shared h.overlays.parts ≡ true
  unfolding handed_kept
  shared_kept = left-of (parts_kept holder.Shared h.overlays.parts) _ (right_of (change_kept d h.list) _ e)

  pub queues-kept : queues_kept h.queues ≡ true
  unfolding handed_kept
  queues-kept = left-of (queues_kept h.queues) _ (right_of (parts_kept holder.Shared h.overlays.parts) _ (right_of (change_kept d h.list) _ e))

  pub next-kept : 0 < h.next
  unfolding handed_kept
  next-kept =
      omega (arith, eqb-false h.next 0 (not-true _ (right_of (queues_kept h.queues) _ (right_of (parts_kept holder.Shared h.overlays.parts) _ (right_of (change_kept d h.list) _ e)))))

-- ---- all was passed

abbrev outcome : Bool → Bool → Bool → Bool → Bool → Bool → Answer
outcome kept next crowd full used short =
    if not kept then BadState else if not next then NotNext else if crowd then NoRoom else if full then NoRoom else if used then UsedUp else if short then ShortOutput else Done

no : {A : Type 0} → false ≡ true → A
no e = let z : ◌≡◌ {A = ℕ} 0 1 = cc in absurd (omega arith)

passed : (k n c f u s : Bool) → is_done (outcome k n c f u s) ≡ true → (k ≡ true) × (n ≡ true) × (c ≡ false) × (f ≡ false) × (u ≡ false) × (s ≡ false)
passed true true false false false false e = (refl, refl, refl, refl, refl, refl)
passed true true false false false true e = no e
passed true true false false true s e = no e
passed true true false true u s e = no e
passed true true true f u s e = no e
passed true false c f u s e = no e
passed false n c f u s e = no e

module _ (d : Directory) (h : Handed) where
  pub record Accepted : Type 0 where
    pub kept : handed_kept d h ≡ true
    pub next : h.list.id + 1 ≡ h.next
    pub free : crowded h.list.parts h.overlays.parts ≡ false
    pub full : file_set_full h.queues ≡ false
    pub used : files_used_up h.queues (record_size h.list) ≡ false
    pub fits : record_size h.list ≤ length h.output

  pub accepted : is_done (end_answer d h) ≡ true → Accepted
  unfolding end_answer
  accepted e =
      let p =
      passed (handed_kept d h) (eqb (h.list.id + 1) h.next) (crowded h.list.parts h.overlays.parts) (file_set_full h.queues) (files_used_up h.queues (record_size h.list))
      (ltb (length h.output) (record_size h.list)) e in
      record {
        kept = p.0;
        next = eqb-true (h.list.id + 1) h.next p.1;
        free = p.2;
        full = p.3;
        used = p.4;
        fits = ltb-false (length h.output) (record_size h.list) p.5;
      }

  pub refused-13 : handed_kept d h ≡ false → end_answer d h ≡ BadState
  unfolding end_answer
  refused-13 e = rw e

  module _ (e : handed_kept d h ≡ true) where
    refused-11 : (h.list.id ≡ h.next - 1 → ⊥) → end_answer d h ≡ NotNext
    unfolding end_answer
    refused-11 f = rw (e, ne_eqb (h.list.id + 1) h.next (λ z. f (omega arith)))

    module _ (f : h.list.id ≡ h.next - 1) where
      is-next : eqb (h.list.id + 1) h.next ≡ true
      is-next = eq-eqb (h.list.id + 1) h.next (omega (arith, next-kept d h e))

      -- what is left to test
      rest : (c u v s : Bool) → crowded h.list.parts h.overlays.parts ≡ c → file_set_full h.queues ≡ u → files_used_up h.queues (record_size h.list) ≡ v → ltb (length h.output) (record_size h.list) ≡ s
          → end_answer d h ≡ outcome true true c u v s
      unfolding end_answer
      rest c u v s p q r t = rw (e, is-next, p, q, r, t)

  -- ---- the file

  pub taken : Accepted → take_file_kept h.queues (record_size h.list) ≡ Ok (taken_by h.queues (appending_size h.queues + record_size h.list))
  unfolding take_file_kept
  taken a = rw (a.full, a.used)

  pub is_refused : (a : Answer) → Err a ≡ file_for d h → (end_answer d h ≡ a) × (is_done (end_answer d h) ≡ false)
  unfolding file_for
  is_refused a e = by (is_done (end_answer d h)) refl e
    where
      by : (b : Bool) → is_done (end_answer d h) ≡ b → Err a ≡ (if b then take_file_kept h.queues (record_size h.list) else Err (end_answer d h)) → (end_answer d h ≡ a) × (is_done (end_answer d h) ≡ false)
      by true f g = let z = g ∙ taken (accepted f) in let w : ◌≡◌ {A = ℕ} 0 1 = cc in absurd (omega arith)
      by false f g = (cc, f)

  pub is_taken : (t : Taken) → Ok t ≡ file_for d h → (is_done (end_answer d h) ≡ true) × (t ≡ taken_by h.queues (appending_size h.queues + record_size h.list))
  unfolding file_for
  is_taken t e = by (is_done (end_answer d h)) refl e
    where
      by : (b : Bool) → is_done (end_answer d h) ≡ b → Ok t ≡ (if b then take_file_kept h.queues (record_size h.list) else Err (end_answer d h))
          → (is_done (end_answer d h) ≡ true) × (t ≡ taken_by h.queues (appending_size h.queues + record_size h.list))
      by true f g = let z = g ∙ taken (accepted f) in (f, cc)
      by false f g = let w : ◌≡◌ {A = ℕ} 0 1 = cc in absurd (omega arith)

  none : (a : Answer) → end_answer d h ≡ a → is_done a ≡ false → Err a ≡ file_for d h
  unfolding file_for
  none a e f = rw (e, f)

  -- ---- the tests of the code, in turn

  module _ (e : handed_kept d h ≡ true) where
    pub file-11 : (h.list.id ≡ h.next - 1 → ⊥) → Err NotNext ≡ file_for d h
    file-11 f = none NotNext (refused-11 e f) refl

    module _ (f : h.list.id ≡ h.next - 1) where
      pub file-9 : crowded h.list.parts h.overlays.parts ≡ true → Err NoRoom ≡ file_for d h
      file-9 c = none NoRoom (rest e f true _ _ _ c refl refl refl) refl

      module _ (c : crowded h.list.parts h.overlays.parts ≡ false) (n : ℕ) (size : n ≡ record_size h.list) where
        by-file : (P : Result Taken Answer → Type 0)
            → ((u v : Bool) → file_set_full h.queues ≡ u → files_used_up h.queues (record_size h.list) ≡ v
            → P (if u then Err NoRoom else if v then Err UsedUp else Ok (taken_by h.queues (appending_size h.queues + record_size h.list)))) → P (take_file_kept h.queues n)
        unfolding take_file_kept
        by-file P g = rw size (g (file_set_full h.queues) (files_used_up h.queues (record_size h.list)) refl refl)

        pub file-refused : (a : Answer) → Err a ≡ take_file_kept h.queues n → Err a ≡ file_for d h
        file-refused a = by-file (λ (r : Result Taken Answer). Err a ≡ r → Err a ≡ file_for d h) by
          where
            by : (u v : Bool) → file_set_full h.queues ≡ u → files_used_up h.queues (record_size h.list) ≡ v
                → Err a ≡ (if u then Err NoRoom else if v then Err UsedUp else Ok (taken_by h.queues (appending_size h.queues + record_size h.list))) → Err a ≡ file_for d h
            by true v p r g = g ∙ none NoRoom (rest e f false true v _ c p r refl) refl
            by false true p r g = g ∙ none UsedUp (rest e f false false true _ c p r refl) refl
            by false false p r g = let w : ◌≡◌ {A = ℕ} 0 1 = cc in absurd (omega arith)

        module _ (t : Taken) (file : Ok t ≡ take_file_kept h.queues n) where
          found : (file_set_full h.queues ≡ false) × (files_used_up h.queues (record_size h.list) ≡ false)
          found = by-file (λ (r : Result Taken Answer). Ok t ≡ r → (file_set_full h.queues ≡ false) × (files_used_up h.queues (record_size h.list) ≡ false)) by file
            where
              by : (u v : Bool) → file_set_full h.queues ≡ u → files_used_up h.queues (record_size h.list) ≡ v
                  → Ok t ≡ (if u then Err NoRoom else if v then Err UsedUp else Ok (taken_by h.queues (appending_size h.queues + record_size h.list)))
                  → (file_set_full h.queues ≡ false) × (files_used_up h.queues (record_size h.list) ≡ false)
              by true v p r g = let w : ◌≡◌ {A = ℕ} 0 1 = cc in absurd (omega arith)
              by false true p r g = let w : ◌≡◌ {A = ℕ} 0 1 = cc in absurd (omega arith)
              by false false p r g = (p, r)

          pub file-10 : length h.output < n → Err ShortOutput ≡ file_for d h
          file-10 i = none ShortOutput (rest e f false false false true c found.0 found.1 (lt-ltb (length h.output) (record_size h.list) (omega (arith, size)))) refl

          pub file-0 : n ≤ length h.output → Ok t ≡ file_for d h
          unfolding file_for
          file-0 i = rw (rest e f false false false false c found.0 found.1 (le-ltb (length h.output) (record_size h.list) (omega (arith, size))), ← size) file

-- keys are counted without their bytes
pub without_bytes : (lc c : Counts) (lw lb w b : List ℕ) → crowded (parts_of holder.List lc lw []) (parts_of holder.Shared c w []) ≡ crowded (parts_of holder.List lc lw lb) (parts_of holder.Shared c w b)
unfolding crowded passes
without_bytes lc c lw lb w b = refl
