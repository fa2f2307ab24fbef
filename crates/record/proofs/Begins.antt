-- An opening that gives an id is a begin tag with that id behind it. Assumes nothing.
use mathlib.Core.Path.{◌≡◌, refl, sym, ap, ◌∙◌}
use mathlib.Core.Bool.{Bool, true, false, true≢false, not, ◌||◌}
use mathlib.Core.List.{List, [], ◌∷◌}
use Prim.Native.Nat.{ℕ, ◌+◌, ◌-◌}
use native.Mathlib.Omega.{arith}
use lib.Dec.{eqb, ltb}
use lib.ListN.{length, get_or, take, drop}
use borrow.Author.Tests.{eqb-true, ltb-true, ltb-false}
use Rattle.std.specs.Prelude.{if◌then◌else◌}
use Rattle.words.specs.Words.{little, little_at}
use Rattle.checksum.specs.Checksum.{checksum_of}
use Rattle.answer.specs.declared.answer.Answer.TheVariants.{UnknownTag, OutOfPlace, WrongSum}
use Rattle.directory.specs.declared.directory.Directory.{Directory}
use Rattle.record.specs.Format.{Format, need, refuse, give, stopped, got, read_at, ◌>>◌, test}
use Rattle.record.specs.Record.{begun_id, early, early_end, opening_by, opening}
use Rattle.record.specs.Next.{forward_to, beginning, opened, reader_at, step_of}
use Rattle.record.specs.declared.reader.LogReader.{LogReader}
use Rattle.record.specs.declared.reader.Stepped.{Stepped}
use Rattle.record.proofs.Parts.{begun-short, begun_met, opening-short, opening_met}
use Rattle.record.proofs.Steps.{Read, within_record, at-opening, taken}
use Rattle.std.specs.Prelude.{Ok}

-- a format that comes to nothing but refusals
abbrev Silent : Format ℕ → Type 0
Silent (need k short f) = (bs : List ℕ) → Silent (f bs)
Silent (refuse answer) = Unit {0}
Silent (give a) = ⊥

silent_gives : (f : Format ℕ) → Silent f → (at : ℕ) (log : List ℕ) (a end : ℕ) → read_at f at log ≡ got a end → ⊥
unfolding read_at
silent_gives (need k short f) s at log a end e = by (ltb (length log - at) k) e (silent_gives (f (take k (drop at log))) (s (take k (drop at log))) (at + k) log a end)
  where
    by : (b : Bool) → (if b then stopped short else read_at (f (take k (drop at log))) (at + k) log) ≡ got a end → (read_at (f (take k (drop at log))) (at + k) log ≡ got a end → ⊥) → ⊥
    by true q ih = let z : ◌≡◌ {A = ℕ} 0 1 = cc in omega arith
    by false q ih = ih q
silent_gives (refuse answer) s at log a end e = let z : ◌≡◌ {A = ℕ} 0 1 = cc in omega arith
silent_gives (give b) s at log a end e = s

silent_if : (b : Bool) (f g : Format ℕ) → Silent f → Silent g → Silent (if b then f else g)
silent_if true f g s t = s
silent_if false f g s t = t

early-silent : (k : ℕ) → Silent (early k)
unfolding early
early-silent k = λ (bs : List ℕ). tt

end-silent : (validate : Bool) → Silent (early_end validate)
unfolding early_end
end-silent validate = λ (bs : List ℕ). by (not validate || eqb (little bs) (checksum_of (4 ∷ [])))
  where
    by : (b : Bool) → Silent (test b WrongSum >> refuse OutOfPlace)
    by true = tt
    by false = tt

-- what stands where a record opened
pub record Begins (log : List ℕ) (at id end : ℕ) : Type 0 where
  pub tag : get_or log at 0 ≡ 1
  pub there : id ≡ little_at 8 log (at + 1)
  pub closes : end ≡ at + 1 + 8

module _ (log : List ℕ) where
  begun-id : (p id end : ℕ) → read_at begun_id p log ≡ got id end → (id ≡ little_at 8 log p) × (end ≡ p + 8)
  begun-id p id end e = by (ltb (length log - p) 8) refl
    where
      by : (b : Bool) → ltb (length log - p) 8 ≡ b → (id ≡ little_at 8 log p) × (end ≡ p + 8)
      by true h = let z : ◌≡◌ {A = ℕ} 0 1 = cc (sym (begun-short p log (ltb-true (length log - p) 8 h)) ∙ e) in absurd (omega arith)
      by false h = let q : got (little_at 8 log p) (p + 8) ≡ got id end = sym (begun_met p log (little_at 8 log p) (ltb-false (length log - p) 8 h) refl) ∙ e in (cc, cc)

  by-tag : (validate : Bool) (tag p id end : ℕ) → read_at (opening_by validate tag) p log ≡ got id end → (tag ≡ 1) × (id ≡ little_at 8 log p) × (end ≡ p + 8)
  unfolding opening_by
  by-tag validate tag p id end e = by (eqb tag 1) refl e
    where
      rest : Format ℕ
      rest =
          if eqb tag 2 then early 10 else if eqb tag 3 then early 10 else if eqb tag 4 then early_end validate else if eqb tag 5 then early 2 else if eqb tag 6 then early 10 else if eqb tag 7 then early 2 else refuse UnknownTag

      silent : Silent rest
      silent =
          silent_if (eqb tag 2) _ _ (early-silent 10) (silent_if (eqb tag 3) _ _ (early-silent 10) (silent_if (eqb tag 4) _ _ (end-silent validate) (silent_if (eqb tag 5) _ _ (early-silent 2) (silent_if (eqb tag 6) _ _ (early-silent 10) (silent_if (eqb tag 7) (early 2) (refuse UnknownTag) (early-silent 2) tt)))))

      by : (b : Bool) → eqb tag 1 ≡ b → read_at (if b then begun_id else rest) p log ≡ got id end → (tag ≡ 1) × (id ≡ little_at 8 log p) × (end ≡ p + 8)
      by true t q = let g = begun-id p id end q in (eqb-true tag 1 t, g.0, g.1)
      by false t q = absurd (silent_gives rest silent p log id end q)

  pub begins : (validate : Bool) (at id end : ℕ) → read_at (opening validate) at log ≡ got id end → Begins log at id end
  begins validate at id end e = by (ltb (length log - at) 1) refl
    where
      by : (b : Bool) → ltb (length log - at) 1 ≡ b → Begins log at id end
      by true h = let z : ◌≡◌ {A = ℕ} 0 1 = cc (sym (opening-short at log validate (ltb-true (length log - at) 1 h)) ∙ e) in absurd (omega arith)
      by false h =
          let g = by-tag validate (get_or log at 0) (at + 1) id end (sym (opening_met at log validate (get_or log at 0) (ltb-false (length log - at) 1 h) refl) ∙ e) in
          record { tag = g.0; there = g.1; closes = g.2 }

-- a reader behind an opening has the record's id, which stands behind the begin tag
reader-is : (log : List ℕ) (r : LogReader) (s : Stepped) (id end : ℕ) → Ok s ≡ opened log r (got id end) → (s.reader.record_id ≡ id) × (s.reader.position ≡ end)
unfolding forward_to
reader-is log r s id end f =
    let p : s.reader ≡ forward_to log (beginning r id) end = cc in
    (ap (λ (x : LogReader). x.record_id) p, ap (λ (x : LogReader). x.position) p)

pub begun : (d : Directory) (log : List ℕ) (at : ℕ) (validate : Bool) (s : Stepped) → step_of d log (reader_at at validate) ≡ Ok s → Begins log at s.reader.record_id s.reader.position
begun d log at validate s e = by (taken d log (reader_at at validate) s e).read
  where
    by : Read d log (reader_at at validate) s → Begins log at s.reader.record_id s.reader.position
    by (within_record b i end q f) = absurd (true≢false (sym b))
    by (at-opening b id end q f) =
        let g = begins log validate at id end q in
        let r = reader-is log (reader_at at validate) s id end f in
        record { tag = g.tag; there = r.0 ∙ g.there; closes = r.1 ∙ g.closes }
