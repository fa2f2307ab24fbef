-- The list of a log as it is made, record by record: what is held of it, and what is left. Assumes nothing.
use mathlib.Core.Path.{◌≡◌, refl, sym, ap, ◌∙◌}
use mathlib.Core.Bool.{Bool, true, false}
use mathlib.Core.List.{List, [], ◌∷◌}
use Prim.Native.Nat.{ℕ, ◌+◌, ◌-◌, ◌≤◌, ◌<◌}
use native.Mathlib.Omega.{arith}
use lib.Dec.{ltb}
use lib.ListN.{length, take, drop, length-append, length-drop, length-replicate}
use lib.Seq.{length-take-le}
use Rattle.std.specs.Prelude.{Result, Ok, Err}
use Rattle.std.specs.Result.{IsErr}
use Rattle.directory.specs.declared.directory.Directory.{Directory}
use Rattle.salvaging.specs.declared.lines.Line.{Line}
use Rattle.salvaging.specs.declared.lines.Line.TheVariants.{Kept, Lost}
use Rattle.salvaging.specs.Salvage.{found_on, left_out, lines_between, lines_of, kept_bytes}
use Rattle.salvaging.specs.Inner.{search_in, Inside, no_lines, leaving_out, keeping, Ruled, Lists}
use Rattle.salvaging.specs.declared.lines.Lines.{Lines}
use Rattle.salvaging.specs.declared.search.Found.{Found}
use Rattle.salvaging.specs.declared.search.Search.{Search}
use Rattle.salvaging.specs.declared.search.Search.TheVariants.{Record, Open, Nothing}
use Rattle.salvaging.proofs.Held.{Going, Held, up-same, record_adds, stretch-held, record_held, held_all}
use Rattle.salvaging.proofs.Seeking.{inside_record, first_found, none_found, none_open}

-- what is left out has no bytes in the output
out-bytes : (log : List ℕ) (at to : ℕ) (ls : List Line) → kept_bytes log (left_out at to ls) ≡ kept_bytes log ls
unfolding kept_bytes
out-bytes log at to ls = by (ltb at to) refl
  where
    by : (b : Bool) → ltb at to ≡ b → kept_bytes log (left_out at to ls) ≡ kept_bytes log ls
    by true q = rw q
    by false q = rw q

-- a record has as many as it is long
record_length : (log : List ℕ) (p n id : ℕ) (ls : List Line) → p + n ≤ length log → length (kept_bytes log (Kept p n id ∷ ls)) ≡ n + length (kept_bytes log ls)
unfolding kept_bytes
record_length log p n id ls h =
    let e : length (take n (drop p log)) ≡ n = length-take-le n (drop p log) (rw length-drop (omega arith)) in
    simp length-append (omega (arith, e))

-- a list that is too long is told by any place
pub lists-over : (log : List ℕ) (r : Result Lines ℕ) (ls : List Line) → IsErr r → 64 < length ls → Lists log r ls
lists-over log (Ok l) ls e h = let z : ◌≡◌ {A = Bool} false true = e in cc
lists-over log (Err place) ls e h = h

module _ (d : Directory) (log : List ℕ) where
  -- the lines from a position on
  abbrev lines_at : ℕ → List Line
  lines_at at = lines_between at (found_on d log at) (length log)

  pub record Rest (l : Lines) (at : ℕ) : Type 0 where
    pub ends : l.end ≡ at
    pub inside : at ≤ length log
    pub ruled : l.bytes ≤ at
    pub held : Going l (lines_at at) (lines_of d log)
    pub bytes : l.bytes + length (kept_bytes log (lines_at at)) ≡ length (kept_bytes log (lines_of d log))

  pub rest-first : (l : Lines) → l ≡ no_lines → Rest l 0
  unfolding lines_of
  rest-first l e =
      rw e
      (record {
        ends = refl;
        inside = omega arith;
        ruled = omega arith;
        held = record { long = length-replicate {A = Line} 64 (Lost 0 0); room = omega arith; lines = refl };
        bytes = omega arith;
      })

  -- what becomes of them with a record more: there is room, or the list is too long
  abbrev Onward : Result Lines ℕ → ℕ → Type 0
  Onward (Ok m) at = Rest m at
  Onward (Err place) at = 64 < length (lines_of d log)

  -- by what the search from there on answers
  module _ (l : Lines) (at : ℕ) (r : Rest l at) (s : Search) (e : s ≡ search_in false d log at) (i : Inside s at (length log)) where
    pub record_inside : (f : Found) → s ≡ Record f → (at ≤ f.position) × (f.position < f.end) × (f.end ≤ length log)
    record_inside f q = inside_record s at (length log) i f q

    pub record_room : (f : Found) → s ≡ Record f → (Ruled l) × (l.end ≤ f.position) × (f.position ≤ f.end)
    record_room f q =
        let k = record_inside f q in
        (omega (arith, r.ruled, r.ends), omega (arith, r.ends, k), omega (arith, k))

    pub rest_record : (f : Found) → s ≡ Record f → (m : Result Lines ℕ) → m ≡ keeping l f.position f.end f.id → Onward m f.end
    unfolding lines_between
    rest_record f q m p =
        let k = record_inside f q in
        let behind : List Line = Kept f.position (f.end - f.position) f.id ∷ lines_at f.end in
        let g : lines_at at ≡ left_out at f.position behind = ap (λ (fs : List Found). lines_between at fs (length log)) (first_found d log at f (sym q ∙ e)) in
        let z : left_out at f.position behind ≡ left_out l.end f.position behind = ap (λ (n : ℕ). left_out n f.position behind) (sym r.ends) in
        let n : length (kept_bytes log (lines_at at)) ≡ f.end - f.position + length (kept_bytes log (lines_at f.end)) =
        ap (λ (ls : List Line). length (kept_bytes log ls)) g ∙ ap length (out-bytes log at f.position behind)
        ∙ record_length log f.position (f.end - f.position) f.id (lines_at f.end) (omega (arith, k)) in
        by m p (rw p (record_held l f.position f.end f.id (lines_at f.end) (lines_of d log) (rw (g ∙ z) at r.held))) k n
      where
        by : (m : Result Lines ℕ) → m ≡ keeping l f.position f.end f.id → Held m (lines_at f.end) (lines_of d log) → (at ≤ f.position) × (f.position < f.end) × (f.end ≤ length log)
            → length (kept_bytes log (lines_at at)) ≡ f.end - f.position + length (kept_bytes log (lines_at f.end)) → Onward m f.end
        by (Ok m) p h k n =
            let b = record_adds l f.position f.end f.id m p in
            record { ends = b.0; inside = k.2; ruled = omega (arith, b.1, r.ruled, k); held = h; bytes = omega (arith, b.1, r.bytes, n) }
        by (Err place) p h k n = h

    -- nothing is found behind it
    pub rest-last : ((f : Found) → s ≡ Record f → ⊥) → (m : Result Lines ℕ) → m ≡ leaving_out l (length log) → Lists log m (lines_of d log)
    unfolding lines_between kept_bytes
    rest-last k m p =
        let q : s ≡ Nothing = nothing s refl in
        let g : lines_at at ≡ left_out l.end (length log) [] =
        ap (λ (fs : List Found). lines_between at fs (length log)) (none_found d log at (sym q ∙ e)) ∙ ap (λ (n : ℕ). left_out n (length log) []) (sym r.ends) in
        let n : length (kept_bytes log (lines_at at)) ≡ 0 = ap (λ (ls : List Line). length (kept_bytes log ls)) g ∙ ap length (out-bytes log l.end (length log) []) in
        by m p (rw p (stretch-held l [] (lines_of d log) (length log) (rw g at r.held))) n
      where
        nothing : (r : Search) → s ≡ r → s ≡ Nothing
        nothing (Record f) q = absurd (k f q)
        nothing (Open p) q = absurd (none_open d log at p (sym q ∙ e))
        nothing Nothing q = q

        by : (m : Result Lines ℕ) → m ≡ leaving_out l (length log) → Held m [] (lines_of d log) → length (kept_bytes log (lines_at at)) ≡ 0 → Lists log m (lines_of d log)
        by (Ok m) p h n = held_all log m (lines_of d log) h (omega (arith, (up-same l (length log) m p).1, r.bytes, n))
        by (Err place) p h n = h
