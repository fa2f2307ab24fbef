-- Lines by value, as they are added one by one: what they hold, and what of a list is still left to add. Assumes nothing.
use mathlib.Core.Path.{◌≡◌, refl, sym, ap, ◌∙◌}
use mathlib.Core.Bool.{Bool, true, false}
use mathlib.Core.List.{List, [], ◌∷◌, ◌++◌, append_assoc, append-nil}
use Prim.Native.Nat.{ℕ, ◌+◌, ◌-◌, ◌≤◌, ◌<◌}
use native.Mathlib.Omega.{arith}
use lib.Dec.{ltb, leb}
use lib.ListN.{length, take, set, length-append, length-set}
use lib.Seq.{length-take-le}
use Rattle.std.proofs.lemmas.List.{take_more_set}
use borrow.Author.Tests.{leb-true, leb-false}
use Rattle.std.specs.Prelude.{Result, Ok, Err}
use Rattle.salvaging.specs.declared.lines.Line.{Line}
use Rattle.salvaging.specs.declared.lines.Line.TheVariants.{Kept, Lost}
use Rattle.salvaging.specs.declared.lines.Lines.{Lines}
use Rattle.salvaging.specs.Salvage.{left_out, kept_bytes}
use Rattle.salvaging.specs.Inner.{with_line, leaving_out, if_room, covering_on, keeping, Holds}

-- ---- where they end, and how many bytes they keep

with_same : (l : Lines) (x : Line) (m : Lines) → Ok m ≡ with_line l x → (m.end ≡ l.end) × (m.bytes ≡ l.bytes)
with_same l x m e = by (leb 64 l.count) refl
  where
    by : (b : Bool) → leb 64 l.count ≡ b → (m.end ≡ l.end) × (m.bytes ≡ l.bytes)
    by true q = let z : ◌≡◌ {A = ℕ} 0 1 = cc (rw q at e) in absurd (omega arith)
    by false q =
        let s : m ≡ record { lines = set l.lines l.count x; count = l.count + 1; end = l.end; bytes = l.bytes } = cc (rw q at e) in
        (ap (λ (y : Lines). y.end) s, ap (λ (y : Lines). y.bytes) s)

-- what is left out changes neither
pub up-same : (l : Lines) (to : ℕ) (m : Lines) → Ok m ≡ leaving_out l to → (m.end ≡ l.end) × (m.bytes ≡ l.bytes)
up-same l to m e = by (ltb l.end to) refl
  where
    by : (b : Bool) → ltb l.end to ≡ b → (m.end ≡ l.end) × (m.bytes ≡ l.bytes)
    by true q = with_same l (Lost l.end (to - l.end)) m (rw q at e)
    by false q =
        let s : m ≡ l = cc (rw q at e) in
        (ap (λ (y : Lines). y.end) s, ap (λ (y : Lines). y.bytes) s)

-- the bytes of a record are added to those before it
pub record_adds : (l : Lines) (from end id : ℕ) (m : Lines) → Ok m ≡ keeping l from end id → (m.end ≡ end) × (m.bytes ≡ l.bytes + (end - from))
record_adds l from end id m e = by (leaving_out l from) refl e
  where
    covered : (k : Lines) (r : Result Lines ℕ) → r ≡ with_line k (Kept from (end - from) id) → Ok m ≡ if_room (covering_on end (end - from)) r → (m.end ≡ end) × (m.bytes ≡ k.bytes + (end - from))
    covered k (Ok n) p h =
        let s : m ≡ record { lines = n.lines; count = n.count; end = end; bytes = n.bytes + (end - from) } = cc in
        (ap (λ (y : Lines). y.end) s, ap (λ (y : Lines). y.bytes) s ∙ ap (λ (b : ℕ). b + (end - from)) (with_same k (Kept from (end - from) id) n p).1)
    covered k (Err place) p h = let z : ◌≡◌ {A = ℕ} 0 1 = cc in absurd (omega arith)

    by : (r : Result Lines ℕ) → leaving_out l from ≡ r → Ok m ≡ if_room (λ k. if_room (covering_on end (end - from)) (with_line k (Kept from (end - from) id))) r → (m.end ≡ end) × (m.bytes ≡ l.bytes + (end - from))
    by (Ok k) q h =
        let c = covered k (with_line k (Kept from (end - from) id)) refl h in
        (c.0, c.1 ∙ ap (λ (b : ℕ). b + (end - from)) (up-same l from k (sym q)).1)
    by (Err place) q h = let z : ◌≡◌ {A = ℕ} 0 1 = cc in absurd (omega arith)

-- ---- what is held of a list, and what is left of it

pub record Going (l : Lines) (left all : List Line) : Type 0 where
  pub long : length l.lines ≡ 64
  pub room : l.count ≤ 64
  pub lines : take l.count l.lines ++ left ≡ all

-- or it is longer than there is room for
abbrev pub Held : Result Lines ℕ → List Line → List Line → Type 0
Held (Ok l) left all = Going l left all
Held (Err place) left all = 64 < length all

-- a line more is held, or there are more than 64
line-held : (l : Lines) (x : Line) (left all : List Line) → Going l (x ∷ left) all → Held (with_line l x) left all
line-held l x left all g = by (leb 64 l.count) refl
  where
    long : 64 ≤ l.count → 64 < length all
    long h =
        let n : length (take l.count l.lines) ≡ l.count = length-take-le l.count l.lines (omega (arith, g.long, g.room)) in
        omega (arith, ap length g.lines, length-append (take l.count l.lines) (x ∷ left))

    more : l.count < 64 → Going (record { lines = set l.lines l.count x; count = l.count + 1; end = l.end; bytes = l.bytes }) left all
    more h = record {
      long = length-set l.lines l.count x ∙ g.long;
      room = omega arith;
      lines =
          ap (λ (y : List Line). y ++ left) (take_more_set l.lines l.count x (omega (arith, g.long)))
          ∙ append_assoc (take l.count l.lines) (x ∷ []) left ∙ g.lines;
    }

    by : (b : Bool) → leb 64 l.count ≡ b → Held (with_line l x) left all
    by true q = rw q (long (leb-true 64 l.count q))
    by false q = rw q (more (omega (arith, leb-false 64 l.count q)))

-- a stretch left out too
pub stretch-held : (l : Lines) (ls all : List Line) (to : ℕ) → Going l (left_out l.end to ls) all → Held (leaving_out l to) ls all
stretch-held l ls all to h = by (ltb l.end to) refl h
  where
    by : (b : Bool) → ltb l.end to ≡ b → Going l (left_out l.end to ls) all → Held (leaving_out l to) ls all
    by true q k = rw q (line-held l (Lost l.end (to - l.end)) ls all (rw q at k))
    by false q k = rw q (rw q at k)

-- and a record behind it
pub record_held : (l : Lines) (from end id : ℕ) (ls all : List Line) → Going l (left_out l.end from (Kept from (end - from) id ∷ ls)) all → Held (keeping l from end id) ls all
record_held l from end id ls all h = by (leaving_out l from) (stretch-held l (Kept from (end - from) id ∷ ls) all from h)
  where
    covered : (r : Result Lines ℕ) → Held r ls all → Held (if_room (covering_on end (end - from)) r) ls all
    covered (Ok m) g = record { long = g.long; room = g.room; lines = g.lines }
    covered (Err place) g = g

    by : (r : Result Lines ℕ) → Held r (Kept from (end - from) id ∷ ls) all
        → Held (if_room (λ m. if_room (covering_on end (end - from)) (with_line m (Kept from (end - from) id))) r) ls all
    by (Ok m) g = covered (with_line m (Kept from (end - from) id)) (line-held m (Kept from (end - from) id) ls all g)
    by (Err place) g = g

-- ---- all of a list is held

pub held_all : (log : List ℕ) (l : Lines) (all : List Line) → Going l [] all → l.bytes ≡ length (kept_bytes log all) → Holds log l all
held_all log l all g b =
    let e : take l.count l.lines ≡ all = sym (append-nil (take l.count l.lines)) ∙ g.lines in
    record { room = g.room; lines = e; count = sym (length-take-le l.count l.lines (omega (arith, g.long, g.room))) ∙ ap length e; bytes = b }
