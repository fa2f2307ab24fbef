-- What `value` looks up, by the rules of the memories, and what is copied then. Assumes nothing.
use mathlib.Core.Path.{◌≡◌, refl, sym, ap, ◌∙◌}
use mathlib.Core.Bool.{Bool, true, false, ◌&&◌}
use mathlib.Core.List.{List}
use mathlib.Core.Option.{Option, none}
use Prim.Native.Nat.{ℕ}
use borrow.Author.Tests.{eq-eqb}
use lib.Dec.{eqb}
use lib.ListN.{length}
use lib.Seq.{take-nil}
use Rattle.std.specs.Prelude.{if◌then◌else◌}
use Rattle.answer.specs.Answer.{number_of}
use Rattle.directory.specs.declared.table.TableKind.TheVariants.{Value}
use Rattle.numbers.specs.Numbers.{one_if}
use Rattle.overlay.specs.Rules.{Overlay, overlay_kept}
use Rattle.overlay.specs.Entries.{Entry}
use Rattle.memory.specs.Parts.{words_in, bytes_in, part_of}
use Rattle.memory.specs.declared.overlays.LogOverlays.{LogOverlays}
use Rattle.std.specs.Prelude.{Result, Ok, Err}
use Rattle.answer.specs.declared.answer.Answer.{Answer}
use Rattle.answer.specs.declared.answer.Answer.TheVariants.{Done}
use Rattle.memory.specs.declared.span.Holder.TheVariants as holder
use Rattle.change.specs.Change.{change_of, change_ruled}
use Rattle.change.specs.declared.change.LogChange.{LogChange}
use Rattle.query.specs.Query.{Looked, looked_if, no_look, shared_part, shared_look, listed_look, bytes_of, is_there, copied_over}
use Rattle.edge_lookups.specs.Lookups.{shared_kept_of, value_look, value_listed_look, Copied, FoundLeft, CopyLeft}
use Rattle.edge_lookups.proofs.Places.{Ready, shared_ready}

-- where nothing is looked up nothing is copied
pub copied_nothing : (l : Looked) → l ≡ no_look → (dest : List ℕ) → dest ≡ copied_over (bytes_of l.entry) dest
copied_nothing l e dest = rw (e, take-nil)

-- two lengths and a rule, tested at once or one after the other
not_looked : (a b k : Bool) (f : Option Entry) → (a && (b && k)) ≡ false → (if a && b then looked_if k f else looked_if false none) ≡ looked_if false none
not_looked true true true f e = let z : ◌≡◌ {A = Looked} (looked_if true f) (looked_if false f) = ap (λ (x : Bool). looked_if x f) e in z
not_looked true true false f e = refl
not_looked true false k f e = refl
not_looked false b k f e = refl

and_less : (a b k r : Bool) → (a && (b && k)) ≡ false → (a && (b && (r && k))) ≡ false
and_less true true k true e = e
and_less true true k false e = refl
and_less true false k r e = refl
and_less false b k r e = refl

and_never : (a b k : Bool) → (a && (b && (false && k))) ≡ false
and_never true true k = refl
and_never true false k = refl
and_never false b k = refl

module _ (o : LogOverlays) (words bytes : List ℕ) (key : ℕ) where
  abbrev long : Bool
  long = eqb (length words) 3840

  abbrev wide : Bool
  wide = eqb (length bytes) 524288

  abbrev rules : Bool
  rules = overlay_kept Value 256 (part_of holder.Shared Value o.counts words bytes)

  -- the values' parts, as the code lends them
  abbrev lent : Looked
  lent = shared_look Value (shared_part Value o (words_in holder.Shared Value words) (bytes_in holder.Shared Value bytes)) key

  pub value_not : shared_kept_of Value o.counts words bytes ≡ false → value_look o words bytes key ≡ no_look
  unfolding value_look shared_kept_of shared_look
  value_not h = not_looked long wide rules _ h

  module _ (h : shared_kept_of Value o.counts words bytes ≡ true) where
    r : Ready holder.Shared Value o.counts words bytes
    r = shared_ready Value o.counts words bytes h

    pub value-kept : value_look o words bytes key ≡ lent
    unfolding value_look
    value-kept = rw (eq-eqb (length words) 3840 r.words_long, eq-eqb (length bytes) 524288 r.bytes-long)

    pub value_done : (value_look o words bytes key).answer ≡ Done
    unfolding value_look shared_look
    value_done = rw (eq-eqb (length words) 3840 r.words_long, eq-eqb (length bytes) 524288 r.bytes-long, r.rules)

  module _ (l : LogChange) (items chunks : List ℕ) where
    pub listed_broken : change_ruled (change_of l items chunks) ≡ false → value_listed_look l items chunks o words bytes key ≡ no_look
    unfolding value_listed_look listed_look
    listed_broken h = not_looked long wide (change_ruled (change_of l items chunks) && rules) _ (rw h (and_never long wide rules))

    pub listed_not : shared_kept_of Value o.counts words bytes ≡ false → value_listed_look l items chunks o words bytes key ≡ no_look
    unfolding value_listed_look listed_look shared_kept_of
    listed_not h = not_looked long wide (change_ruled (change_of l items chunks) && rules) _ (and_less long wide rules (change_ruled (change_of l items chunks)) h)

    pub listed_kept : shared_kept_of Value o.counts words bytes ≡ true
        → value_listed_look l items chunks o words bytes key ≡ listed_look Value (change_of l items chunks) (shared_part Value o (words_in holder.Shared Value words) (bytes_in holder.Shared Value bytes)) key
    unfolding value_listed_look
    listed_kept h = let k = r h in rw (eq-eqb (length words) 3840 k.words_long, eq-eqb (length bytes) 524288 k.bytes-long)

    pub listed_done : change_ruled (change_of l items chunks) ≡ true → shared_kept_of Value o.counts words bytes ≡ true → (value_listed_look l items chunks o words bytes key).answer ≡ Done
    unfolding value_listed_look listed_look
    listed_done q h = let k = r h in rw (eq-eqb (length words) 3840 k.words_long, eq-eqb (length bytes) 524288 k.bytes-long, q, k.rules)

-- the parts that the code lends are the values'
module _ (o : LogOverlays) (words bytes : List ℕ) (h : shared_kept_of Value o.counts words bytes ≡ true) (x : LogOverlays) (w b : List ℕ)
    (e : x ≡ o) (f : w ≡ words_in holder.Shared Value words) (g : b ≡ bytes_in holder.Shared Value bytes) where
  parts_are : shared_part Value x w b ≡ shared_part Value o (words_in holder.Shared Value words) (bytes_in holder.Shared Value bytes)
  parts_are = rw (e, f, g)

  pub lent_kept : overlay_kept Value 256 (shared_part Value x w b) ≡ true
  lent_kept = ap (overlay_kept Value 256) parts_are ∙ (shared_ready Value o.counts words bytes h).rules

  pub lent_look : (key : ℕ) → shared_look Value (shared_part Value x w b) key ≡ value_look o words bytes key
  lent_look key = ap (λ (p : Overlay). shared_look Value p key) parts_are ∙ sym (value-kept o words bytes key h)

  pub lent_listed : (l : LogChange) (items chunks : List ℕ) (key : ℕ) → listed_look Value (change_of l items chunks) (shared_part Value x w b) key ≡ value_listed_look l items chunks o words bytes key
  lent_listed l items chunks key = ap (λ (p : Overlay). listed_look Value (change_of l items chunks) p key) parts_are ∙ sym (listed_kept o words bytes key l items chunks h)

-- as words: the answer's number, the destination, and whether there was a value
pub told : (l m : Looked) → l ≡ m → (r : Result Bool Answer) (dest after : List ℕ) → Copied l r → after ≡ copied_over (bytes_of l.entry) dest → {n f : ℕ} → FoundLeft r n f → CopyLeft m dest n after f
told l m e (Ok there) dest after t c a = record {
  number = a.0 ∙ ap number_of (sym t.0 ∙ ap (λ (x : Looked). x.answer) e);
  copy = c ∙ ap (λ (x : Looked). copied_over (bytes_of x.entry) dest) e;
  some = a.1 ∙ ap one_if (t.1 ∙ ap (λ (x : Looked). is_there x.entry) e);
}
told l m e (Err b) dest after t c a = record {
  number = a.0 ∙ ap number_of (t.0 ∙ ap (λ (x : Looked). x.answer) (sym t.1 ∙ e));
  copy = c ∙ ap (λ (x : Looked). copied_over (bytes_of x.entry) dest) e;
  some = a.1 ∙ ap (λ (x : Looked). one_if (is_there x.entry)) (sym t.1 ∙ e);
}
