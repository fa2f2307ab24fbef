-- The walk over a record, an action at a time. Assumes nothing.
use mathlib.Core.Path.{◌≡◌, refl, sym, ap, ◌∙◌}
use mathlib.Core.Bool.{true, false, false≢true}
use mathlib.Core.List.{List}
use Prim.Native.Nat.{ℕ}
use Rattle.directory.specs.declared.directory.Directory.{Directory}
use Rattle.directory.specs.declared.table.TableKind.{TableKind}
use Rattle.keys.specs.Keys.{rank}
use Rattle.record.specs.Next.{is_end, step_of}
use Rattle.record.specs.declared.action.LogAction.{LogAction}
use Rattle.record.specs.declared.reader.LogReader.{LogReader}
use Rattle.record.specs.declared.reader.Stepped.{Stepped}
use Rattle.effect.specs.Effect.{Written}
use Rattle.replay.specs.Inner.{is_walked}
use Rattle.replay.specs.Replay.{Walked, fault, walked, written_in, add_first, rest_in}
use Rattle.replay.proofs.Rest.{last, more}
use Rattle.memory.specs.declared.span.Holder.TheVariants as holder
use Rattle.memory.specs.Parts.{Parts, parts_kept, remove_from}
use Rattle.clearing.specs.Clear.{NamedKey, named_by, cleared_key, cleared_by}
use Rattle.clearing.specs.Inner.{cleared_walk}
use Rattle.std.specs.Prelude.{Some, None}
use Rattle.clearing.proofs.Cleared.{key-kept}
use Rattle.std.specs.Prelude.{Ok}

-- an action's key, as it was found: none, or one that is taken out
module _ (id : ℕ) (action : LogAction) (p : Parts) {k : NamedKey} (e : k ≡ named_by action) where
  pub no_key : k ≡ None → p ≡ cleared_key id (named_by action) p
  no_key f = ap (λ (x : NamedKey). cleared_key id x p) (sym f ∙ e)

  pub one_key : (kind : TableKind) (table index : ℕ) → k ≡ Some (kind, table, index) → {q : Parts} → q ≡ remove_from kind p (rank table index) id → q ≡ cleared_key id (named_by action) p
  one_key kind table index f d = d ∙ ap (λ (x : NamedKey). cleared_key id x p) (sym f ∙ e)

module _ (id : ℕ) (d : Directory) (log : List ℕ) (r : LogReader) (s : Stepped) (p : Parts) (e : step_of d log r ≡ Ok s) where
  pub last-cleared : is_end s.action ≡ true → p ≡ cleared_walk id (rest_in d log r) p
  unfolding cleared_by
  last-cleared t = sym (ap (λ (g : Walked (List Written)). cleared_walk id g p) (last d log r s e t))

  first : (w : Written) (g : Walked (List Written)) → is_walked (add_first w g) ≡ true
      → (is_walked g ≡ true) × (cleared_walk id (add_first w g) p ≡ cleared_walk id g (cleared_key id (named_by w.action) p))
  unfolding cleared_by
  first w (fault x) f = absurd (false≢true f)
  first w (walked ws end) f = (refl, refl)

  -- one action cleared, and the walk goes on behind it
  pub more-cleared : {q : Parts} → q ≡ cleared_key id (named_by s.action) p → is_end s.action ≡ false → parts_kept holder.Shared p ≡ true → is_walked (rest_in d log r) ≡ true
      → (parts_kept holder.Shared q ≡ true) × (is_walked (rest_in d log s.reader) ≡ true) × (cleared_walk id (rest_in d log s.reader) q ≡ cleared_walk id (rest_in d log r) p)
  more-cleared c t ok g =
      let m = more d log r s e t in
      let f = first (written_in log s) (rest_in d log s.reader) (sym (ap is_walked m) ∙ g) in (
        ap (parts_kept holder.Shared) c ∙ key-kept id (named_by s.action) p ok,
        f.0,
        ap (cleared_walk id (rest_in d log s.reader)) c ∙ sym f.1 ∙ sym (ap (λ (x : Walked (List Written)). cleared_walk id x p) m),
      )
