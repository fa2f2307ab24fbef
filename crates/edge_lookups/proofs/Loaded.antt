-- Lookups on states that were loaded from words: the state that the code has, and the one that the definition has. Assumes nothing.
use mathlib.Core.Path.{◌≡◌, ap, ap₂, ◌∙◌}
use mathlib.Core.Bool.{true}
use mathlib.Core.List.{List}
use Prim.Native.Nat.{ℕ}
use Rattle.std.specs.Option.{option_or}
use Rattle.directory.specs.declared.table.TableKind.{TableKind}
use Rattle.memory.specs.declared.overlays.LogOverlays.{LogOverlays}
use Rattle.memory.specs.declared.span.Holder.TheVariants as holder
use Rattle.change.specs.Change.{change_of, change_ruled}
use Rattle.change.specs.declared.change.LogChange.{LogChange}
use Rattle.edge_lookups.specs.Lookups.{spotted_in, spotted_first, shared_kept_of, shared_spot, listed_spot, value_look, value_listed_look}

module _ {o p : LogOverlays} (f : o ≡ p) (words bytes : List ℕ) where
  pub kept_from : {k m : TableKind} → k ≡ m → shared_kept_of m p.counts words bytes ≡ true → shared_kept_of k o.counts words bytes ≡ true
  kept_from e h = ap₂ (λ (x : TableKind) (y : LogOverlays). shared_kept_of x y.counts words bytes) e f ∙ h

  module _ (key : ℕ) where
    pub value-from : value_look o words bytes key ≡ value_look p words bytes key
    value-from = ap (λ (y : LogOverlays). value_look y words bytes key) f

    module _ {k m : TableKind} (e : k ≡ m) where
      pub spot-from : shared_spot k o.counts words bytes key ≡ shared_spot m p.counts words bytes key
      spot-from = ap₂ (λ (x : TableKind) (y : LogOverlays). shared_spot x y.counts words bytes key) e f

      pub spotted-from : spotted_in holder.Shared k o.counts words bytes key ≡ spotted_in holder.Shared m p.counts words bytes key
      spotted-from = ap₂ (λ (x : TableKind) (y : LogOverlays). spotted_in holder.Shared x y.counts words bytes key) e f

module _ {a b : LogChange} (g : a ≡ b) (items chunks : List ℕ) where
  pub ruled-from : change_ruled (change_of b items chunks) ≡ true → change_ruled (change_of a items chunks) ≡ true
  ruled-from h = ap (λ (x : LogChange). change_ruled (change_of x items chunks)) g ∙ h

  module _ {o p : LogOverlays} (f : o ≡ p) (words bytes : List ℕ) (key : ℕ) where
    pub value-listed-from : value_listed_look a items chunks o words bytes key ≡ value_listed_look b items chunks p words bytes key
    value-listed-from = ap₂ (λ (x : LogChange) (y : LogOverlays). value_listed_look x items chunks y words bytes key) g f

    module _ {k m : TableKind} (e : k ≡ m) where
      pub spot-listed-from : listed_spot k a items chunks o.counts words bytes key ≡ listed_spot m b items chunks p.counts words bytes key
      spot-listed-from =
          ap (λ (x : LogChange). listed_spot k x items chunks o.counts words bytes key) g
          ∙ ap₂ (λ (x : TableKind) (y : LogOverlays). listed_spot x b items chunks y.counts words bytes key) e f

      pub spotted-listed-from : spotted_first k a items chunks o.counts words bytes key ≡ spotted_first m b items chunks p.counts words bytes key
      spotted-listed-from =
          ap₂ (λ (x : TableKind) (y : LogChange). option_or (spotted_in holder.List x y.counts items chunks key) (spotted_in holder.Shared k o.counts words bytes key)) e g
          ∙ ap (option_or (spotted_in holder.List m b.counts items chunks key)) (spotted-from f words bytes key e)
