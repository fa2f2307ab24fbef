-- What a call on a list leaves, of what it hands back and of what its definition says: the two are equal. Assumes nothing.
use mathlib.Core.Path.{◌≡◌, refl, ap₂, subst}
use mathlib.Core.List.{List}
use Prim.Native.Nat.{ℕ}
use Rattle.directory.specs.declared.directory.Directory.{Directory}
use Rattle.memory.specs.Parts.{parts_of}
use Rattle.memory.specs.declared.span.Holder.TheVariants as holder
use Rattle.change.specs.Change.{Change, change_of}
use Rattle.change.specs.Insert.{Made, made_of}
use Rattle.change.specs.declared.change.LogChange.{LogChange}
use Rattle.change.specs.declared.change.Changed.{Changed}
use Rattle.std.specs.Prelude.{Result}
use Rattle.answer.specs.declared.answer.Answer.{Answer}
use Rattle.change.specs.declared.values.LocalValues.{LocalValues}
use Rattle.host_words.specs.Head.{HeadLeft}
use Rattle.host_words.specs.Change.{list_size, list_words_of, counts_in, head_of}
use Rattle.edge_lists.specs.Listing.{DropLeft, InsertLeft, SizeLeft, ValuesLeft}

-- a definition over what was loaded, and over the words themselves
pub loaded : {A : Type 0} (f : Directory → Change → A) (items chunks : List ℕ) {d e : Directory} {l m : LogChange} → d ≡ e → l ≡ m → f d (change_of l items chunks) ≡ f e (change_of m items chunks)
loaded f items chunks p q = ap₂ (λ (x : Directory) (y : LogChange). f x (change_of y items chunks)) p q

module _ (w words bytes : List ℕ) (r : Changed) {m : Made} (e : made_of r words bytes ≡ m) {n : ℕ} {z : List ℕ} (p : HeadLeft list_size r.answer (list_words_of r.list) w n z) where
  kept : HeadLeft list_size m.answer (list_words_of (head_of m.change)) w n z
  kept = subst (λ (x : Made). HeadLeft list_size x.answer (list_words_of (head_of x.change)) w n z) e p

  pub drop_left : DropLeft m w n z
  drop_left = record { list = kept }

  pub insert-left : InsertLeft m w n z words bytes
  insert-left = record { list = kept; memories = subst (λ (x : Made). parts_of holder.List (counts_in x.change.parts) words bytes ≡ x.change.parts) e refl }

pub size-left : {d e : Result ℕ Answer} {answer size : ℕ} → d ≡ e → SizeLeft d answer size → SizeLeft e answer size
size-left {answer = answer} {size = size} q p = subst (λ (x : Result ℕ Answer). SizeLeft x answer size) q p

pub values_left : {d e : Result LocalValues Answer} {answer from to : ℕ} → d ≡ e → ValuesLeft d answer from to → ValuesLeft e answer from to
values_left {answer = answer} {from = from} {to = to} q p = subst (λ (x : Result LocalValues Answer). ValuesLeft x answer from to) q p
