-- One kind of three changed: what it then is, what the others are, and what the rules of all say of it. Assumes nothing.
use mathlib.Core.Path.{◌≡◌, refl}
use mathlib.Core.Bool.{true}
use Rattle.directory.specs.declared.table.TableKind.{TableKind}
use Rattle.directory.specs.declared.table.TableKind.TheVariants.{Index, Value, RefCount}
use Rattle.overlay.specs.Rules.{Overlay, overlay_kept}
use Rattle.memory.specs.Parts.{Parts, span_of, of_kind, with_kind, parts_kept}
use Rattle.memory.specs.declared.span.Holder.{Holder}
use Rattle.memory.specs.declared.span.Holder.TheVariants as holder
use Rattle.memory.proofs.Spans.{all-shows}

pub of_with : (kind : TableKind) (p : Parts) (o : Overlay) → of_kind kind (with_kind kind p o) ≡ o
of_with Index p o = refl
of_with Value p o = refl
of_with RefCount p o = refl

pub with_with : (kind : TableKind) (p : Parts) (o x : Overlay) → with_kind kind (with_kind kind p o) x ≡ with_kind kind p x
with_with Index p o x = refl
with_with Value p o x = refl
with_with RefCount p o x = refl

pub with_of : (kind : TableKind) (p : Parts) → with_kind kind p (of_kind kind p) ≡ p
with_of Index p = refl
with_of Value p = refl
with_of RefCount p = refl

pub kind-kept : (h : Holder) (kind : TableKind) (p : Parts) → parts_kept h p ≡ true → overlay_kept kind (span_of h kind).room (of_kind kind p) ≡ true
kind-kept h kind p ok = (all-shows h p ok).each kind

-- each shared kind has room for 256
pub shared_room : (kind : TableKind) → (span_of holder.Shared kind).room ≡ 256
shared_room Index = refl
shared_room Value = refl
shared_room RefCount = refl
