-- What an insert means: the entry is put over the one of its key with the slot's bit added to its mask, whole; every other key, and every other
-- kind, is as it was. All of it is the law of a put. Assumes nothing.
use mathlib.Core.Path.{◌≡◌, refl, ap, ◌∙◌}
use mathlib.Core.Bool.{Bool, true, false}
use mathlib.Core.List.{List}
use mathlib.Core.Option.{some}
use Prim.Native.Nat.{ℕ, ◌^◌}
use native.Mathlib.Omega.{arith}
use lib.Bits.{bit_or, or_add_and, and_le_l}
use lib.Pow.{pow_pos}
use lib.Dec.{ltb, eqb}
use lib.ListN.{length}
use borrow.Author.Tests.{lt-ltb, eq-eqb}
use Rattle.std.specs.Prelude.{if◌then◌else◌, Result, Ok}
use Rattle.words.proofs.Choices.{if_true, if_false}
use Rattle.answer.specs.declared.answer.Answer.{Answer}
use Rattle.answer.specs.declared.answer.Answer.TheVariants.{BadState}
use Rattle.directory.specs.Table.{same_kind_of, length_fits, unit_of}
use Rattle.directory.specs.Directory.{find_table}
use Rattle.directory.specs.declared.table.TableKind.{TableKind}
use Rattle.directory.specs.declared.table.TableKind.TheVariants.{Index, Value, RefCount}
use Rattle.directory.specs.declared.table.TableDescription.{TableDescription}
use Rattle.directory.specs.declared.directory.Directory.{Directory}
use Rattle.keys.specs.Keys.{rank}
use Rattle.overlay.specs.Rules.{Overlay, stored_length, mark_ruled}
use Rattle.overlay.specs.Overlay.{put_over}
use Rattle.overlay.specs.Entries.{entries_of, find_entry, put_entry}
use Rattle.overlay.proofs.Puts.{put_entries, find_entry-after-put}
use Rattle.memory.specs.declared.span.Holder.TheVariants as holder
use Rattle.memory.specs.Parts.{span_of, of_kind, put_into}
use Rattle.memory.proofs.Spans.{all-shows, put_of}
use Rattle.change.specs.Change.{Change, mark_fits, change_kept}
use Rattle.change.specs.Insert.{not_made, mark_of, plan_in, made_by, inserted_kept, inserted, new_entry}
use Rattle.change.proofs.Rules.{kept-directory, kept-parts}
use Rattle.change.proofs.Accepted.{Accepted, accepted}

-- the bytes are those that the mark stands for, and the mark is one of the kind and of the table
some-bit : (old sub : ℕ) → ltb 0 (bit_or old (2 ^ sub)) ≡ true
some-bit old sub = lt-ltb 0 (bit_or old (2 ^ sub)) (omega (arith, or_add_and old (2 ^ sub), and_le_l old (2 ^ sub), pow_pos sub))

mark-whole : (kind : TableKind) (old sub size : ℕ) (bytes : List ℕ) → length bytes ≡ unit_of kind size → length bytes ≡ stored_length kind (mark_of kind old sub bytes)
mark-whole Index old sub size bytes e = e
mark-whole Value old sub size bytes e = omega arith
mark-whole RefCount old sub size bytes e = e

pub mark-good : (kind : TableKind) (old sub size : ℕ) (bytes : List ℕ) → length_fits kind size ≡ true → length bytes ≡ unit_of kind size → mark_ruled kind (mark_of kind old sub bytes) ≡ true
mark-good Index old sub size bytes h e = some-bit old sub
mark-good Value old sub size bytes h e = rw e h
mark-good RefCount old sub size bytes h e = some-bit old sub

pub mark_right : (kind : TableKind) (old sub : ℕ) (t : TableDescription) (bytes : List ℕ) → length bytes ≡ unit_of kind t.length → mark_fits kind t (mark_of kind old sub bytes) ≡ true
mark_right Index old sub t bytes e = refl
mark_right Value old sub t bytes e = eq-eqb (length bytes) t.length e
mark_right RefCount old sub t bytes e = refl

module _ (kind : TableKind) (d : Directory) (l : Change) (ok : change_kept d l ≡ true) (number index sub : ℕ) (bytes : List ℕ) (old : ℕ)
    (go : plan_in kind (of_kind kind l.parts) (find_table d kind number) number index sub bytes ≡ Ok old) where
  a : Accepted kind d l.parts number index sub bytes old
  a = accepted kind d l.parts number index sub bytes old (kept-directory d l ok) (kept-parts d l ok) go

  -- an insert that is refused nothing, as one put
  pub insert-parts : (inserted kind d l number index sub bytes).change.parts ≡ put_into kind l.parts number index l.id (new_entry kind l number index sub bytes).mark bytes
  unfolding inserted inserted_kept
  insert-parts =
      ap (λ (b : Bool). (if b then inserted_kept kind d l number index sub bytes else not_made BadState l).change.parts) ok
      ∙ ap (λ (q : Result ℕ Answer). (made_by q kind l number index sub bytes).change.parts) go
      ∙ ap (λ (m : ℕ). put_into kind l.parts number index l.id (mark_of kind m sub bytes) bytes) a.old-is

  -- the kind's own entries, and those of another
  own : of_kind kind (inserted kind d l number index sub bytes).change.parts ≡ put_over kind (of_kind kind l.parts) number index l.id (new_entry kind l number index sub bytes).mark bytes
  own = ap (of_kind kind) insert-parts ∙ put_of kind kind l.parts number index l.id (new_entry kind l number index sub bytes).mark bytes ∙ if_true (same_kind_of kind kind) _ _ (itself kind)
    where
      itself : (kind : TableKind) → same_kind_of kind kind ≡ true
      itself Index = refl
      itself Value = refl
      itself RefCount = refl

  pub insert-others : (other : TableKind) → same_kind_of kind other ≡ false → of_kind other (inserted kind d l number index sub bytes).change.parts ≡ of_kind other l.parts
  insert-others other e = ap (of_kind other) insert-parts ∙ put_of kind other l.parts number index l.id (new_entry kind l number index sub bytes).mark bytes ∙ if_false (same_kind_of kind other) _ _ e

  -- "on a key already listed take the whole new chunk and add the slot's bit to the mask"
  pub insert-entries : entries_of kind (of_kind kind (inserted kind d l number index sub bytes).change.parts) ≡ put_entry (new_entry kind l number index sub bytes) (entries_of kind (of_kind kind l.parts))
  insert-entries =
      ap (entries_of kind) own
      ∙ put_entries kind (span_of holder.List kind).room (of_kind kind l.parts) ((all-shows holder.List l.parts (kept-parts d l ok)).each kind) number index l.id (new_entry kind l number index sub bytes).mark bytes
      a.fits a.takes (mark-whole kind _ sub a.table.length bytes a.whole)

  -- a lookup finds it under its key, and under any other what it found before
  pub insert_lookup : (key : ℕ) → find_entry key (entries_of kind (of_kind kind (inserted kind d l number index sub bytes).change.parts))
      ≡ (if eqb (rank number index) key then some (new_entry kind l number index sub bytes) else find_entry key (entries_of kind (of_kind kind l.parts)))
  insert_lookup key =
      ap (λ (o : Overlay). find_entry key (entries_of kind o)) own
      ∙ find_entry-after-put kind (span_of holder.List kind).room (of_kind kind l.parts) ((all-shows holder.List l.parts (kept-parts d l ok)).each kind) number index l.id (new_entry kind l number index sub bytes).mark bytes
      a.fits a.takes (mark-whole kind _ sub a.table.length bytes a.whole) key
