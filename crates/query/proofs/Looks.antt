-- What a lookup finds: in the list first, and after an entry was put or taken out. Assumes nothing.
use mathlib.Core.Path.{◌≡◌, refl, sym, ap, ◌∙◌}
use mathlib.Core.Bool.{Bool, true, false, ◌&&◌}
use mathlib.Core.List.{List}
use mathlib.Core.Option.{Option, none, some}
use Prim.Native.Nat.{ℕ, ◌<◌, ◌≤◌}
use native.Mathlib.Omega.{arith}
use lib.Dec.{ltb, eqb}
use lib.ListN.{length}
use Rattle.std.specs.Prelude.{if◌then◌else◌}
use Rattle.directory.specs.declared.table.TableKind.{TableKind}
use Rattle.answer.specs.declared.answer.Answer.TheVariants.{Done, BadState}
use Rattle.keys.specs.Keys.{rank}
use Rattle.overlay.specs.Rules.{Overlay, slot_size, stored_length, mark_ruled, overlay_kept}
use Rattle.overlay.specs.Overlay.{stands_in, put_over, removed_from}
use Rattle.overlay.specs.Entries.{Entry, entries_of, find_entry, or_else}
use Rattle.overlay.proofs.Puts.{put-kept, find_entry-after-put}
use Rattle.overlay.proofs.Removals.{removed-kept, own-goes, newer_stays, others_stay}
use Rattle.memory.specs.Parts.{span_of, of_kind}
use Rattle.memory.specs.declared.span.Holder.TheVariants as holder
use Rattle.memory.proofs.Spans.{all-shows}
use Rattle.change.specs.Change.{Change, change_ruled}
use Rattle.change.proofs.Rules.{ruled-parts}
use Rattle.query.specs.Query.{Looked, looked_if, no_look, shared_look, listed_look, bytes_of, is_there}
use Rattle.query.specs.Inner.{found_in, FoundFor}
use Rattle.query.proofs.Found.{some_bytes, first-all, first-own, some_first}

-- 13 with nothing, or 0 with what was found
fails : (b : Bool) (x : Option Entry) → b ≡ false → looked_if b x ≡ no_look
fails b x e = rw e

done : (b : Bool) (x : Option Entry) → b ≡ true → (looked_if b x).answer ≡ Done
done b x e = rw e

entry_of : (b : Bool) (x : Option Entry) → b ≡ true → (looked_if b x).entry ≡ x
entry_of b x e = rw e

module _ (kind : TableKind) (o : Overlay) (key : ℕ) where
  pub shared_fails : overlay_kept kind 256 o ≡ false → shared_look kind o key ≡ no_look
  unfolding shared_look
  shared_fails e = fails (overlay_kept kind 256 o) (find_entry key (entries_of kind o)) e

  pub shared_broken : shared_look kind o key ≡ no_look → overlay_kept kind 256 o ≡ false
  unfolding shared_look
  shared_broken e = by (overlay_kept kind 256 o) refl
    where
      by : (b : Bool) → overlay_kept kind 256 o ≡ b → b ≡ false
      by false h = refl
      by true h = let z : Done ≡ BadState = sym (done (overlay_kept kind 256 o) (find_entry key (entries_of kind o)) h) ∙ ap (λ (l : Looked). l.answer) e in cc

  module _ (ok : overlay_kept kind 256 o ≡ true) where
    pub shared_entry : (shared_look kind o key).entry ≡ find_entry key (entries_of kind o)
    unfolding shared_look
    shared_entry = entry_of (overlay_kept kind 256 o) (find_entry key (entries_of kind o)) ok

    pub shared_found : found_in kind o key ≡ bytes_of (shared_look kind o key).entry
    unfolding found_in
    shared_found = ap bytes_of (sym shared_entry)

    pub shared_done : (shared_look kind o key).answer ≡ Done
    unfolding shared_look
    shared_done = done (overlay_kept kind 256 o) (find_entry key (entries_of kind o)) ok

    -- some bytes exactly if there is an entry
    pub shared_for : (bytes : List ℕ) → bytes ≡ found_in kind o key → FoundFor (shared_look kind o key) bytes
    unfolding found_in
    shared_for bytes e =
        record { here = e ∙ ap bytes_of (sym shared_entry); some = ap (λ (b : List ℕ). ltb 0 (length b)) e ∙ some_bytes kind 256 o ok key ∙ ap is_there (sym shared_entry) }

module _ (kind : TableKind) (l : Change) (o : Overlay) (key : ℕ) where
  abbrev own : Overlay
  own = of_kind kind l.parts

  abbrev both : Bool
  both = change_ruled l && overlay_kept kind 256 o

  abbrev first : Option Entry
  first = or_else (find_entry key (entries_of kind own)) (find_entry key (entries_of kind o))

  pub list-fails : change_ruled l ≡ false → listed_look kind l o key ≡ no_look
  unfolding listed_look
  list-fails e = fails both first (rw e)

  pub overlay_fails : change_ruled l ≡ true → overlay_kept kind 256 o ≡ false → listed_look kind l o key ≡ no_look
  unfolding listed_look
  overlay_fails mine e = fails both first (rw (mine, e))

  own-kept : change_ruled l ≡ true → overlay_kept kind (span_of holder.List kind).room own ≡ true
  own-kept mine = (all-shows holder.List l.parts (ruled-parts l mine)).each kind

  module _ (mine : change_ruled l ≡ true) (ok : overlay_kept kind 256 o ≡ true) where
    listed-entry : (listed_look kind l o key).entry ≡ or_else (find_entry key (entries_of kind (of_kind kind l.parts))) (find_entry key (entries_of kind o))
    unfolding listed_look
    listed-entry = entry_of both first (rw (mine, ok))

    pub listed-done : (listed_look kind l o key).answer ≡ Done
    unfolding listed_look
    listed-done = done both first (rw (mine, ok))

    listed-for : (bytes : List ℕ) → bytes ≡ bytes_of (listed_look kind l o key).entry → FoundFor (listed_look kind l o key) bytes
    listed-for bytes e =
        let some = some_first (find_entry key (entries_of kind own)) (find_entry key (entries_of kind o)) (some_bytes kind (span_of holder.List kind).room own (own-kept mine) key) (some_bytes kind 256 o ok key) in
        record { here = e; some = ap (λ (b : List ℕ). ltb 0 (length b)) (e ∙ ap bytes_of listed-entry) ∙ some ∙ ap is_there (sym listed-entry) }

    -- "Lookup goes to the local list first": the list's entry, where it has the key
    pub list-first : (e : Entry) → find_entry key (entries_of kind (of_kind kind l.parts)) ≡ some e → (listed_look kind l o key).entry ≡ some e
    list-first e f = listed-entry ∙ rw f

    -- "then the shared overlays": else what a lookup without the list finds
    pub then_shared : find_entry key (entries_of kind (of_kind kind l.parts)) ≡ none → (listed_look kind l o key).entry ≡ (shared_look kind o key).entry
    then_shared f = listed-entry ∙ rw f (sym (shared_entry kind o key ok))

    -- as the code tells it, by the bytes: the list's, or where there are none the shared ones
    pub mine_found : (bytes : List ℕ) → bytes ≡ found_in kind (of_kind kind l.parts) key → 0 < length bytes → FoundFor (listed_look kind l o key) bytes
    mine_found bytes e h = listed-for bytes (e ∙ first-own kind own (find_entry key (entries_of kind o)) key (rw e at h) ∙ ap bytes_of (sym listed-entry))

    pub shared_next : (mine bytes : List ℕ) → mine ≡ found_in kind (of_kind kind l.parts) key → length mine ≤ 0 → FoundFor (shared_look kind o key) bytes
        → FoundFor (listed_look kind l o key) bytes
    shared_next found bytes e h f =
        listed-for bytes
        (f.here ∙ ap bytes_of (shared_entry kind o key ok)
        ∙ first-all kind (span_of holder.List kind).room own (own-kept mine) key (find_entry key (entries_of kind o)) (λ some. let g = rw (sym e) at some in omega (arith, g))
        ∙ ap bytes_of (sym listed-entry))

-- a lookup after "puts each entry, id, mask and chunk, over the shared one": the new one under its key, under any other what it found before
module _ (kind : TableKind) (o : Overlay) (ok : overlay_kept kind 256 o ≡ true) where
  pub look_after-put : (table index id mark : ℕ) (src : List ℕ) → table < 65536 → mark_ruled kind mark ≡ true → length src ≡ stored_length kind mark → length src ≤ slot_size kind
      → (stands_in o (rank table index) ≡ false → o.count < 256) → (key : ℕ)
      → (shared_look kind (put_over kind o table index id mark src) key).entry
      ≡ (if eqb (rank table index) key then some (record { key = rank table index; id = id; mark = mark; bytes = src }) else (shared_look kind o key).entry)
  look_after-put table index id mark src small good whole fits room key =
      shared_entry kind (put_over kind o table index id mark src) key (put-kept kind 256 o ok table index id mark src fits room small good)
      ∙ find_entry-after-put kind 256 o ok table index id mark src fits room whole key
      ∙ ap (λ (x : Option Entry). if eqb (rank table index) key then some (record { key = rank table index; id = id; mark = mark; bytes = src }) else x) (sym (shared_entry kind o key ok))

  module _ (key id : ℕ) where
    gone : (k : ℕ) → (shared_look kind (removed_from kind o key id) k).entry ≡ find_entry k (entries_of kind (removed_from kind o key id))
    gone k = shared_entry kind (removed_from kind o key id) k (removed-kept kind 256 o ok key id)

    -- "An entry goes only if its stored id equals the record's": then a lookup finds nothing
    pub look_own-goes : (e : Entry) → (shared_look kind o key).entry ≡ some e → e.id ≡ id → (shared_look kind (removed_from kind o key id) key).entry ≡ none
    look_own-goes e f i = gone key ∙ own-goes kind 256 o ok key id e (sym (shared_entry kind o key ok) ∙ f) i

    -- "a newer one stays"
    pub look_newer_stays : (e : Entry) → (shared_look kind o key).entry ≡ some e → (e.id ≡ id → ⊥) → (shared_look kind (removed_from kind o key id) key).entry ≡ some e
    look_newer_stays e f i = gone key ∙ newer_stays kind 256 o ok key id e (sym (shared_entry kind o key ok) ∙ f) i

    -- under any other key it finds what it found before
    pub look_others_stay : (k : ℕ) → (key ≡ k → ⊥) → (shared_look kind (removed_from kind o key id) k).entry ≡ (shared_look kind o k).entry
    look_others_stay k n = gone k ∙ others_stay kind 256 o ok key id k n ∙ sym (shared_entry kind o k ok)
