-- A RECORD ENDED AND THEN READ: what `end_record` writes is what `flush_to_file` writes and what replay accepts, and `end_read` of those bytes,
-- with nothing between, leaves no key of the record in the overlays. Assumes nothing.
use mathlib.Core.Path.{◌≡◌, refl, ap, ◌∙◌}
use mathlib.Core.Bool.{Bool, true, false, not, ◌||◌}
use mathlib.Core.List.{List, [], ◌∷◌, ◌++◌, map}
use mathlib.Core.Option.{none}
use Prim.Native.Nat.{ℕ, zero, suc, ◌≤◌, ◌<◌}
use native.Mathlib.Nat.{zero-add, not-suc-le-zero, le_of_suc-le-suc}
use native.Mathlib.Omega.{arith}
use lib.Dec.{eqb}
use lib.ListN.{length, get_or, take, drop}
use lib.Seq.{get_or-take, length-take-le}
use borrow.Author.Tests.{eq-eqb, ne_eqb}
use Rattle.words.proofs.Choices.{if_true, if_false}
use Rattle.directory.specs.Directory.{image_length}
use Rattle.directory.specs.declared.table.TableKind.{TableKind}
use Rattle.directory.specs.declared.table.TableKind.TheVariants.{Index, Value, RefCount}
use Rattle.directory.specs.declared.directory.Directory.{Directory}
use Rattle.answer.specs.Answer.{last_record_id}
use Rattle.answer.specs.declared.answer.Answer.TheVariants.{Done}
use Rattle.effect.specs.Effect.{Written}
use Rattle.replay.specs.Replay.{Walked, walked, judged, replayed_as}
use Rattle.numbers.proofs.Laws.{both}
use Rattle.keys.specs.Keys.{key_at}
use Rattle.overlay.specs.Rules.{Overlay}
use Rattle.memory.specs.Parts.{of_kind, entry_under}
use Rattle.memory.specs.declared.span.Holder.TheVariants as holder
use Rattle.change.specs.Change.{Change, change_kept}
use Rattle.change.specs.Size.{record_size}
use Rattle.change.proofs.Rules.{kept-directory, kept-ruled, kept-parts}
use Rattle.clearing.specs.Clear.{named_by, hits, names}
use Rattle.clearing.specs.EndRead as read
use Rattle.clearing.proofs.Again.{record_is-again}
use Rattle.clearing.proofs.Meaning.{own-cleared}
use Rattle.writer.specs.Bytes.{record_of}
use Rattle.writer.specs.Flush.{flush_to_file}
use Rattle.writer.specs.Typed.{Typed}
use Rattle.writer.proofs.Sizes.{length_record}
use Rattle.written.specs.Actions.{insert_at, inserts, all_inserts, all_drops, list_actions}
use Rattle.written.proofs.Accepted.{accepted}
use Rattle.written.proofs.Replayed.{output-is, replayed-done}
use Rattle.memory.proofs.OneKind.{kind-kept}
use Rattle.putting.proofs.Places.{order-holds}
use Rattle.ending.specs.EndRecord.{Handed, EndState, end_answer, is_done, end_record}
use Rattle.ending.proofs.Decided as decided
use Rattle.ending.proofs.Meaning.{as_flushed, listed_found, shared_stays}

-- ---- the actions of a list name its keys

either : (a b : Bool) → b ≡ true → (a || b) ≡ true
either true b e = refl
either false b e = e

module _ (kind : TableKind) (k : ℕ) where
  names-left : (vs ws : List Written) → names kind k vs ≡ true → names kind k (vs ++ ws) ≡ true
  names-left [] ws e = let z : ◌≡◌ {A = ℕ} 0 1 = cc in absurd (omega arith)
  names-left (v ∷ vs) ws e = by (hits kind k (named_by v.action)) e (names-left vs ws)
    where
      by : (b : Bool) → (b || names kind k vs) ≡ true → (names kind k vs ≡ true → names kind k (vs ++ ws) ≡ true) → (b || names kind k (vs ++ ws)) ≡ true
      by true f ih = refl
      by false f ih = ih f

  names_right : (vs ws : List Written) → names kind k ws ≡ true → names kind k (vs ++ ws) ≡ true
  names_right [] ws e = e
  names_right (v ∷ vs) ws e = either (hits kind k (named_by v.action)) _ (names_right vs ws e)

-- an insert names the key in its place
hit : (kind : TableKind) (o : Overlay) (p : ℕ) → hits kind (key_at o.rows p) (named_by (insert_at kind o p).action) ≡ true
unfolding insert_at
hit Index o p = eq-eqb (key_at o.rows p) (key_at o.rows p) refl
hit Value o p = eq-eqb (key_at o.rows p) (key_at o.rows p) refl
hit RefCount o p = eq-eqb (key_at o.rows p) (key_at o.rows p) refl

named-at : (kind : TableKind) (o : Overlay) (ps : List ℕ) (j : ℕ) → j < length ps → names kind (key_at o.rows (get_or ps j 0)) (map (insert_at kind o) ps) ≡ true
named-at kind o [] j h = absurd (not-suc-le-zero h)
named-at kind o (p ∷ ps) zero h = rw (hit kind o p)
named-at kind o (p ∷ ps) (suc j) h =
    either (hits kind (key_at o.rows (get_or ps j 0)) (named_by (insert_at kind o p).action)) _ (named-at kind o ps j (le_of_suc-le-suc h))

-- so the j-th listed key is named
listed-named : (kind : TableKind) (o : Overlay) (j : ℕ) → j < o.count → o.count ≤ length o.order → names kind (key_at o.rows (get_or o.order j 0)) (inserts kind o) ≡ true
unfolding inserts
listed-named kind o j h w =
    let n = named-at kind o (take o.count o.order) j (rw (length-take-le o.count o.order w) h) in
    rw (get_or-take o.count o.order j 0 h) at n

-- those of a kind are among all
of-kind : (kind : TableKind) (k : ℕ) (l : Change) → names kind k (inserts kind (of_kind kind l.parts)) ≡ true → names kind k (list_actions l) ≡ true
unfolding list_actions all_inserts
of-kind kind k l e = names-left kind k (all_inserts l) (all_drops l) (among kind e)
  where
    a : List Written
    a = inserts Index l.parts.index

    b : List Written
    b = inserts Value l.parts.value

    c : List Written
    c = inserts RefCount l.parts.ref_count

    among : (x : TableKind) → names kind k (inserts x (of_kind x l.parts)) ≡ true → names kind k (a ++ b ++ c) ≡ true
    among Index f = names-left kind k (a ++ b) c (names-left kind k a b f)
    among Value f = names-left kind k (a ++ b) c (names_right kind k a b f)
    among RefCount f = names_right kind k (a ++ b) c f

-- ---- the theorem

module _
    (d : Directory) (h : Handed)
    (words : Typed h.list)  -- the list's arrays and numbers are those of their types
    (small : h.next < 18446744073709551616)  -- so is the next id
    (done : is_done (end_answer d h) ≡ true)  -- `end_record` answers 0
  where
    abbrev l : Change
    l = h.list

    -- what the call leaves
    abbrev left : EndState
    left = end_record d h

    -- the record as it is read again
    abbrev again : read.Again
    again = record { id = l.id; actions = list_actions l }

    taken : decided.Accepted d h
    taken = decided.accepted d h done

    kept : change_kept d l ≡ true
    kept = decided.list-kept d h taken.kept

    abbrev more : List ℕ
    more = drop (length (record_of l)) h.output

    -- "What `end_record` writes is what `flush_to_file` writes ..
    pub as_flush_writes : (end_record d h).output ≡ (flush_to_file d h.list h.output).output
    as_flush_writes = as_flushed d h done

    record_first : left.output ≡ record_of l ++ more
    record_first = as_flush_writes ∙ output-is d l h.output kept taken.fits

    -- .. and what replay accepts": with the list's id it answers 0 and the length that `end_record` answered
    pub replay-accepts : (image : List ℕ)
        → length image ≡ image_length d  -- any other gives 13
        → replayed_as 0 (judged d (end_record d h).output 0 h.list.id image) ≡ record { answer = Done; position = record_size h.list; fault_at = record_size h.list }
    replay-accepts image long =
        ap (λ (log : List ℕ). replayed_as 0 (judged d log 0 l.id image)) record_first ∙ replayed-done d l more image kept words long

    reads : read.record_again d left.output 0 ≡ walked again (record_size l)
    reads =
        ap (λ (log : List ℕ). read.record_again d log 0) record_first
        ∙ record_is-again d (record_of l ++ more) 0 l.id (list_actions l) (record_size l)
        (accepted d l kept words [] more ∙ ap (walked (list_actions l)) (zero-add (length (record_of l)) ∙ length_record l (kept-ruled d l kept) words))

    -- `end_read` of those bytes, behind all its tests, takes them as the record of the list's id and actions, of that length
    pub accepted-again : read.to_clear d (end_record d h).output 0 (end_record d h).overlays h.next
        ≡ walked (record { id = h.list.id; actions = list_actions h.list }) (record_size h.list)
    unfolding read.to_clear
    accepted-again =
        if_true _ _ _
        (both (kept-directory d l kept)
        (both (shared_stays d h (decided.shared_kept d h taken.kept)) (ap not (ne_eqb h.next 0 (λ z. omega (arith, taken.next))))))
        ∙ ap read.clearable reads
        ∙ if_false (eqb l.id last_record_id) _ _ (ne_eqb l.id last_record_id (λ z. omega (arith, taken.next, small)))

    -- "After `end_record` and then `end_read` of its bytes, with nothing between, the overlays hold no key of the record": of no kind
    pub none_left : (kind : TableKind) (j : ℕ)
        → j < (of_kind kind h.list.parts).count  -- the j-th listed key of the kind
        → entry_under kind (key_at (of_kind kind h.list.parts).rows (get_or (of_kind kind h.list.parts).order j 0)) (read.end_read_of d (end_record d h).output 0 (end_record d h).overlays h.next).overlays.parts ≡ none
    none_left kind j i =
        ap (λ (g : Walked read.Again). entry_under kind key (read.end_read_by 0 left.overlays h.next g).overlays.parts) accepted-again
        ∙ own-cleared kind l.id key (list_actions l) left.overlays.parts (shared_stays d h (decided.shared_kept d h taken.kept)) _
        (of-kind kind key l named) (listed_found d h done kind j i) refl
      where
        key : ℕ
        key = key_at (of_kind kind l.parts).rows (get_or (of_kind kind l.parts).order j 0)

        named : names kind key (inserts kind (of_kind kind l.parts)) ≡ true
        named = listed-named kind (of_kind kind l.parts) j i (order-holds kind _ (of_kind kind l.parts) (kind-kept holder.List kind l.parts (kept-parts d l kept)))
