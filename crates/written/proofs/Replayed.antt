-- WHAT THE WRITER WRITES THE READER ACCEPTS, as the call answers it: replay of the bytes that a list is written as, under the same directory
-- and with the list's id, answers 0 and leaves the tables that the list says, whatever bytes stand behind the record. Assumes nothing.
use mathlib.Core.Path.{◌≡◌, refl, sym, ap, ◌∙◌}
use mathlib.Core.Bool.{true, false}
use mathlib.Core.List.{List, [], ◌++◌}
use mathlib.Core.Option
use mathlib.Core.Option.{Option, none, some, or_else}
use Prim.Native.Nat.{ℕ, ◌+◌, ◌-◌, ◌*◌, ◌≤◌, ◌<◌}
use native.Mathlib.Nat.{zero-add, add_assoc}
use native.Mathlib.Omega.{arith}
use lib.Dec.{ltb}
use lib.ListN.{length, take, drop, get_or}
use lib.Seq.{get_or-take, get_or-drop}
use borrow.Author.Tests.{le-ltb, eq-eqb}
use Rattle.words.proofs.Choices.{if_true, if_false}
use Rattle.directory.specs.Table.{unit_of}
use Rattle.directory.specs.Directory.{image_length}
use Rattle.directory.specs.declared.table.TableKind.{TableKind}
use Rattle.directory.specs.declared.table.TableKind.TheVariants.{Index, Value, RefCount}
use Rattle.directory.specs.declared.directory.Directory.{Directory}
use Rattle.answer.specs.declared.answer.Answer.TheVariants.{Done}
use Rattle.effect.specs.Effect.{apply}
use Rattle.effect.specs.Meaning.{bit, says, last_said}
use Rattle.effect.proofs.Demand2.{demand-2, touches_nothing_else}
use Rattle.effect.proofs.Places.{stands}
use Rattle.effect.proofs.Reach.{In}
use Rattle.replay.specs.Replay.{walked, tables_kept, judged, replayed_as, image_after}
use Rattle.numbers.proofs.Laws.{both}
use Rattle.numbers.specs.Numbers.{has}
use Rattle.overlay.specs.Rules.{slot_size}
use Rattle.memory.specs.Parts.{of_kind}
use Rattle.change.specs.Change.{Change, change_kept}
use Rattle.change.specs.Size.{record_size}
use Rattle.change.proofs.Rules.{kept-directory, kept-ruled}
use Rattle.output.specs.Put.{put}
use Rattle.writer.specs.Bytes.{set_slots, record_of}
use Rattle.writer.specs.Flush.{FlushedLog, flush_to_file_kept, flush_to_file}
use Rattle.writer.specs.Typed.{Typed}
use Rattle.writer.proofs.Sizes.{length_record}
use Rattle.written.specs.Actions.{insert_at, all_inserts, all_drops, list_actions}
use Rattle.written.specs.Tables.{places_of, dropped_of, table_at, place_mark, table_start, table_size, key_start, image_left, Width, eight, sixteen, Reached, in_slot, in_value, in_drop}
use Rattle.written.proofs.Accepted.{accepted}
use Rattle.written.proofs.Last.{insert, of-inserts, of-drops, index_drop_in, count_drop_in, table_in_lem, in_table, drops-zero, fits, room, all-sized, last_said_lem, in_image}
use Rattle.written.proofs.Lists.{each_append, last-append, none_of}
use Rattle.written.proofs.Said.{SlotOf, slot_of, masked_hit, masked_only, valued_hit, valued_only, slot-says, value-says}

-- What the writer leaves in an output that has room is the record and the rest of the output behind it: such bytes the theorems below speak of.
pub output-is : (d : Directory) (l : Change) (out : List ℕ)
    → change_kept d l ≡ true  -- else 13, and nothing is written
    → record_size l ≤ length out  -- else 10, and nothing is written
    → (flush_to_file d l out).output ≡ record_of l ++ drop (length (record_of l)) out
unfolding flush_to_file flush_to_file_kept put
output-is d l out kept room =
    ap (λ (x : FlushedLog). x.output)
    (if_true (change_kept d l) _ _ kept ∙ if_false (ltb (length out) (record_size l)) _ _ (le-ltb (length out) (record_size l) room))
    ∙ ap (λ (n : ℕ). record_of l ++ drop n out) (zero-add (length (record_of l)))

module _
    (d : Directory) (l : Change) (more image : List ℕ)
    (kept : change_kept d l ≡ true)  -- directory and list keep their rules: any other gives 13
    (words : Typed l)  -- the list's numbers are those of its types
    (long : length image ≡ image_length d)  -- the image has the directory's length: any other gives 13
  where
    judges : judged d (record_of l ++ more) 0 l.id image ≡ walked (list_actions l) (length (record_of l))
    unfolding judged tables_kept
    judges =
        if_true _ _ _ (both (kept-directory d l kept) (eq-eqb (length image) (image_length d) long))
        ∙ accepted d l kept words [] more
        ∙ ap (walked (list_actions l)) (zero-add (length (record_of l)))

    -- Replay answers 0 and the position behind the record, which is the length that the writer answered.
    pub replayed-done : replayed_as 0 (judged d (record_of l ++ more) 0 l.id image) ≡ record { answer = Done; position = record_size l; fault_at = record_size l }
    replayed-done = ap (replayed_as 0) (judges ∙ ap (walked (list_actions l)) (length_record l (kept-ruled d l kept) words))

    -- It leaves the effect of the list's actions, in the writer's order.
    pub replayed-image : image_left d l more image ≡ apply d (list_actions l) image
    replayed-image = ap (image_after d image) judges

    -- ---- what the tables then hold

    left_at : (p : ℕ) (b : ℕ) → p < image_length d → last_said d (list_actions l) p ≡ some b → get_or (image_left d l more image) p 0 ≡ b
    left_at p b h e =
        ap (λ (m : List ℕ). get_or m p 0) replayed-image
        ∙ demand-2 d (list_actions l) image p (all-sized d l kept words) (omega arith)
        ∙ ap (λ (o : Option ℕ). Option.get_or o (get_or image p 0)) e

    -- Each slot that a listed key's mask names holds the list's bytes, unless its table is dropped: byte j of slot s, in the chunk under
    -- the key's table and index, is byte j of slot s of the key's slot of the kind's bytes.
    pub each-slot : {kind : TableKind} {w : ℕ} → Width kind w → (q s j : ℕ)
        → has q (places_of kind l) ≡ true  -- q is a listed place of the kind
        → s < 64 → bit (place_mark kind l q) s ≡ true  -- its mask names slot s
        → j < w
        → has (table_at kind l q) (dropped_of kind l) ≡ false  -- no listed drop names its table
        → get_or (image_left d l more image) (key_start d kind l q + s * w + j) 0 ≡ get_or (of_kind kind l.parts).bytes (slot_size kind * q + s * w + j) 0
    unfolding insert_at
    each-slot {kind} {w} width q s j h low set small n =
        let bytes : List ℕ = drop (slot_size kind * q) (of_kind kind l.parts).bytes in
        let pos : 0 < w = omega arith in
        let e : says d (insert l kind q) (key_start d kind l q + s * w + j) ≡ some (get_or (of_kind kind l.parts).bytes (slot_size kind * q + s * w + j) 0) =
        slot-says d kind w _ _ _ (fits d l kept words kind q h) bytes (words.rows kind (4 * q + 3)) width _
        ∙ masked_hit w (key_start d kind l q) (place_mark kind l q) (set_slots 64 w (place_mark kind l q) bytes) pos s j low small set
        ∙ ap {B = Option ℕ} some
        (slot_of 64 w (place_mark kind l q) bytes s j low small (chunk width (place_mark kind l q) (room d l kept words kind q h)) set
        ∙ get_or-drop (slot_size kind * q) (of_kind kind l.parts).bytes (s * w + j) 0
        ∙ ap (λ (x : ℕ). get_or (of_kind kind l.parts).bytes x 0) (sym (add_assoc (slot_size kind * q) (s * w) j))) in
        left_at _ _ (in_image d l kept words kind q h _ _ e) (last_said_lem d l kept words kind q h _ _ e n)
      where
        chunk : {kind : TableKind} {w k : ℕ} → Width kind w → (m : ℕ) → unit_of kind m ≤ k → 64 * w ≤ k
        chunk eight m h = h
        chunk sixteen m h = h

    -- Each listed value stands under its table and index: byte j of it is byte j of the key's slot of the kind's bytes.
    pub each-value : (q j : ℕ)
        → has q (places_of Value l) ≡ true  -- q is a listed place
        → j < place_mark Value l q  -- j is below the value's length
        → get_or (image_left d l more image) (key_start d Value l q + j) 0 ≡ get_or l.parts.value.bytes (slot_size Value * q + j) 0
    unfolding insert_at
    each-value q j h small =
        let m : ℕ = place_mark Value l q in
        let bytes : List ℕ = drop (slot_size Value * q) l.parts.value.bytes in
        let e : says d (insert l Value q) (key_start d Value l q + j) ≡ some (get_or l.parts.value.bytes (slot_size Value * q + j) 0) =
        value-says d _ _ _ (fits d l kept words Value q h) bytes _
        ∙ valued_hit (key_start d Value l q) m (take m bytes) j small
        ∙ ap {B = Option ℕ} some (get_or-take m bytes j 0 small ∙ get_or-drop (slot_size Value * q) l.parts.value.bytes j 0) in
        left_at _ _ (in_image d l kept words Value q h _ _ e) (last_said_lem d l kept words Value q h _ _ e refl)

    -- Each table whose drop is listed is zero, every byte of it, whatever keys of it are listed too.
    pub each_drop : (kind : TableKind) (t p : ℕ)
        → has t (dropped_of kind l) ≡ true  -- t is listed among the drops of its kind
        → table_start d kind t ≤ p → p < table_start d kind t + table_size d kind t  -- p is a byte of that table
        → get_or (image_left d l more image) p 0 ≡ 0
    unfolding list_actions or_else
    each_drop kind t p h from to =
        let x : In d kind t p = table_in_lem d p kind t from to in
        left_at p 0 (omega (arith, x.to, (stands d kind t x.place x.is).room))
        (last-append d p (all_inserts l) (all_drops l) ∙ ap (λ (o : Option ℕ). or_else o (last_said d (all_inserts l) p)) (drops-zero d p l kind t x h))

    -- A byte that none of these reaches is as it was.
    pub the_rest : (p : ℕ)
        → p < length image  -- p is a position of the image
        → (Reached d l p → ⊥)  -- no listed slot, value or drop reaches it
        → get_or (image_left d l more image) p 0 ≡ get_or image p 0
    unfolding list_actions insert_at
    the_rest p h free =
        ap (λ (m : List ℕ). get_or m p 0) replayed-image
        ∙ touches_nothing_else d (list_actions l) image p (all-sized d l kept words) h
        (each_append (λ w. says d w p ≡ none) (all_inserts l) (all_drops l)
        (of-inserts l (λ w. says d w p ≡ none) (λ kind q e. none_of _ (λ c f. free (inserted kind q e c f))))
        (of-drops l (λ w. says d w p ≡ none)
        (λ t e. none_of _ (λ c f. free (dropped Index t e (index_drop_in d p t c f).0)))
        (λ t e. none_of _ (λ c f. free (dropped RefCount t e (count_drop_in d p t c f).0)))))
      where
        slot : {kind : TableKind} {w : ℕ} → Width kind w → 0 < w → (q : ℕ) → has q (places_of kind l) ≡ true → (c : ℕ) → says d (insert l kind q) p ≡ some c → Reached d l p
        slot {kind} {w} width pos q e c f =
            let bytes : List ℕ = drop (slot_size kind * q) (of_kind kind l.parts).bytes in
            let x : SlotOf w (key_start d kind l q) (place_mark kind l q) p =
            masked_only w (key_start d kind l q) (place_mark kind l q) (set_slots 64 w (place_mark kind l q) bytes) pos p c
            (sym (slot-says d kind w _ _ _ (fits d l kept words kind q e) bytes (words.rows kind (4 * q + 3)) width p) ∙ f) in
            in_slot width q x.s x.j e x.low x.set x.small x.is

        inserted : (kind : TableKind) (q : ℕ) → has q (places_of kind l) ≡ true → (c : ℕ) → says d (insert l kind q) p ≡ some c → Reached d l p
        inserted Index q e c f = slot eight (omega arith) q e c f
        inserted Value q e c f =
            let m : ℕ = place_mark Value l q in
            let bytes : List ℕ = drop (slot_size Value * q) l.parts.value.bytes in
            let r = valued_only (key_start d Value l q) m (take m bytes) p c (sym (value-says d _ _ _ (fits d l kept words Value q e) bytes p) ∙ f) in
            in_value q (p - key_start d Value l q) e (omega (arith, r.0, r.1)) (omega (arith, r.0))
        inserted RefCount q e c f = slot sixteen (omega arith) q e c f

        dropped : (kind : TableKind) (t : ℕ) → has t (dropped_of kind l) ≡ true → In d kind t p → Reached d l p
        dropped kind t e x = let r = in_table d p kind t x in in_drop kind t e r.0 r.1
