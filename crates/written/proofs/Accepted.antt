-- WHAT THE WRITER WRITES THE READER ACCEPTS: the bytes of a list that keeps its rules are read as one whole record, which gives the list's
-- actions in the writer's order. Assumes nothing.
use mathlib.Core.Path.{◌≡◌, refl, ap, ◌∙◌}
use mathlib.Core.Bool.{Bool, true, false, ◌&&◌}
use mathlib.Core.List.{List, [], ◌∷◌, ◌++◌, append_assoc}
use Prim.Native.Nat.{ℕ, zero, suc, ◌+◌, ◌*◌, ◌≤◌, ◌<◌}
use native.Mathlib.Omega.{arith}
use lib.ListN.{length, take, drop, get_or, length-append}
use lib.Seq.{drop-append_seam}
use borrow.Author.Tests.{lt-ltb}
use Rattle.checksum.specs.Checksum.{all_ones, updated, finished, checksum_of}
use Rattle.checksum.proofs.Register.{updated-append}
use Rattle.directory.specs.Directory.{tables_of, stands}
use Rattle.directory.specs.declared.table.TableKind.{TableKind}
use Rattle.directory.specs.declared.table.TableKind.TheVariants.{Index, Value, RefCount}
use Rattle.directory.specs.declared.directory.Directory.{Directory}
use Rattle.record.specs.Record.{drop_index, drop_ref_count, dropped_item, inside_by}
use Rattle.record.specs.Next.{is_end}
use Rattle.record.specs.declared.action.LogAction.{LogAction}
use Rattle.effect.specs.Effect.{Written}
use Rattle.replay.specs.Replay.{walked, record_at}
use Rattle.numbers.proofs.Laws.{both, left-of, right_of}
use Rattle.keys.specs.Keys.{every, all_under_of, ruled}
use Rattle.keys.proofs.Places.{rule-under}
use Rattle.overlay.specs.Rules.{slot_size, stored_length, row_ruled, overlay_kept}
use Rattle.overlay.proofs.Ruled.{shows}
use Rattle.memory.specs.Parts.{span_of, of_kind}
use Rattle.memory.specs.declared.span.Holder.TheVariants as holder
use Rattle.memory.proofs.Spans.{lies}
use Rattle.change.specs.Change.{Change, entry_fits, entries_fit, drops_fit, change_kept}
use Rattle.change.specs.declared.drops.Drops.{Drops}
use Rattle.change.proofs.Fitting.{row_small, row-mark}
use Rattle.change.proofs.Rules.{kept-ruled, kept-fits}
use Rattle.output.specs.Put.{le}
use Rattle.output.proofs.Laws.{length-le}
use Rattle.writer.specs.Bytes.{entry_bytes_at, entries, drop_bytes, drops_bytes, body, record_of}
use Rattle.writer.specs.Typed.{Typed}
use Rattle.writer.proofs.Rules.{place-writable, lies-there, kind-kept}
use Rattle.written.specs.Actions.{insert_at, inserts, drop_at, drops_of, all_inserts, all_drops, list_actions}
use Rattle.written.specs.Tables.{places_of, table_at, index_at, place_mark}
use Rattle.written.proofs.Here.{Here, on}
use Rattle.written.proofs.Entries.{Fitting, fitting, entry-reads, drop_reads}
use Rattle.written.proofs.Walk.{Reads, Walks, ◌⨾◌, walk, add_all, add_walked, ending, begins}

every-both : (f g : ℕ → Bool) (l : List ℕ) → every f l ≡ true → every g l ≡ true → every (λ (p : ℕ). f p && g p) l ≡ true
every-both f g [] a b = refl
every-both f g (p ∷ l) a b = both (both (left-of (f p) _ a) (left-of (g p) _ b)) (every-both f g l (right_of (f p) _ a) (right_of (g p) _ b))

all_under : (n m : ℕ) (ts : List ℕ) → ((k : ℕ) → get_or ts k 0 < n) → all_under_of n (take m ts) ≡ true
all_under n zero ts h = refl
all_under n (suc m) [] h = refl
all_under n (suc m) (t ∷ ts) h = both (lt-ltb t n (h 0)) (all_under n m ts (λ k. h (suc k)))

-- the drops of a kind
module _ (d : Directory) (kind : TableKind) (tag : ℕ) (action : ℕ → LogAction) (short : tag < 256) (is : (register : ℕ) → inside_by d true register tag ≡ dropped_item d kind action)
    (goes : (t : ℕ) → is_end (action t) ≡ false) where
  drops-walk : (log : List ℕ) (id : ℕ) (s : Drops) → drops_fit d kind s ≡ true → ((k : ℕ) → get_or s.tables k 0 < 65536) → Walks d log id (drops_bytes tag s) (drops_of action s)
  unfolding drops_bytes drops_of drop_bytes drops_fit
  drops-walk log id s e h =
      walk (drop_bytes tag) (drop_at action) 65536 (stands (tables_of d) kind) (drop_reads d kind tag action short is goes)
      (take s.count s.tables) (all_under 65536 s.count s.tables h) e

-- begin, what stands between, end
module _ (d : Directory) (log : List ℕ) (at id : ℕ) where
  between : (bs b : List ℕ) (sum : ℕ) (ws : List Written) → id < 18446744073709551616 → Walks d log id bs ws → sum ≡ finished (updated (updated (updated all_ones (le 1 1 ++ le 8 id)) bs) (le 1 4))
      → Here log at ((le 1 1 ++ le 8 id) ++ (bs ++ (le 1 4 ++ (le 4 sum ++ b)))) → record_at d log at id ≡ walked ws (at + (14 + length bs))
  between bs b sum ws word w e h =
      let n : length (le 1 1 ++ le 8 id) ≡ 9 = length-append (le 1 1) (le 8 id) ∙ omega (arith, length-le 1 1, length-le 8 id) in
      let h₉ : Here log (at + 9) (bs ++ (le 1 4 ++ (le 4 sum ++ b))) = on (le 1 1 ++ le 8 id) _ 9 n h in
      let m : at + 9 + length bs + 5 ≡ at + (14 + length bs) = omega arith in
      begins d log at id _ word (record { fits = h.fits; is = h.is ∙ append_assoc (le 1 1) (le 8 id) _ })
      ∙ w.past (at + 9) (updated all_ones (le 1 1 ++ le 8 id)) _ h₉
      ∙ ap (add_all ws) (ending d log (at + 9 + length bs) id b _ sum e (on bs _ (length bs) refl h₉))
      ∙ add_walked ws (at + 9 + length bs + 5)
      ∙ ap (walked ws) m

  parts : (a b c p q more : List ℕ) (ws : List Written) → id < 18446744073709551616 → Walks d log id ((a ++ b ++ c) ++ (p ++ q)) ws
      → (let all : List ℕ = le 1 1 ++ le 8 id ++ a ++ b ++ c ++ p ++ q ++ le 1 4 in
      Here log at (all ++ le 4 (finished (updated all_ones all)) ++ more) → record_at d log at id ≡ walked ws (at + length (all ++ le 4 (finished (updated all_ones all)))))
  parts a b c p q more ws word w h =
      let bs : List ℕ = (a ++ b ++ c) ++ (p ++ q) in
      let all : List ℕ = le 1 1 ++ le 8 id ++ a ++ b ++ c ++ p ++ q ++ le 1 4 in
      let sum : ℕ = finished (updated all_ones all) in
      let e : all ≡ (le 1 1 ++ le 8 id) ++ bs ++ le 1 4 = simp append_assoc in
      between bs more sum ws word w (ap finished (ap (updated all_ones) e ∙ updated-append all_ones _ (le 1 4) ∙ ap (λ (r : ℕ). updated r (le 1 4)) (updated-append all_ones _ bs)))
      (record { fits = h.fits; is = h.is ∙ ap (λ (x : List ℕ). x ++ le 4 sum ++ more) e ∙ simp append_assoc })
      ∙ ap (λ (n : ℕ). walked ws (at + n)) (simp (length-append, length-le) (omega arith))

-- a listed place: its row keeps its rules, and its key fits the directory
abbrev pub good : Directory → Change → TableKind → ℕ → Bool
good d l kind p = row_ruled kind (of_kind kind l.parts).rows p && entry_fits d kind (of_kind kind l.parts) p

module _ (d : Directory) (l : Change) (kept : change_kept d l ≡ true) (words : Typed l) where
  key-kept : (kind : TableKind) → overlay_kept kind (span_of holder.List kind).room (of_kind kind l.parts) ≡ true
  key-kept kind = kind-kept l (kept-ruled d l kept) kind

  pub in_order : (kind : TableKind) → ruled (of_kind kind l.parts).rows (of_kind kind l.parts).order (of_kind kind l.parts).count ≡ true
  in_order kind = (shows kind (span_of holder.List kind).room (of_kind kind l.parts) (key-kept kind)).in_order

  pub places-good : (kind : TableKind) → every (good d l kind) (places_of kind l) ≡ true
  unfolding entries_fit
  places-good kind =
      every-both (row_ruled kind (of_kind kind l.parts).rows) (entry_fits d kind (of_kind kind l.parts)) (places_of kind l)
      (shows kind (span_of holder.List kind).room (of_kind kind l.parts) (key-kept kind)).each ((kept-fits d l kept).each kind)

  pub place-fits : (kind : TableKind) (p : ℕ) → good d l kind p ≡ true → Fitting d kind (table_at kind l p) (index_at kind l p) (place_mark kind l p)
  unfolding entry_fits
  place-fits kind p e =
      let r = left-of (row_ruled kind (of_kind kind l.parts).rows p) _ e in
      fitting d kind _ _ _ (row_small kind (of_kind kind l.parts).rows p r) (row-mark kind (of_kind kind l.parts).rows p r) (right_of (row_ruled kind (of_kind kind l.parts).rows p) _ e)

  -- its bytes lie in the kind's memory
  pub place-room : (kind : TableKind) (p : ℕ) → p < (of_kind kind l.parts).count → good d l kind p ≡ true
      → stored_length kind (place_mark kind l p) ≤ length (drop (slot_size kind * p) (of_kind kind l.parts).bytes)
  place-room kind p h e =
      lies-there kind (of_kind kind l.parts).rows (of_kind kind l.parts).bytes p
      (place-writable kind (span_of holder.List kind).room (of_kind kind l.parts) (lies holder.List kind).room_most (key-kept kind) p h (left-of (row_ruled kind (of_kind kind l.parts).rows p) _ e))

  -- ---- each entry, and those of a kind

  insert-reads : (kind : TableKind) (p : ℕ) → p < (of_kind kind l.parts).count → good d l kind p ≡ true
      → Reads d (entry_bytes_at kind (of_kind kind l.parts) p) (insert_at kind (of_kind kind l.parts) p)
  unfolding entry_bytes_at insert_at
  insert-reads kind p h e =
      entry-reads d _ _ _ (drop (slot_size kind * p) (of_kind kind l.parts).bytes) (words.rows kind (4 * p + 1)) (words.rows kind (4 * p + 3)) kind (place-fits kind p e) (place-room kind p h e)

  module _ (log : List ℕ) (id : ℕ) where
    inserts-walk : (kind : TableKind) → Walks d log id (entries kind (of_kind kind l.parts)) (inserts kind (of_kind kind l.parts))
    unfolding entries inserts
    inserts-walk kind =
        walk (entry_bytes_at kind (of_kind kind l.parts)) (insert_at kind (of_kind kind l.parts)) (of_kind kind l.parts).count (good d l kind) (insert-reads kind)
        (places_of kind l) (rule-under _ _ _ (in_order kind)) (places-good kind)

  middle : (log : List ℕ) (id : ℕ)
      → Walks d log id
      ((entries Index l.parts.index ++ entries Value l.parts.value ++ entries RefCount l.parts.ref_count)
      ++ (drops_bytes 5 l.drops ++ drops_bytes 7 l.count_drops))
      (list_actions l)
  unfolding list_actions all_inserts all_drops inside_by
  middle log id =
      let f = kept-fits d l kept in
      (inserts-walk log id Index ⨾ inserts-walk log id Value ⨾ inserts-walk log id RefCount)
      ⨾ (drops-walk d Index 5 drop_index (omega arith) (λ register. refl) (λ t. refl) log id l.drops f.drops words.drops
      ⨾ drops-walk d RefCount 7 drop_ref_count (omega arith) (λ register. refl) (λ t. refl) log id l.count_drops f.count-drops words.count_drops)

  -- Wherever the bytes of a list that keeps its rules stand in a log, and whatever stands before and behind them, reading there with the
  -- list's id gives exactly the list's actions, and ends behind those bytes.
  pub accepted : (front more : List ℕ) → record_at d (front ++ record_of l ++ more) (length front) l.id ≡ walked (list_actions l) (length front + length (record_of l))
  unfolding record_of body checksum_of
  accepted front more =
      parts d (front ++ record_of l ++ more) (length front) l.id
      (entries Index l.parts.index) (entries Value l.parts.value) (entries RefCount l.parts.ref_count)
      (drops_bytes 5 l.drops) (drops_bytes 7 l.count_drops) more (list_actions l) words.id
      (middle (front ++ record_of l ++ more) l.id)
      (record { fits = rw (length-append, length-append) (omega arith); is = ap (drop (length front)) (append_assoc front (record_of l) more) ∙ drop-append_seam front (record_of l ++ more) })
