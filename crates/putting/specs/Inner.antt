-- What the inner functions are told and answer: nothing here is to be believed.
use Rattle.std.specs.Prelude.{◌≡◌, true, false, List, ℕ, ◌+◌, ◌*◌, ◌≤◌, length, get_or, take, drop}
use Rattle.directory.specs.declared.table.TableKind.{TableKind}
use Rattle.keys.specs.Keys.{rank}
use Rattle.overlay.specs.Rules.{Overlay, slot_size, stored_length, mark_ruled, keys_ruled, overlay_kept, rows_of, order_of}
use Rattle.memory.specs.Parts.{Parts, parts_of, span_of, words_all, count_of, words_in, of_kind, with_kind, parts_kept, Takes, put_into}
use Rattle.memory.specs.Overlays.{Overlays, overlays_of}
use Rattle.memory.specs.declared.counts.Counts.{Counts}
use Rattle.memory.specs.declared.span.Holder.{Holder}
use Rattle.memory.specs.declared.span.Holder.TheVariants as holder
use Rattle.memory.specs.declared.overlays.LogOverlays.{LogOverlays}
use Rattle.putting.specs.Listed.{passes, put_listed}
use Rattle.putting.specs.declared.place.ListedRow.{ListedRow}

-- `parts_of` and `overlays_of` shut: two of them are then compared by what they are of, and no memory's length is counted
unfoldable pub parts_at : Holder → Counts → List ℕ → List ℕ → Parts
parts_at h c words bytes = parts_of h c words bytes

unfoldable pub overlays_at : LogOverlays → List ℕ → List ℕ → Overlays
overlays_at o words bytes = overlays_of o words bytes

-- the words of a place
abbrev pub row_at : List ℕ → ℕ → ListedRow
row_at words p = record { table = get_or words (4 * p) 0; index = get_or words (4 * p + 1) 0; mark = get_or words (4 * p + 3) 0 }

-- one entry of a list put among all kinds, and all of one kind
unfoldable pub place_put : TableKind → ℕ → ListedRow → List ℕ → ℕ → Parts → Parts
place_put kind id row stored p shared =
    put_into kind shared row.table row.index id row.mark (take (stored_length kind row.mark) (drop (slot_size kind * p) stored))

unfoldable pub list_put : TableKind → ℕ → Overlay → Parts → Parts
list_put kind id list shared = with_kind kind shared (put_listed kind id list (of_kind kind shared))

-- the entry of a row can be put
pub record RowGoes (h : Holder) (kind : TableKind) (row : ListedRow) (stored : List ℕ) (p : ℕ) (shared : Parts) : Type 0 where
  pub kept : parts_kept h shared ≡ true
  pub mark : mark_ruled kind row.mark ≡ true
  pub lies : slot_size kind * p + stored_length kind row.mark ≤ length stored
  pub takes : Takes h kind shared (rank row.table row.index)

-- all of one kind can
pub record KindGoes (kind : TableKind) (room : ℕ) (list : Overlay) (shared : Parts) : Type 0 where
  pub kept : parts_kept holder.Shared shared ≡ true
  pub small : room ≤ 256
  pub listed : overlay_kept kind room list ≡ true
  pub free : passes list (of_kind kind shared) ≡ false

-- the entries of one kind of a list can be put
pub record ListGoes (kind : TableKind) (list shared : Parts) : Type 0 where
  pub listed : parts_kept holder.List list ≡ true
  pub kept : parts_kept holder.Shared shared ≡ true
  pub free : passes (of_kind kind list) (of_kind kind shared) ≡ false

-- the words of a memory are all there, and the keys of a kind keep their rules
pub record KeysIn (h : Holder) (kind : TableKind) (c : Counts) (words : List ℕ) : Type 0 where
  pub long : length words ≡ words_all h
  pub ruled : keys_ruled kind (span_of h kind).room (rows_of (span_of h kind).room (words_in h kind words)) (order_of (span_of h kind).room (words_in h kind words)) (count_of kind c) ≡ true

abbrev pub with_last_ids : LogOverlays → List ℕ → LogOverlays
with_last_ids o ids = record { counts = o.counts; last_record_ids = ids }
