-- The three kinds in two memories, each kind a part of the words and a part of the bytes.
use Rattle.std.specs.Prelude.{◌≡◌, Bool, false, ◌&&◌, List, ℕ, ◌-◌, ◌<◌, eqb, take, drop, length}
use Rattle.std.proofs.Math.Option.{Option}
use Rattle.directory.specs.declared.table.TableKind.{TableKind}
use Rattle.directory.specs.declared.table.TableKind.TheVariants.{Index, Value, RefCount}
use Rattle.overlay.specs.Rules.{Overlay, overlay_of, overlay_kept}
use Rattle.overlay.specs.Entries.{Entry, entries_of, find_entry}
use Rattle.overlay.specs.Overlay.{stands_in, put_over, removed_from}
use Rattle.memory.specs.declared.counts.Counts.{Counts}
use Rattle.memory.specs.declared.span.Holder.{Holder}
use Rattle.memory.specs.declared.span.Span.{Span}
use Rattle.memory.specs.declared.span.Holder.TheVariants as holder

-- five words a key, and a slot of bytes: 256 keys of each kind shared by all; 32, 32 and 16 of a list
abbrev pub span_of : Holder → TableKind → Span
span_of holder.Shared Index = record { room = 256; words_at = 0; words_end = 1280; bytes_at = 0; bytes_end = 131072 }
span_of holder.Shared Value = record { room = 256; words_at = 1280; words_end = 2560; bytes_at = 131072; bytes_end = 262144 }
span_of holder.Shared RefCount = record { room = 256; words_at = 2560; words_end = 3840; bytes_at = 262144; bytes_end = 524288 }
span_of holder.List Index = record { room = 32; words_at = 0; words_end = 160; bytes_at = 0; bytes_end = 16384 }
span_of holder.List Value = record { room = 32; words_at = 160; words_end = 320; bytes_at = 16384; bytes_end = 32768 }
span_of holder.List RefCount = record { room = 16; words_at = 320; words_end = 400; bytes_at = 32768; bytes_end = 49152 }

-- how many words the three parts have together
abbrev pub words_all : Holder → ℕ
words_all holder.Shared = 3840
words_all holder.List = 400

-- and how many bytes
abbrev pub bytes_all : Holder → ℕ
bytes_all holder.Shared = 524288
bytes_all holder.List = 49152

-- no key of any kind
abbrev pub no_counts : Counts
no_counts = record { index = 0; value = 0; ref_count = 0 }

-- how many keys of a kind are in use
abbrev pub count_of : TableKind → Counts → ℕ
count_of Index c = c.index
count_of Value c = c.value
count_of RefCount c = c.ref_count

-- another number of them
abbrev pub with_count : TableKind → Counts → ℕ → Counts
with_count Index c n = record { index = n; value = c.value; ref_count = c.ref_count }
with_count Value c n = record { index = c.index; value = n; ref_count = c.ref_count }
with_count RefCount c n = record { index = c.index; value = c.value; ref_count = n }

-- a part, as a range of it is lent
abbrev pub part_from : ℕ → ℕ → List ℕ → List ℕ
part_from a e l = take (e - a) (drop a l)

-- a kind's part of the words
abbrev pub words_in : Holder → TableKind → List ℕ → List ℕ
words_in h kind words = part_from (span_of h kind).words_at (span_of h kind).words_end words

-- and of the bytes
abbrev pub bytes_in : Holder → TableKind → List ℕ → List ℕ
bytes_in h kind bytes = part_from (span_of h kind).bytes_at (span_of h kind).bytes_end bytes

-- one kind
abbrev pub part_of : Holder → TableKind → Counts → List ℕ → List ℕ → Overlay
part_of h kind c words bytes = overlay_of (span_of h kind).room (words_in h kind words) (bytes_in h kind bytes) (count_of kind c)

-- all three, and what the memories have behind them: so nothing of either is left out
pub record Parts : Type 0 where
  pub index : Overlay
  pub value : Overlay
  pub ref_count : Overlay
  pub words_more : List ℕ
  pub bytes_more : List ℕ

-- as a call is handed them: how many keys of each kind, and the two memories
abbrev pub parts_of : Holder → Counts → List ℕ → List ℕ → Parts
parts_of h c words bytes = record {
  index = part_of h Index c words bytes;
  value = part_of h Value c words bytes;
  ref_count = part_of h RefCount c words bytes;
  words_more = drop (words_all h) words;
  bytes_more = drop (bytes_all h) bytes;
}

-- one of the three
abbrev pub of_kind : TableKind → Parts → Overlay
of_kind Index p = p.index
of_kind Value p = p.value
of_kind RefCount p = p.ref_count

-- what stands under a key of a kind
abbrev pub entry_under : TableKind → ℕ → Parts → Option Entry
entry_under kind key p = find_entry key (entries_of kind (of_kind kind p))

-- one kind changed, the others as they were
abbrev pub with_kind : TableKind → Parts → Overlay → Parts
with_kind Index p o = record { index = o; value = p.value; ref_count = p.ref_count; words_more = p.words_more; bytes_more = p.bytes_more }
with_kind Value p o = record { index = p.index; value = o; ref_count = p.ref_count; words_more = p.words_more; bytes_more = p.bytes_more }
with_kind RefCount p o = record { index = p.index; value = p.value; ref_count = o; words_more = p.words_more; bytes_more = p.bytes_more }

-- the rules of all three, and no memory behind them. Any other is 13
unfoldable pub parts_kept : Holder → Parts → Bool
parts_kept h p =
    eqb (length p.words_more) 0 && (eqb (length p.bytes_more) 0 && (overlay_kept Index (span_of h Index).room p.index
    && (overlay_kept Value (span_of h Value).room p.value && overlay_kept RefCount (span_of h RefCount).room p.ref_count)))

-- there is room for a key of a kind, or it stands there already
abbrev pub Takes : Holder → TableKind → Parts → ℕ → Type 0
Takes h kind p key = stands_in (of_kind kind p) key ≡ false → (of_kind kind p).count < (span_of h kind).room

-- an entry put into the part of its kind
unfoldable pub put_into : TableKind → Parts → ℕ → ℕ → ℕ → ℕ → List ℕ → Parts
put_into kind p table index id mark src = with_kind kind p (put_over kind (of_kind kind p) table index id mark src)

-- the entry of a key taken out of the part of its kind, if its id is the one given
unfoldable pub remove_from : TableKind → Parts → ℕ → ℕ → Parts
remove_from kind p key id = with_kind kind p (removed_from kind (of_kind kind p) key id)
