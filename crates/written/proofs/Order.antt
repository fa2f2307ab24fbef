-- One order for writing and reading: a record is the bytes of its list's actions, one behind the other, and within a kind their keys rise.
-- Assumes nothing.
use mathlib.Core.Path.{◌≡◌, refl, sym, ap, ap₂, ◌∙◌}
use mathlib.Core.Bool.{true}
use mathlib.Core.List.{List, [], ◌∷◌, ◌++◌, map, append_assoc, append-nil}
use Prim.Native.Nat.{ℕ}
use lib.ListN.{take}
use Rattle.checksum.specs.Checksum.{checksum_of}
use Rattle.directory.specs.declared.table.TableKind.{TableKind}
use Rattle.directory.specs.declared.table.TableKind.TheVariants.{Index, Value, RefCount}
use Rattle.directory.specs.declared.directory.Directory.{Directory}
use Rattle.record.specs.Record.{drop_index, drop_ref_count}
use Rattle.effect.specs.Effect.{Written}
use Rattle.numbers.specs.Numbers.{ascends}
use Rattle.keys.specs.Keys.{key_at, keys_of}
use Rattle.keys.proofs.Places.{rule-rises}
use Rattle.overlay.specs.Rules.{Overlay}
use Rattle.memory.specs.Parts.{of_kind}
use Rattle.change.specs.Change.{Change, change_kept}
use Rattle.change.specs.declared.drops.Drops.{Drops}
use Rattle.output.specs.Put.{le, joined}
use Rattle.writer.specs.Bytes.{entry_bytes, entry_bytes_at, entries, drop_bytes, drops_bytes, body, record_of}
use Rattle.writer.specs.Typed.{Typed}
use Rattle.written.specs.Actions.{insert_at, inserts, drop_at, drops_of, all_inserts, all_drops, list_actions, action_bytes, actions_bytes, rank_of}
use Rattle.written.proofs.Accepted.{in_order}

-- ---- the bytes

bytes-append : (vs ws : List Written) → actions_bytes (vs ++ ws) ≡ actions_bytes vs ++ actions_bytes ws
unfolding actions_bytes
bytes-append [] ws = refl
bytes-append (v ∷ vs) ws = ap (λ (x : List ℕ). action_bytes v ++ x) (bytes-append vs ws) ∙ sym (append_assoc (action_bytes v) (actions_bytes vs) (actions_bytes ws))

joined_bytes : (f : ℕ → List ℕ) (g : ℕ → Written) → ((p : ℕ) → f p ≡ action_bytes (g p)) → (ps : List ℕ) → joined f ps ≡ actions_bytes (map g ps)
unfolding joined actions_bytes
joined_bytes f g e [] = refl
joined_bytes f g e (p ∷ ps) = ap₂ (λ (x y : List ℕ). x ++ y) (e p) (joined_bytes f g e ps)

entry-bytes : (kind : TableKind) (o : Overlay) (p : ℕ) → entry_bytes_at kind o p ≡ action_bytes (insert_at kind o p)
unfolding entry_bytes_at entry_bytes insert_at
entry-bytes Index o p = simp append_assoc
entry-bytes Value o p = simp append_assoc
entry-bytes RefCount o p = simp append_assoc

kind-bytes : (kind : TableKind) (o : Overlay) → entries kind o ≡ actions_bytes (inserts kind o)
unfolding entries inserts
kind-bytes kind o = joined_bytes (entry_bytes_at kind o) (insert_at kind o) (entry-bytes kind o) (take o.count o.order)

index-drops : (s : Drops) → drops_bytes 5 s ≡ actions_bytes (drops_of drop_index s)
unfolding drops_bytes drop_bytes drops_of
index-drops s = joined_bytes (drop_bytes 5) (drop_at drop_index) (λ p. simp append-nil) (take s.count s.tables)

count-drops : (s : Drops) → drops_bytes 7 s ≡ actions_bytes (drops_of drop_ref_count s)
unfolding drops_bytes drop_bytes drops_of
count-drops s = joined_bytes (drop_bytes 7) (drop_at drop_ref_count) (λ p. simp append-nil) (take s.count s.tables)

-- what stands between begin and end is the bytes of the list's actions in turn
body_is : (l : Change) → body l ≡ le 1 1 ++ le 8 l.id ++ actions_bytes (list_actions l) ++ le 1 4
unfolding body list_actions all_inserts all_drops
body_is l =
    rw (kind-bytes Index l.parts.index, kind-bytes Value l.parts.value, kind-bytes RefCount l.parts.ref_count, index-drops l.drops, count-drops l.count_drops)
    (simp (bytes-append, append_assoc))

pub record_from-actions : (l : Change) → (let all : List ℕ = le 1 1 ++ le 8 l.id ++ actions_bytes (list_actions l) ++ le 1 4 in
    record_of l ≡ all ++ le 4 (checksum_of all))
unfolding record_of
record_from-actions l = ap (λ (x : List ℕ). x ++ le 4 (checksum_of x)) (body_is l)

-- ---- "by table number, then index, ascending"

ranks : (kind : TableKind) (o : Overlay) (ps : List ℕ) → map (λ (w : Written). rank_of w.action) (map (insert_at kind o) ps) ≡ map (key_at o.rows) ps
unfolding insert_at
ranks Index o [] = refl
ranks Index o (p ∷ ps) = ap (λ (x : List ℕ). key_at o.rows p ∷ x) (ranks Index o ps)
ranks Value o [] = refl
ranks Value o (p ∷ ps) = ap (λ (x : List ℕ). key_at o.rows p ∷ x) (ranks Value o ps)
ranks RefCount o [] = refl
ranks RefCount o (p ∷ ps) = ap (λ (x : List ℕ). key_at o.rows p ∷ x) (ranks RefCount o ps)

-- strictly, within each kind: no key stands twice
pub order-ascends : (d : Directory) (l : Change) → change_kept d l ≡ true → Typed l → (kind : TableKind)
    → ascends (map (λ (w : Written). rank_of w.action) (inserts kind (of_kind kind l.parts))) ≡ true
unfolding inserts keys_of
order-ascends d l kept words kind =
    let o : Overlay = of_kind kind l.parts in
    ap ascends (ranks kind o (take o.count o.order)) ∙ rule-rises o.rows o.order o.count (in_order d l kept words kind)
