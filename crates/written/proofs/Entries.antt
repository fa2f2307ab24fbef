-- Each entry that the writer writes is read as its action. Assumes nothing.
use Rattle.std.specs.Prelude.{Option, Some, None}
use mathlib.Core.Path.{◌≡◌, refl, sym, ap, ap₂, ◌∙◌}
use mathlib.Core.Bool.{true, false, ◌&&◌}
use mathlib.Core.List.{List, [], ◌++◌, append_assoc, append-nil}
use Prim.Native.Nat.{ℕ, ◌+◌, ◌*◌, ◌≤◌, ◌<◌}
use native.Mathlib.Omega.{arith}
use lib.Count.{ones}
use lib.Dec.{ltb}
use lib.ListN.{length, take, length-append}
use lib.Seq.{length-take-le}
use borrow.Author.Tests.{ltb-true, eqb-true}
use Rattle.directory.specs.Table.{unit_of}
use Rattle.directory.specs.Directory.{tables_of, find_table, stands}
use Rattle.directory.specs.declared.table.TableKind.{TableKind}
use Rattle.directory.specs.declared.table.TableKind.TheVariants.{Index, Value, RefCount}
use Rattle.directory.specs.declared.table.TableDescription.{TableDescription}
use Rattle.directory.specs.declared.directory.Directory.{Directory}
use Rattle.record.specs.Format.{Format, got, read_at}
use Rattle.record.specs.Record.{Item, insert_of, masked_item, dropped_item, inside_by}
use Rattle.record.specs.Next.{is_end}
use Rattle.record.specs.declared.action.LogAction.{LogAction}
use Rattle.effect.specs.Effect.{written}
use Rattle.numbers.proofs.Laws.{left-of, right_of}
use Rattle.overlay.specs.Rules.{mark_ruled}
use Rattle.change.specs.Change.{mark_fits, key_fits}
use Rattle.change.proofs.Fitting.{there}
use Rattle.output.specs.Put.{le}
use Rattle.output.proofs.Laws.{length-le}
use Rattle.writer.specs.Bytes.{set_slots, masked_bytes, payload_of, entry_bytes}
use Rattle.writer.proofs.Sizes.{ones_in_lem, length-slots}
use Rattle.written.proofs.Here.{Here, on}
use Rattle.written.proofs.Parts.{masked_read, valued_read, dropped-read}
use Rattle.written.proofs.Walk.{Reads, tagged}

-- what a listed key that fits the directory shows
pub record Fitting (d : Directory) (kind : TableKind) (t i m : ℕ) : Type 0 where
  pub small : t < 65536
  pub row : ℕ
  pub table : TableDescription
  pub found : find_table d kind t ≡ Some (row, table)
  pub below : i < table.count
  pub mark : mark_fits kind table m ≡ true
  pub ruled : mark_ruled kind m ≡ true

pub fitting : (d : Directory) (kind : TableKind) (t i m : ℕ) → t < 65536 → mark_ruled kind m ≡ true → key_fits kind (find_table d kind t) i m ≡ true → Fitting d kind t i m
fitting d kind t i m small ruled e = by (find_table d kind t) refl
  where
    by : (f : Option (ℕ × TableDescription)) → find_table d kind t ≡ f → Fitting d kind t i m
    by (Some (row, T)) g =
        let k : (ltb i T.count && mark_fits kind T m) ≡ true = rw g at e in
        record { small = small; row = row; table = T; found = g; below = ltb-true i T.count (left-of (ltb i T.count) _ k); mark = right_of (ltb i T.count) _ k; ruled = ruled }
    by None g = let z : ◌≡◌ {A = ℕ} 0 1 = cc (rw g at e) in absurd (omega arith)

-- what lies under an index is a chunk, or a value as long as the mark says
pub unit_kept : (kind : TableKind) (T : TableDescription) (m : ℕ) → mark_fits kind T m ≡ true → unit_of kind T.length ≡ unit_of kind m
unit_kept Index T m e = refl
unit_kept Value T m e = sym (eqb-true m T.length e)
unit_kept RefCount T m e = refl

regroup : (a b c p q : List ℕ) → (((a ++ b) ++ c) ++ p) ++ q ≡ a ++ (b ++ (c ++ (p ++ q)))
regroup a b c p q = simp append_assoc

-- "2 index", "6 reference count"
module _ (d : Directory) (kind : TableKind) (w tag : ℕ) (short : tag < 256) (is : (register : ℕ) → inside_by d true register tag ≡ masked_item d kind w)
    (goes : (t i : ℕ) → is_end (insert_of kind t i) ≡ false) where
  masked_reads : (t i m : ℕ) (s : List ℕ) → Fitting d kind t i m → i < 18446744073709551616 → m < 18446744073709551616 → length s ≡ ones m * w
      → Reads d (le 1 tag ++ le 2 t ++ le 8 i ++ (le 8 m ++ s)) (written (insert_of kind t i) (le 8 m ++ s))
  masked_reads t i m s f word bits long = record {
    head = le 1 tag ++ le 2 t ++ le 8 i;
    is = refl;
    goes = goes t i;
    reads = λ log at register b h.
        let k : Here log at (le 1 tag ++ (le 2 t ++ (le 8 i ++ (le 8 m ++ (s ++ b))))) =
        record { fits = h.fits; is = h.is ∙ regroup (le 1 tag) (le 2 t) (le 8 i) (le 8 m ++ s) b ∙ rw append_assoc } in
        let n : 8 + length s ≡ length (le 8 m ++ s) = omega (arith, length-append (le 8 m) s, length-le 8 m) in
        let e : at + 1 + 10 + (8 + length s) ≡ at + length (le 1 tag ++ le 2 t ++ le 8 i ++ (le 8 m ++ s)) =
        simp (length-append, length-le) (omega arith) in
        tagged d register tag _ short k
        ∙ ap (λ (g : Format Item). read_at g (at + 1) log) (is register)
        ∙ masked_read d kind t f.row f.table f.small f.found i word f.below w m s b bits long (on (le 1 tag) _ 1 (length-le 1 tag) k)
        ∙ ap₂ (λ (x y : ℕ). got (record { action = insert_of kind t i; payload = x }) y) n e;
  }

-- "3 value"
module _ (d : Directory) where
  valued_reads : (t i : ℕ) (v : List ℕ) → (f : Fitting d Value t i (length v)) → i < 18446744073709551616
      → Reads d (le 1 3 ++ le 2 t ++ le 8 i ++ v) (written (insert_of Value t i) v)
  unfolding inside_by
  valued_reads t i v f word =
      let n : length v ≡ f.table.length = eqb-true (length v) f.table.length f.mark in
      record {
        head = le 1 3 ++ le 2 t ++ le 8 i;
        is = refl;
        goes = refl;
        reads = λ log at register b h.
            let k : Here log at (le 1 3 ++ (le 2 t ++ (le 8 i ++ (v ++ b)))) = record { fits = h.fits; is = h.is ∙ regroup (le 1 3) (le 2 t) (le 8 i) v b } in
            let e : at + 1 + 10 + f.table.length ≡ at + length (le 1 3 ++ le 2 t ++ le 8 i ++ v) = simp (length-append, length-le) (omega arith) in
            tagged d register 3 _ (omega arith) k
            ∙ valued_read d t f.row f.table f.small f.found i word f.below v b n (on (le 1 3) _ 1 (length-le 1 3) k)
            ∙ ap₂ (λ (x y : ℕ). got (record { action = insert_of Value t i; payload = x }) y) (sym n) e;
      }

-- an entry of each kind
module _ (d : Directory) (t i m : ℕ) (bytes : List ℕ) (word : i < 18446744073709551616) (bits : m < 18446744073709551616) where
  named : (w : ℕ) → 64 * w ≤ length bytes → length (set_slots 64 w m bytes) ≡ ones m * w
  named w h = length-slots 64 w m bytes h ∙ ap (λ (x : ℕ). x * w) (ones_in_lem 64 m bits)

  pub entry-reads : (kind : TableKind) (f : Fitting d kind t i m) → unit_of kind m ≤ length bytes
      → Reads d (entry_bytes kind t i m bytes) (written (insert_of kind t i) (payload_of kind m bytes))
  unfolding entry_bytes inside_by masked_bytes
  entry-reads Index f h = masked_reads d Index 8 2 (omega arith) (λ register. refl) (λ t i. refl) t i m (set_slots 64 8 m bytes) f word bits (named 8 h)
  entry-reads Value f h =
      let l : m ≡ length (take m bytes) = sym (length-take-le m bytes h) in
      valued_reads d t i (take m bytes) (rw l at f) word
  entry-reads RefCount f h = masked_reads d RefCount 16 6 (omega arith) (λ register. refl) (λ t i. refl) t i m (set_slots 64 16 m bytes) f word bits (named 16 h)

-- "5 drop index table", "7 drop reference count table"
module _ (d : Directory) (kind : TableKind) (tag : ℕ) (action : ℕ → LogAction) (short : tag < 256) (is : (register : ℕ) → inside_by d true register tag ≡ dropped_item d kind action)
    (goes : (t : ℕ) → is_end (action t) ≡ false) where
  pub drop_reads : (t : ℕ) → t < 65536 → stands (tables_of d) kind t ≡ true → Reads d (le 1 tag ++ le 2 t) (written (action t) [])
  drop_reads t small e = by (find_table d kind t) refl
    where
      by : (f : Option (ℕ × TableDescription)) → find_table d kind t ≡ f → Reads d (le 1 tag ++ le 2 t) (written (action t) [])
      by None q = let z : ◌≡◌ {A = ℕ} 0 1 = cc (rw q at (there d kind t), e) in absurd (omega arith)
      by (Some (row, T)) q = record {
        head = le 1 tag ++ le 2 t;
        is = sym (append-nil (le 1 tag ++ le 2 t));
        goes = goes t;
        reads = λ log at register b h.
            let k : Here log at (le 1 tag ++ (le 2 t ++ b)) = record { fits = h.fits; is = h.is ∙ append_assoc (le 1 tag) (le 2 t) b } in
            let n : at + 1 + 2 + 0 ≡ at + length (le 1 tag ++ le 2 t) = simp (length-append, length-le) (omega arith) in
            tagged d register tag _ short k
            ∙ ap (λ (g : Format Item). read_at g (at + 1) log) (is register)
            ∙ dropped-read d kind t row T small q action b (on (le 1 tag) _ 1 (length-le 1 tag) k)
            ∙ ap (got (record { action = action t; payload = 0 })) n;
      }
