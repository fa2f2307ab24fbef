-- What the reader makes of each part of a record that the writer wrote. Assumes nothing.
use Rattle.std.specs.Prelude.{Some}
use mathlib.Core.Path.{◌≡◌, refl, sym, ap, ◌∙◌}
use mathlib.Core.Bool.{Bool}
use mathlib.Core.List.{List, ◌++◌}
use Prim.Native.Nat.{ℕ, ◌+◌, ◌*◌, ◌<◌}
use native.Mathlib.Omega.{arith}
use lib.Count.{ones}
use lib.ListN.{length}
use borrow.Author.Tests.{lt-ltb}
use Rattle.directory.specs.Directory.{find_table}
use Rattle.directory.specs.declared.table.TableKind.{TableKind}
use Rattle.directory.specs.declared.table.TableKind.TheVariants.{Value}
use Rattle.directory.specs.declared.table.TableDescription.{TableDescription}
use Rattle.directory.specs.declared.directory.Directory.{Directory}
use Rattle.record.specs.Format.{got, read_at}
use Rattle.record.specs.Record.{insert_of, key, chunk, masked_item, value, valued_item, dropped_item}
use Rattle.answer.specs.declared.answer.Answer.TheVariants.{NoIndex}
use Rattle.record.specs.declared.action.LogAction.{LogAction}
use Rattle.record.specs.declared.item.Key.{Key}
use Rattle.record.proofs.Formats.{then_got}
use Rattle.record.proofs.Parts.{tested, key_met, chunk_met, value_met, table_met, dropped_met}
use Rattle.output.specs.Put.{le}
use Rattle.output.proofs.Laws.{length-le}
use Rattle.written.proofs.Here.{Here, on, room, number}

-- a key as the reader hands it on
abbrev pub key_of : ℕ → ℕ → TableDescription → Key
key_of t i T = record { table = t; index = i; description = T }

module _ (d : Directory) (kind : TableKind) (t : ℕ) (row : ℕ) (T : TableDescription) (small : t < 65536) (found : find_table d kind t ≡ Some (row, T)) {log : List ℕ} {at : ℕ} where
  -- "table 2, index 8"
  module _ (i : ℕ) (word : i < 18446744073709551616) (below : i < T.count) where
    pub key-read : (b : List ℕ) → Here log at (le 2 t ++ (le 8 i ++ b)) → read_at (key d kind) at log ≡ got (key_of t i T) (at + 10)
    key-read b h =
        let h₂ : Here log (at + 2) (le 8 i ++ b) = on (le 2 t) (le 8 i ++ b) 2 (length-le 2 t) h in
        key_met at log d kind t i (Some (row, T)) (omega (arith, room (le 2 t) (le 8 i ++ b) 2 (length-le 2 t) h, room (le 8 i) b 8 (length-le 8 i) h₂))
        (number 2 t (le 8 i ++ b) (omega arith) h) (number 8 i b (omega arith) h₂) (sym found)
        ∙ ap (λ (x : Bool). tested x (got (key_of t i T) (at + 10)) NoIndex) (lt-ltb i T.count below)

    key-behind : (b : List ℕ) → Here log at (le 2 t ++ (le 8 i ++ b)) → Here log (at + 10) b
    key-behind b h =
        let h₁₀ : Here log (at + 2 + 8) b = on (le 8 i) b 8 (length-le 8 i) (on (le 2 t) (le 8 i ++ b) 2 (length-le 2 t) h) in
        let e : at + 2 + 8 ≡ at + 10 = omega arith in
        rw e at h₁₀

    -- "mask 8", and the bytes of the slots
    pub masked_read : (w m : ℕ) (s b : List ℕ) → m < 18446744073709551616 → length s ≡ ones m * w
        → Here log at (le 2 t ++ (le 8 i ++ (le 8 m ++ (s ++ b))))
        → read_at (masked_item d kind w) at log ≡ got (record { action = insert_of kind t i; payload = 8 + length s }) (at + 10 + (8 + length s))
    unfolding masked_item
    masked_read w m s b bits long h =
        let h₁₀ : Here log (at + 10) (le 8 m ++ (s ++ b)) = key-behind (le 8 m ++ (s ++ b)) h in
        let h₁₈ : Here log (at + 10 + 8) (s ++ b) = on (le 8 m) (s ++ b) 8 (length-le 8 m) h₁₀ in
        sym (then_got (key d kind) (chunk kind w) at log (key_of t i T) (at + 10) (sym (key-read (le 8 m ++ (s ++ b)) h)))
        ∙ chunk_met (at + 10) log kind w (key_of t i T) m (length s) (room (le 8 m) (s ++ b) 8 (length-le 8 m) h₁₀) (number 8 m (s ++ b) (omega arith) h₁₀) long (room s b (length s) refl h₁₈)

  -- "table 2"
  pub dropped-read : (action : ℕ → LogAction) (b : List ℕ) → Here log at (le 2 t ++ b)
      → read_at (dropped_item d kind action) at log ≡ got (record { action = action t; payload = 0 }) (at + 2 + 0)
  dropped-read action b h =
      sym (dropped_met at log d kind action t
      (sym (table_met at log d kind t (Some (row, T)) (room (le 2 t) b 2 (length-le 2 t) h) (number 2 t b (omega arith) h) (sym found))))

-- a value of the table's length
pub valued_read : (d : Directory) (t row : ℕ) (T : TableDescription) (small : t < 65536) (found : find_table d Value t ≡ Some (row, T)) {log : List ℕ} {at : ℕ}
    (i : ℕ) (word : i < 18446744073709551616) (below : i < T.count) (v b : List ℕ) → length v ≡ T.length → Here log at (le 2 t ++ (le 8 i ++ (v ++ b)))
    → read_at (valued_item d) at log ≡ got (record { action = insert_of Value t i; payload = T.length }) (at + 10 + T.length)
unfolding valued_item
valued_read d t row T small found {log} {at} i word below v b long h =
    let h₁₀ : Here log (at + 10) (v ++ b) = key-behind d Value t row T small found i word below (v ++ b) h in
    sym (then_got (key d Value) value at log (key_of t i T) (at + 10) (sym (key-read d Value t row T small found i word below (v ++ b) h)))
    ∙ value_met (at + 10) log (key_of t i T) (room v b T.length long h₁₀)
