-- The slots of a mask, a run at a time; the lengths of what is put together. Assumes nothing.
use mathlib.Core.Path.{◌≡◌, refl, ap}
use mathlib.Core.List.{List, [], ◌++◌, append_assoc}
use Prim.Native.Nat.{ℕ, zero, suc, ◌+◌, ◌-◌, ◌*◌, ◌^◌, ◌≤◌}
use native.Mathlib.Nat.{add-zero, sub-zero, suc-sub-suc, zero-mul, mul-one}
use native.Mathlib.Omega.{arith}
use lib.Bits.{shifted_half, shifted_even}
use lib.ListN.{length, take, drop, length-append}
use lib.Seq.{take-add, drop-drop}
use Rattle.words.proofs.Runs.{set-half, set-odd}
use Rattle.directory.specs.declared.table.TableKind.{TableKind}
use Rattle.change.specs.Change.{Change}
use Rattle.output.specs.Put.{put, Wrote}
use Rattle.words.specs.Words.{Passes}
use Rattle.output.proofs.Laws.{rest, room, none_left, length-le}
use Rattle.writer.specs.Bytes.{set_slots, masked_bytes, payload_of, entry_bytes, body, record_of}
use Rattle.writer.specs.Inner.{changes_of}

-- z clear bits: so many slots are passed
slots-clear : (z n w x : ℕ) (chunk : List ℕ) → z ≤ n → set_slots n w (x * 2 ^ z) chunk ≡ set_slots (n - z) w x (drop (z * w) chunk)
unfolding set_slots
slots-clear zero n w x chunk h = simp (mul-one, sub-zero, zero-mul)
slots-clear (suc z) zero w x chunk h = absurd (omega arith)
slots-clear (suc z) (suc n) w x chunk h =
    let b : suc z * w ≡ w + z * w = omega arith in
    rw (shifted_even x z, shifted_half x z, suc-sub-suc, b, ← drop-drop (z * w) w chunk) (slots-clear z n w x (drop w chunk) (omega arith))

-- o set bits: as many slots, one behind the other
slots_set : (o n w x : ℕ) (chunk : List ℕ) → o ≤ n
    → set_slots n w (x * 2 ^ o + (2 ^ o - 1)) chunk ≡ take (o * w) chunk ++ set_slots (n - o) w x (drop (o * w) chunk)
unfolding set_slots
slots_set zero n w x chunk h = simp (mul-one, add-zero, sub-zero, zero-mul)
slots_set (suc o) zero w x chunk h = absurd (omega arith)
slots_set (suc o) (suc n) w x chunk h =
    let b : suc o * w ≡ w + o * w = omega arith in
    rw (set-odd o x, set-half o x, suc-sub-suc, b, ← drop-drop (o * w) w chunk, take-add w (o * w) chunk, append_assoc)
    (ap (λ (l : List ℕ). take w chunk ++ l) (slots_set o n w x (drop w chunk) (omega arith)))

slots-none : (n w : ℕ) (chunk : List ℕ) → set_slots n w 0 chunk ≡ []
unfolding set_slots
slots-none zero w chunk = refl
slots-none (suc n) w chunk = slots-none n w (drop w chunk)

-- the bytes of a run, as the code names the part
abbrev pub run : ℕ → List ℕ → ℕ → ℕ → List ℕ
run w chunk a e = take (e * w - a * w) (drop (a * w) chunk)

-- a turn of the walk: a run is passed
module _ (w : ℕ) (chunk : List ℕ) {from bits a n after left : ℕ} (p : Passes from bits a n after left) (fits : after ≤ 64) where
  slots-run : set_slots (64 - from) w bits (drop (from * w) chunk) ≡ run w chunk a (a + n) ++ set_slots (64 - after) w left (drop (after * w) chunk)
  slots-run =
      let z : ℕ = p.clear in
      let e : 64 - after ≡ 64 - from - z - n = omega (arith, p.begins, p.ends) in
      let k : z + n ≤ 64 - from = omega (arith, p.begins, p.ends) in
      let b : (a + n) * w - a * w ≡ n * w = omega arith in
      let c : after * w ≡ a * w + n * w = omega (arith, ap (λ (i : ℕ). i * w) p.ends) in
      let d : a * w ≡ from * w + z * w = omega (arith, ap (λ (i : ℕ). i * w) p.begins) in
      let t = slots-clear z (64 - from) w (left * 2 ^ n + (2 ^ n - 1)) (drop (from * w) chunk) (omega arith) in
      let s = slots_set n (64 - from - z) w left (drop (z * w) (drop (from * w) chunk)) (omega arith) in
      rw (e, b, c, d, p.bits, ← drop-drop (n * w) (from * w + z * w) chunk, ← drop-drop (z * w) (from * w) chunk, t) s

  module _ {out : List ℕ} {at : ℕ} {f : List ℕ} {e : ℕ} (still : Wrote out at (set_slots (64 - from) w bits (drop (from * w) chunk)) f e) where
    pub slots-room : at + length (run w chunk a (a + n)) ≤ e
    slots-room = room (run w chunk a (a + n)) (set_slots (64 - after) w left (drop (after * w) chunk)) (rw slots-run at still)

    pub slots-rest : {m : List ℕ} {r : ℕ} → Wrote out at (run w chunk a (a + n)) m r → Wrote m r (set_slots (64 - after) w left (drop (after * w) chunk)) f e
    slots-rest x = rest (rw slots-run at still) x

pub slots-done : (k w m : ℕ) (chunk : List ℕ) {l : List ℕ} {at : ℕ} {bs n : List ℕ} {r : ℕ} → m ≤ 0 → Wrote n r (set_slots k w m chunk) (put l at bs) (at + length bs) → Wrote l at bs n r
slots-done k w m chunk h left =
    let e : m ≡ 0 = omega arith in
    none_left (rw (e, slots-none k w chunk) at left)

pub length_masked : (w mask : ℕ) (chunk : List ℕ) → length (masked_bytes w mask chunk) ≡ 8 + length (set_slots 64 w mask chunk)
unfolding masked_bytes
length_masked w mask chunk = simp (length-append, length-le)

pub length-entry : (kind : TableKind) (table index mark : ℕ) (bytes : List ℕ) → length (entry_bytes kind table index mark bytes) ≡ 11 + length (payload_of kind mark bytes)
unfolding entry_bytes
length-entry kind table index mark bytes = simp (length-append, length-le)

pub length_record_of : (l : Change) → length (record_of l) ≡ length (changes_of l) + 5
unfolding record_of body
length_record_of l = simp (length-append, length-le) (omega arith)
