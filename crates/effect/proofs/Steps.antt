-- One turn of each loop: what is left to store, applied to what is there, stays the same.
-- Assumes nothing.
use Prim.Native.Nat.{ℕ, zero, suc, ◌+◌, ◌-◌, ◌*◌, ◌^◌, ◌≤◌}
use mathlib.Core.Path.{◌≡◌, refl, sym, ap}
use mathlib.Core.List.{List, [], ◌∷◌, ◌++◌}
use native.Mathlib.Nat.{zero-add, add-zero, sub-zero, suc-sub-suc, zero-mul, mul-one}
use native.Mathlib.Omega.{arith}
use lib.Bits.{shifted_half, shifted_even}
use lib.ListN.{length, take, drop, set}
use lib.Seq.{sets, sets-eq, take-nil, drop-drop}
use Rattle.std.proofs.Common.{append_assoc}
use Rattle.words.specs.Words.{Passes}
use Rattle.words.proofs.Runs.{set-half, set-odd}
use Rattle.effect.specs.Effect.{slot_strokes, puts}

-- bytes that are stored in a part
pub stored : (l ys : List ℕ) (at n : ℕ) → at + n ≤ length l → length ys ≡ n → take at l ++ (ys ++ drop (at + n - at) (drop at l)) ≡ sets l at ys
stored l ys at n h e =
    let q : at + n - at ≡ n = omega arith in
    rw (q, drop-drop, sets-eq ys l at (omega arith), append_assoc, e) refl

-- ---- the slots of a mask

-- one store behind another is one
sets_take : (w k : ℕ) (l es : List ℕ) (at : ℕ) → sets (sets l at (take w es)) (at + w) (take k (drop w es)) ≡ sets l at (take (w + k) es)
sets_take zero k l es at = simp (add-zero, zero-add)
sets_take (suc w) k l [] at = simp take-nil
sets_take (suc w) k l (e ∷ es) at =
    let a : at + suc w ≡ suc at + w = omega arith in
    let b : suc w + k ≡ suc (w + k) = omega arith in
    rw (a, b) (sets_take w k (set l at e) es (suc at))

-- z clear bits: so many slots are passed
slots-clear : (z n w at x : ℕ) (es : List ℕ) → z ≤ n → slot_strokes n w at (x * 2 ^ z) es ≡ slot_strokes (n - z) w (at + z * w) x es
unfolding slot_strokes
slots-clear zero n w at x es h = simp (mul-one, sub-zero, zero-mul, add-zero)
slots-clear (suc z) zero w at x es h = absurd (omega arith)
slots-clear (suc z) (suc n) w at x es h =
    let a : at + suc z * w ≡ at + w + z * w = omega arith in
    rw (shifted_even x z, shifted_half x z, suc-sub-suc, a) (slots-clear z n w (at + w) x es (omega arith))

-- o set bits: as many entries, at a stroke
slots_set : (o n w at x : ℕ) (es l : List ℕ) → o ≤ n
    → puts (slot_strokes n w at (x * 2 ^ o + (2 ^ o - 1)) es) l ≡ puts (slot_strokes (n - o) w (at + o * w) x (drop (o * w) es)) (sets l at (take (o * w) es))
unfolding slot_strokes puts
slots_set zero n w at x es l h = simp (mul-one, add-zero, sub-zero, zero-mul)
slots_set (suc o) zero w at x es l h = absurd (omega arith)
slots_set (suc o) (suc n) w at x es l h =
    let a : at + suc o * w ≡ at + w + o * w = omega arith in
    let b : suc o * w ≡ w + o * w = omega arith in
    rw (set-odd o x, set-half o x, suc-sub-suc, a, b, ← sets_take w (o * w) l es at, ← drop-drop (o * w) w es)
    (slots_set o n w (at + w) x (drop w es) (sets l at (take w es)) (omega arith))

-- a turn of the walk: a run is passed
pub slots-run : (l es : List ℕ) (w at f : ℕ) {from rest a n after left : ℕ} → Passes from rest a n after left → after ≤ 64
    → puts (slot_strokes (64 - after) w (at + after * w) left (drop (f + n * w) es)) (sets l (at + a * w) (take (n * w) (drop f es)))
    ≡ puts (slot_strokes (64 - from) w (at + from * w) rest (drop f es)) l
slots-run l es w at f {from} {rest} {a} {n} {after} {left} p h =
    let z : ℕ = p.clear in
    let b : at + a * w ≡ at + from * w + z * w = omega (arith, ap (λ (k : ℕ). k * w) p.begins) in
    let c : at + after * w ≡ at + from * w + z * w + n * w = omega (arith, ap (λ (k : ℕ). k * w) p.begins, ap (λ (k : ℕ). k * w) p.ends) in
    let d : 64 - after ≡ 64 - from - z - n = omega (arith, p.begins, p.ends) in
    let k : z + n ≤ 64 - from = omega (arith, p.begins, p.ends) in
    let s = slots_set n (64 - from - z) w (at + from * w + z * w) left (drop f es) l (omega arith) in
    let t = slots-clear z (64 - from) w (at + from * w) (left * 2 ^ n + (2 ^ n - 1)) (drop f es) (omega arith) in
    rw (b, c, d, ← drop-drop (n * w) f es, p.bits, t) (sym s)

pub slots-none : (n w at : ℕ) (es : List ℕ) → slot_strokes n w at 0 es ≡ []
unfolding slot_strokes
slots-none zero w at es = refl
slots-none (suc n) w at es = slots-none n w (at + w) es

-- the first and the last
pub slots-first : (l es : List ℕ) (w at mask : ℕ) → puts (slot_strokes (64 - 0) w (at + 0 * w) mask es) l ≡ puts (slot_strokes 64 w at mask es) l
slots-first l es w at mask = let a : at + 0 * w ≡ at = omega arith in rw a

pub slots-last : (l es : List ℕ) (n w at m f : ℕ) → m ≤ 0 → puts (slot_strokes n w at m (drop f es)) l ≡ l
unfolding puts
slots-last l es n w at m f h = let e : m ≡ 0 = omega arith in rw (e, slots-none n w at (drop f es))
