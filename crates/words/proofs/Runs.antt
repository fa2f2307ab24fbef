-- A mask by its runs: z clear bits lowest, then o set ones, then what lies above them, x. Assumes nothing.
use mathlib.Core.Path.{◌≡◌, refl, sym, ap, ◌∙◌}
use Prim.Native.Nat.{ℕ, zero, suc, ◌+◌, ◌-◌, ◌*◌, ◌/◌, ◌%◌, ◌^◌, ◌≤◌, ◌<◌}
use native.Mathlib.Nat.{add-zero, add-mul, mul-le-mul_right, zero-sub, sub-zero, suc-sub-suc, mul_assoc, pow-suc, pow-succ', div-div-eq-div-mul}
use native.Mathlib.Numerals.{add-one}
use native.Mathlib.Omega.{arith}
use lib.Bits.{block_half, block_odd, shifted_half}
use lib.Count.{ones, under, count_trailing_zeros, ones_cat, ones-ones}
use lib.Pow.{pow_pos, pow-lt, ones_lt, high, shr_le}
use Rattle.words.specs.Words.{Passes}

-- a bit more that is shifted out
halves : (n t : ℕ) → n / 2 ^ suc t ≡ n / 2 / 2 ^ t
halves n t = rw (pow-succ' 2 t, div-div-eq-div-mul n 2 (2 ^ t))

-- ---- set bits below x: the lowest, and those above it

module _ (o x : ℕ) where
  pub set-half : (x * 2 ^ suc o + (2 ^ suc o - 1)) / 2 ≡ x * 2 ^ o + (2 ^ o - 1)
  set-half =
      let e : (2 ^ suc o - 1) / 2 ≡ 2 ^ o - 1 = omega (arith, pow-suc 2 o, pow_pos o) in
      block_half x o (2 ^ suc o - 1) ∙ ap (λ (r : ℕ). x * 2 ^ o + r) e

  pub set-odd : (x * 2 ^ suc o + (2 ^ suc o - 1)) % 2 ≡ 1
  set-odd = block_odd x o (2 ^ suc o - 1) ∙ omega (arith, pow-suc 2 o, pow_pos o)

-- ---- a run lies within as many bits as the mask has

set-fits : (o n x : ℕ) → x * 2 ^ o + (2 ^ o - 1) < 2 ^ n → (o ≤ n) × (x < 2 ^ (n - o))
set-fits zero n x h = (omega arith, rw sub-zero (omega arith))
set-fits (suc o) zero x h = absurd (omega (arith, pow-suc 2 o, pow_pos o))
set-fits (suc o) (suc n) x h =
    let k : (x * 2 ^ suc o + (2 ^ suc o - 1)) / 2 < 2 ^ n = omega (arith, pow-suc 2 n) in
    let r = set-fits o n x (rw set-half at k) in
    (omega (arith, r.0), rw suc-sub-suc r.1)

clear-fits : (z n y : ℕ) → 0 < y → y * 2 ^ z < 2 ^ n → (z ≤ n) × (y < 2 ^ (n - z))
clear-fits zero n y p h = (omega arith, rw sub-zero (omega arith))
clear-fits (suc z) zero y p h =
    let r = (clear-fits z zero y p (omega (arith, shifted_half y z))).1 in
    absurd (omega (arith, rw zero-sub at r))
clear-fits (suc z) (suc n) y p h =
    let k : y * 2 ^ suc z / 2 < 2 ^ n = omega (arith, pow-suc 2 n) in
    let r = clear-fits z n y p (rw shifted_half at k) in
    (omega (arith, r.0), rw suc-sub-suc r.1)

module _ (z o x : ℕ) where
  pub run_fits : 0 < o → (n : ℕ) → (x * 2 ^ o + (2 ^ o - 1)) * 2 ^ z < 2 ^ n → (z + o ≤ n) × (x < 2 ^ (n - (z + o)))
  run_fits some n h =
      let c = clear-fits z n (x * 2 ^ o + (2 ^ o - 1)) (omega (arith, pow-lt some)) h in
      let s = set-fits o (n - z) x c.1 in
      let e : n - z - o ≡ n - (z + o) = omega arith in
      (omega (arith, c.0, s.0), rw e at s.1)

  -- and has that many set bits
  pub run_ones : ones ((x * 2 ^ o + (2 ^ o - 1)) * 2 ^ z) ≡ o + ones x
  unfolding ones
  run_ones =
      let a : ones ((x * 2 ^ o + (2 ^ o - 1)) * 2 ^ z) ≡ ones (x * 2 ^ o + (2 ^ o - 1)) + ones 0 = rw (add-zero ((x * 2 ^ o + (2 ^ o - 1)) * 2 ^ z)) at (ones_cat z (x * 2 ^ o + (2 ^ o - 1)) 0 (pow_pos z)) in
      omega (arith, a, ones_cat o x (2 ^ o - 1) (ones_lt o), ones-ones o)

-- ---- a turn of a walk over the 64 slots of a mask: from a slot on to behind the next run

pub record Turn (slot m z o x : ℕ) : Type 0 where
  pub slots : slot + z + o ≤ 64
  pub below : x < 2 ^ (64 - (slot + z + o))
  pub wide : (w : ℕ) → (slot + z) * w + o * w ≤ 64 * w
  pub entries : (w : ℕ) → ones m * w ≡ o * w + ones x * w

pub turn : (slot m z o x : ℕ) → slot ≤ 64 → m < 2 ^ (64 - slot) → m ≡ (x * 2 ^ o + (2 ^ o - 1)) * 2 ^ z → 0 < o → Turn slot m z o x
turn slot m z o x s h e p =
    let r = run_fits z o x p (64 - slot) (rw e at h) in
    let k : slot + z + o ≤ 64 = omega (arith, r.0) in
    let q : 64 - slot - (z + o) ≡ 64 - (slot + z + o) = omega arith in
    record {
      slots = k;
      below = rw q at r.1;
      wide = λ w. rw (← add-mul) (mul-le-mul_right w k);
      entries = λ w. rw (e, run_ones z o x) (add-mul o (ones x) w);
    }

-- ---- a run that is passed, with w bytes for each bit

pub passed-wide : {from rest at count after left : ℕ} → Passes from rest at count after left → after ≤ 64 → (w : ℕ) → at * w + count * w ≤ 64 * w
passed-wide {from} {rest} {at} {count} {after} {left} p h w =
    let e : at + count ≤ 64 = omega (arith, p.ends) in
    rw (← add-mul) (mul-le-mul_right w e)

pub passed-ones : {from rest at count after left : ℕ} → Passes from rest at count after left → (w : ℕ) → ones rest * w ≡ count * w + ones left * w
passed-ones {from} {rest} {at} {count} {after} {left} p w = rw (p.bits, run_ones p.clear count left) (add-mul count (ones left) w)

-- ---- the count of trailing zeros finds them

-- t clear bits lie below the lowest set bit of n, which has k bits
pub record Lowest (k n t : ℕ) : Type 0 where
  pub within : t < k
  pub clear : n / 2 ^ t * 2 ^ t ≡ n
  pub odd : n / 2 ^ t % 2 ≡ 1

pub lowest : (k n : ℕ) → 0 < n → n < 2 ^ k → Lowest k n (count_trailing_zeros k n)
unfolding count_trailing_zeros
lowest zero n p h = absurd (omega arith)
lowest (suc k) n p h = go (n % 2) refl (λ q. lowest k (n / 2) q (omega (arith, pow-suc 2 k)))
  where
    t : ℕ
    t = count_trailing_zeros k (n / 2)

    go : (d : ℕ) → n % 2 ≡ d → (0 < n / 2 → Lowest k (n / 2) t) → Lowest (suc k) n (under d t)
    go zero e rest =
        let r = rest (omega arith) in
        record {
          within = omega (arith, r.within);
          clear = rw (halves n t, pow-suc 2 t, ← mul_assoc, r.clear) (omega arith);
          odd = rw (halves n t) r.odd;
        }
    go (suc d) e rest = record { within = omega arith; clear = omega arith; odd = omega arith }

-- the set bits below the lowest clear one are counted as the clear ones of the next number
pub ones-next : (k n : ℕ) → n < 2 ^ k → count_trailing_zeros k (2 ^ k - 1 - n) ≡ count_trailing_zeros k (n + 1)
unfolding count_trailing_zeros
ones-next zero n h = refl
ones-next (suc k) n h = go ((n + 1) % 2) refl (ones-next k (n / 2) (omega (arith, pow-suc 2 k)))
  where
    m : ℕ
    m = 2 ^ suc k - 1 - n

    same : m % 2 ≡ (n + 1) % 2
    same = omega (arith, pow-suc 2 k)

    go : (d : ℕ) → (n + 1) % 2 ≡ d → count_trailing_zeros k (2 ^ k - 1 - n / 2) ≡ count_trailing_zeros k (n / 2 + 1)
        → under (m % 2) (count_trailing_zeros k (m / 2)) ≡ under ((n + 1) % 2) (count_trailing_zeros k ((n + 1) / 2))
    go zero e rest =
        let a : m / 2 ≡ 2 ^ k - 1 - n / 2 = omega (arith, pow-suc 2 k) in
        let b : (n + 1) / 2 ≡ n / 2 + 1 = omega arith in
        rw (same, a, b) (ap (under ((n + 1) % 2)) rest)
    go (suc d) e rest = rw (same, e) refl

-- t set bits lie below the lowest clear bit of n, which is the lowest set one of n + 1
above : (n t : ℕ) → (n + 1) / 2 ^ t * 2 ^ t ≡ n + 1 → n / 2 ^ t * 2 ^ t + (2 ^ t - 1) ≡ n
above n t e = go ((n + 1) / 2 ^ t) e
  where
    go : (q : ℕ) → q * 2 ^ t ≡ n + 1 → n / 2 ^ t * 2 ^ t + (2 ^ t - 1) ≡ n
    go zero f = absurd (omega arith)
    go (suc r) f =
        let w : n ≡ r * 2 ^ t + (2 ^ t - 1) = omega (arith, pow_pos t) in
        rw (w, high r t (ones_lt t))

-- a mask by its two counts
pub run-whole : (m z o : ℕ) → Lowest 64 m z → (m / 2 ^ z / 2 + 1) / 2 ^ o * 2 ^ o ≡ m / 2 ^ z / 2 + 1
    → m ≡ (m / 2 ^ z / 2 / 2 ^ o * 2 ^ (o + 1) + (2 ^ (o + 1) - 1)) * 2 ^ z
run-whole m z o l e =
    let x : ℕ = m / 2 ^ z / 2 / 2 ^ o in
    let y : x * 2 ^ o * 2 + (2 ^ o * 2 - 1) ≡ m / 2 ^ z = omega (arith, above (m / 2 ^ z / 2) o e, l.odd, pow_pos o) in
    rw (add-one o, pow-suc 2 o, ← mul_assoc x, y) (sym l.clear)

-- the lowest run of a mask, as the two counts find it
pub found : (m o : ℕ) → 0 < m → m < 2 ^ 64 → o ≡ count_trailing_zeros 64 (2 ^ 64 - 1 - m / 2 ^ count_trailing_zeros 64 m / 2)
    → m ≡ (m / 2 ^ count_trailing_zeros 64 m / 2 / 2 ^ o * 2 ^ (o + 1) + (2 ^ (o + 1) - 1)) * 2 ^ count_trailing_zeros 64 m
found m o p h e =
    let z : ℕ = count_trailing_zeros 64 m in
    let a : ℕ = m / 2 ^ z / 2 in
    let few : a + 1 < 2 ^ 64 = omega (arith, shr_le m z) in
    let clear : Lowest 64 m z = lowest 64 m p h in
    let set : Lowest 64 (a + 1) (count_trailing_zeros 64 (a + 1)) = lowest 64 (a + 1) (omega arith) few in
    rw (e, ones-next 64 a (omega arith)) (run-whole m z (count_trailing_zeros 64 (a + 1)) clear set.clear)
