-- A word carried on, word by word; and the turn of each loop over words. Assumes nothing.
use mathlib.Core.Path.{◌≡◌, sym, ap, ap₂, ◌∙◌}
use mathlib.Core.List.{List}
use Prim.Native.Nat.{ℕ, ◌+◌, ◌-◌, ◌*◌, ◌/◌, ◌%◌, ◌^◌, ◌≤◌, ◌<◌}
use native.Mathlib.Nat.{add-zero, zero-add, add_comm, mul_assoc, mul_comm, mod-lt, lt_of_le_of_lt}
use native.Mathlib.Omega.{arith}
use lib.Bits.{bit_xor, xor_comm, xor_zero_r, xor_lt, xor_block}
use lib.ListN.{length, take, drop, take-append-drop, length-drop}
use lib.Pow.{pow_pos, split, high, low, shr_le, shl-shr, shr-shr}
use lib.Seq.{length-take-le, drop-drop}
use Rattle.words.specs.Words.{little, little_at}
use Rattle.words.proofs.Little.{Bytes, little-append, little-lt}
use Rattle.checksum.specs.Checksum.{updated}
use Rattle.checksum.specs.Inner.{ahead, spread}
use Rattle.checksum.specs.Tables.{shifts}
use Rattle.checksum.proofs.Multiple.{carried_on}
use Rattle.checksum.proofs.Register.{shifts_xor, shifts_add, shifts-parts}
use Rattle.checksum.proofs.Words.{take_bytes, drop_bytes_lem, updated-little}
use Rattle.checksum.proofs.Xor.{xor_assoc}

-- ---- words of 64 bits

module _ (h : ℕ) where
  -- a number of one word added to the low one
  pub add_low : (a b : ℕ) → a < 2 ^ 64 → b < 2 ^ 64 → bit_xor (h * 2 ^ 64 + a) b ≡ h * 2 ^ 64 + bit_xor a b
  add_low a b ha hb =
      ap (bit_xor (h * 2 ^ 64 + a)) (sym (zero-add b))
      ∙ xor_block 64 h 0 a b ha hb
      ∙ ap (λ (x : ℕ). x * 2 ^ 64 + bit_xor a b) (xor_zero_r h)

  -- words added above the low one
  add_high : (a g : ℕ) → a < 2 ^ 64 → bit_xor (h * 2 ^ 64 + a) (g * 2 ^ 64) ≡ bit_xor h g * 2 ^ 64 + a
  add_high a g ha =
      ap (bit_xor (h * 2 ^ 64 + a)) (sym (add-zero (g * 2 ^ 64)))
      ∙ xor_block 64 h g a 0 ha (omega arith)
      ∙ ap (◌+◌ (bit_xor h g * 2 ^ 64)) (xor_zero_r a)

-- multiples of a word's room
both_high : (g h : ℕ) → bit_xor (g * 2 ^ 64) (h * 2 ^ 64) ≡ bit_xor g h * 2 ^ 64
both_high g h =
    ap (λ (x : ℕ). bit_xor x (h * 2 ^ 64)) (sym (add-zero (g * 2 ^ 64)))
    ∙ add_high g 0 h (omega arith)
    ∙ add-zero (bit_xor g h * 2 ^ 64)

-- a number below a word's room, added to words
to_low : (a g b : ℕ) → a < 2 ^ 64 → b < 2 ^ 64 → bit_xor a (g * 2 ^ 64 + b) ≡ g * 2 ^ 64 + bit_xor a b
to_low a g b ha hb = xor_comm a (g * 2 ^ 64 + b) ∙ add_low g b a hb ha ∙ ap (◌+◌ (g * 2 ^ 64)) (xor_comm b a)

module _ (w : ℕ) (small : w < 2 ^ 64) where
  shr_small : (j : ℕ) → w / 2 ^ j < 2 ^ 64
  shr_small j = lt_of_le_of_lt (shr_le w j) small

  -- moved k places a word lies in two
  in_two : (k j : ℕ) → k + j ≡ 64 → w * 2 ^ k ≡ w / 2 ^ j * 2 ^ 64 + w * 2 ^ k % 2 ^ 64
  in_two k j e =
      sym (split (w * 2 ^ k) 64)
      ∙ ap (λ (x : ℕ). x * 2 ^ 64 + w * 2 ^ k % 2 ^ 64)
      (ap (λ (n : ℕ). w * 2 ^ k / 2 ^ n) (sym e) ∙ sym (shr-shr (w * 2 ^ k) k j) ∙ ap (λ (x : ℕ). x / 2 ^ j) (shl-shr w k))

  abbrev low_part : ℕ → ℕ
  low_part k = w * 2 ^ k % 2 ^ 64

  low_small : (k : ℕ) → low_part k < 2 ^ 64
  low_small k = mod-lt (w * 2 ^ k) (pow_pos 64)

  abbrev top : ℕ
  top = w / 2 ^ 20

  abbrev third : ℕ
  third = bit_xor (w / 2 ^ 45) (low_part 44)

  abbrev second : ℕ
  second = bit_xor (bit_xor (w / 2 ^ 47) (w / 2 ^ 9)) (low_part 19)

  abbrev first : ℕ
  first = bit_xor (low_part 17) (low_part 55)

  near : bit_xor (w * 2 ^ 17) (w * 2 ^ 55) ≡ bit_xor (w / 2 ^ 47) (w / 2 ^ 9) * 2 ^ 64 + first
  near =
      ap₂ bit_xor (in_two 17 47 (omega arith)) (in_two 55 9 (omega arith))
      ∙ xor_block 64 (w / 2 ^ 47) (w / 2 ^ 9) (low_part 17) (low_part 55) (low_small 17) (low_small 55)

  far : bit_xor (w * 2 ^ 19) (w * 2 ^ 44 * 2 ^ 64) ≡ (top * 2 ^ 64 + third) * 2 ^ 64 + low_part 19
  far =
      ap (λ (x : ℕ). bit_xor x (w * 2 ^ 44 * 2 ^ 64)) (in_two 19 45 (omega arith))
      ∙ add_high (w / 2 ^ 45) (low_part 19) (w * 2 ^ 44) (low_small 19)
      ∙ ap (λ (x : ℕ). x * 2 ^ 64 + low_part 19)
      (ap (bit_xor (w / 2 ^ 45)) (in_two 44 20 (omega arith)) ∙ to_low (w / 2 ^ 45) top (low_part 44) (shr_small 45) (low_small 44))

  -- the five words of what is spread, of which the first is 0
  words_of : spread w ≡ (((top * 2 ^ 64 + third) * 2 ^ 64 + second) * 2 ^ 64 + first) * 2 ^ 64
  words_of =
      let x : ℕ = bit_xor (w * 2 ^ 17) (w * 2 ^ 55) in
      let y : ℕ = bit_xor (w * 2 ^ 19) (w * 2 ^ 44 * 2 ^ 64) in
      ap₂ bit_xor
      (ap₂ bit_xor (sym (mul_assoc w (2 ^ 17) (2 ^ 64))) (sym (mul_assoc w (2 ^ 55) (2 ^ 64))) ∙ both_high (w * 2 ^ 17) (w * 2 ^ 55))
      (ap₂ bit_xor
      (sym (mul_assoc w (2 ^ 19) (2 ^ 128)) ∙ sym (mul_assoc (w * 2 ^ 19) (2 ^ 64) (2 ^ 64)))
      (sym (mul_assoc w (2 ^ 44) (2 ^ 192)) ∙ sym (mul_assoc (w * 2 ^ 44) (2 ^ 64) (2 ^ 128)) ∙ sym (mul_assoc (w * 2 ^ 44 * 2 ^ 64) (2 ^ 64) (2 ^ 64)))
      ∙ both_high (w * 2 ^ 19 * 2 ^ 64) (w * 2 ^ 44 * 2 ^ 64 * 2 ^ 64)
      ∙ ap (λ (z : ℕ). z * 2 ^ 64) (both_high (w * 2 ^ 19) (w * 2 ^ 44 * 2 ^ 64)))
      ∙ both_high x (y * 2 ^ 64)
      ∙ ap (λ (z : ℕ). z * 2 ^ 64)
      (ap (λ (z : ℕ). bit_xor z (y * 2 ^ 64)) near
      ∙ add_high (bit_xor (w / 2 ^ 47) (w / 2 ^ 9)) first y (xor_lt 64 (low_part 17) (low_part 55) (low_small 17) (low_small 55))
      ∙ ap (λ (z : ℕ). z * 2 ^ 64 + first)
      (ap (bit_xor (bit_xor (w / 2 ^ 47) (w / 2 ^ 9))) far
      ∙ to_low (bit_xor (w / 2 ^ 47) (w / 2 ^ 9)) (top * 2 ^ 64 + third) (low_part 19)
      (xor_lt 64 (w / 2 ^ 47) (w / 2 ^ 9) (shr_small 47) (shr_small 9)) (low_small 19)))

  -- added to four words that are carried already
  pub carried_words : (a b c d : ℕ) → a < 2 ^ 64 → b < 2 ^ 64 → c < 2 ^ 64 → d < 2 ^ 64
      → (((top * 2 ^ 64 + bit_xor d third) * 2 ^ 64 + bit_xor c second) * 2 ^ 64 + bit_xor b first) * 2 ^ 64 + a
      ≡ bit_xor (((d * 2 ^ 64 + c) * 2 ^ 64 + b) * 2 ^ 64 + a) (spread w)
  carried_words a b c d ha hb hc hd =
      sym (ap (bit_xor (((d * 2 ^ 64 + c) * 2 ^ 64 + b) * 2 ^ 64 + a)) words_of
      ∙ add_high ((d * 2 ^ 64 + c) * 2 ^ 64 + b) a (((top * 2 ^ 64 + third) * 2 ^ 64 + second) * 2 ^ 64 + first) ha
      ∙ ap (λ (z : ℕ). z * 2 ^ 64 + a)
      (xor_block 64 (d * 2 ^ 64 + c) ((top * 2 ^ 64 + third) * 2 ^ 64 + second) b first hb
      (xor_lt 64 (low_part 17) (low_part 55) (low_small 17) (low_small 55))
      ∙ ap (λ (z : ℕ). z * 2 ^ 64 + bit_xor b first)
      (xor_block 64 d (top * 2 ^ 64 + third) c second hc
      (xor_lt 64 (bit_xor (w / 2 ^ 47) (w / 2 ^ 9)) (low_part 19) (xor_lt 64 (w / 2 ^ 47) (w / 2 ^ 9) (shr_small 47) (shr_small 9)) (low_small 19))
      ∙ ap (λ (z : ℕ). z * 2 ^ 64 + bit_xor c second)
      (to_low d top third hd (xor_lt 64 (w / 2 ^ 45) (low_part 44) (shr_small 45) (low_small 44))))))

-- ---- a turn

-- the low word apart
word-apart : (m g w : ℕ) → w < 2 ^ 64 → shifts (64 + m) (g * 2 ^ 64 + w) ≡ bit_xor (shifts m g) (shifts (64 + m) w)
word-apart m g w h = shifts-parts 64 m (g * 2 ^ 64 + w) ∙ ap₂ (λ (x y : ℕ). bit_xor (shifts m x) (shifts (64 + m) y)) (high g 64 h) (low g 64 h)

module _ (bs : List ℕ) (known : Bytes bs) (long : 8 ≤ length bs) where
  eight : length (take 8 bs) ≡ 8
  eight = length-take-le 8 bs long

  first_small : little (take 8 bs) < 2 ^ 64
  first_small = rw eight at (little-lt (take 8 bs) (take_bytes 8 bs known))

  little-first : little bs ≡ little (drop 8 bs) * 2 ^ 64 + little (take 8 bs)
  little-first =
      ap little (sym (take-append-drop 8 bs))
      ∙ little-append (take 8 bs) (drop 8 bs)
      ∙ ap (λ (n : ℕ). little (take 8 bs) + 256 ^ n * little (drop 8 bs)) eight
      ∙ add_comm (little (take 8 bs)) (2 ^ 64 * little (drop 8 bs))
      ∙ ap (λ (x : ℕ). x + little (take 8 bs)) (mul_comm (2 ^ 64) (little (drop 8 bs)))

  -- the next word, with what was to be added to it, is q to those behind it
  word-turn : (h a q : ℕ) → a < 2 ^ 64
      → shifts (64 + 8 * length (drop 8 bs)) (bit_xor a (little (take 8 bs))) ≡ shifts (8 * length (drop 8 bs)) q
      → ahead (h * 2 ^ 64 + a) bs ≡ ahead (bit_xor h q) (drop 8 bs)
  unfolding ahead
  word-turn h a q ha e =
      let m : ℕ = 8 * length (drop 8 bs) in
      let g : ℕ = little (drop 8 bs) in
      let v : ℕ = little (take 8 bs) in
      let n : 8 * length bs ≡ 64 + m = omega (arith, length-drop 8 bs) in
      ap₂ shifts n (ap (bit_xor (h * 2 ^ 64 + a)) little-first ∙ xor_block 64 h g a v ha first_small)
      ∙ word-apart m (bit_xor h g) (bit_xor a v) (xor_lt 64 a v ha first_small)
      ∙ ap (bit_xor (shifts m (bit_xor h g))) e
      ∙ sym (shifts_xor m (bit_xor h g) q)
      ∙ ap (shifts m) (xor_assoc h g q ∙ ap (bit_xor h) (xor_comm g q) ∙ sym (xor_assoc h q g))

  -- divided
  divided_turn : (h a : ℕ) → a < 2 ^ 64 → ahead (h * 2 ^ 64 + a) bs ≡ ahead (bit_xor h (shifts 64 (bit_xor a (little (take 8 bs))))) (drop 8 bs)
  divided_turn h a ha =
      word-turn h a (shifts 64 (bit_xor a (little (take 8 bs)))) ha (shifts_add 64 (8 * length (drop 8 bs)) (bit_xor a (little (take 8 bs))))

  -- or carried on
  carried_turn : (h a : ℕ) → a < 2 ^ 64 → 48 ≤ length bs → ahead (h * 2 ^ 64 + a) bs ≡ ahead (bit_xor h (spread (bit_xor a (little (take 8 bs))))) (drop 8 bs)
  carried_turn h a ha l =
      let w : ℕ = bit_xor a (little (take 8 bs)) in
      let j : ℕ = 8 * length (drop 8 bs) - 236 in
      let e : 8 * length (drop 8 bs) ≡ 236 + j = omega (arith, length-drop 8 bs) in
      word-turn h a (spread w) ha
      (ap (λ (n : ℕ). shifts (64 + n) w) e
      ∙ carried_on j w (xor_lt 64 a (little (take 8 bs)) ha first_small) (omega (arith, length-drop 8 bs))
      ∙ ap (λ (n : ℕ). shifts n (spread w)) (sym e))

-- a register is what is added to the next bytes
pub ahead-updated : (r : ℕ) (bs : List ℕ) → Bytes bs → ahead r bs ≡ updated r bs
unfolding ahead
ahead-updated r bs h = sym (updated-little r bs h)

-- ---- in the bytes from a place on

module _ (bs : List ℕ) (known : Bytes bs) where
  pub carried_at : (i h a : ℕ) → a < 2 ^ 64 → i + 48 ≤ length bs
      → ahead (h * 2 ^ 64 + a) (drop i bs) ≡ ahead (bit_xor h (spread (bit_xor a (little_at 8 bs i)))) (drop (i + 8) bs)
  carried_at i h a small l =
      carried_turn (drop i bs) (drop_bytes_lem i bs known) (omega (arith, length-drop i bs)) h a small (omega (arith, length-drop i bs))
      ∙ ap (ahead (bit_xor h (spread (bit_xor a (little_at 8 bs i))))) (drop-drop 8 i bs)

  module _ (i j : ℕ) (next : i + 8 ≡ j) (l : j ≤ length bs) (a p : ℕ) (small : a < 2 ^ 64) (e : p ≡ shifts 64 (bit_xor a (little_at 8 bs i))) where
    divided_at : (h : ℕ) → ahead (h * 2 ^ 64 + a) (drop i bs) ≡ ahead (bit_xor h p) (drop j bs)
    divided_at h =
        divided_turn (drop i bs) (drop_bytes_lem i bs known) (omega (arith, length-drop i bs)) h a small
        ∙ ap₂ (λ (x : ℕ) (l : List ℕ). ahead (bit_xor h x) l) (sym e) (drop-drop 8 i bs ∙ ap (λ (k : ℕ). drop k bs) next)

    -- into the word behind it
    divided_next : (h b : ℕ) → b < 2 ^ 64 → p < 2 ^ 64 → ahead ((h * 2 ^ 64 + b) * 2 ^ 64 + a) (drop i bs) ≡ ahead (h * 2 ^ 64 + bit_xor b p) (drop j bs)
    divided_next h b hb hp = divided_at (h * 2 ^ 64 + b) ∙ ap (λ (x : ℕ). ahead x (drop j bs)) (add_low h b p hb hp)

    -- the last one that anything was carried to
    divided_last : ahead a (drop i bs) ≡ updated p (drop j bs)
    divided_last = ap (λ (x : ℕ). ahead x (drop i bs)) (sym (zero-add a)) ∙ divided_at 0 ∙ ahead-updated p (drop j bs) (drop_bytes_lem j bs known)

  pub forty_turns : (a b c d e p q r s u : ℕ) → 40 ≤ length bs
      → a < 2 ^ 64 → b < 2 ^ 64 → c < 2 ^ 64 → d < 2 ^ 64 → e < 2 ^ 64 → p < 2 ^ 64 → q < 2 ^ 64 → r < 2 ^ 64 → s < 2 ^ 64
      → p ≡ shifts 64 (bit_xor a (little_at 8 bs 0))
      → q ≡ shifts 64 (bit_xor (bit_xor b p) (little_at 8 bs 8))
      → r ≡ shifts 64 (bit_xor (bit_xor c q) (little_at 8 bs 16))
      → s ≡ shifts 64 (bit_xor (bit_xor d r) (little_at 8 bs 24))
      → u ≡ shifts 64 (bit_xor (bit_xor e s) (little_at 8 bs 32))
      → updated u (drop 40 bs) ≡ ahead ((((e * 2 ^ 64 + d) * 2 ^ 64 + c) * 2 ^ 64 + b) * 2 ^ 64 + a) bs
  forty_turns a b c d e p q r s u l ha hb hc hd he hp hq hr hs ep eq er es eu =
      sym (divided_next 0 8 (omega arith) (omega arith) a p ha ep ((e * 2 ^ 64 + d) * 2 ^ 64 + c) b hb hp
      ∙ divided_next 8 16 (omega arith) (omega arith) (bit_xor b p) q (xor_lt 64 b p hb hp) eq (e * 2 ^ 64 + d) c hc hq
      ∙ divided_next 16 24 (omega arith) (omega arith) (bit_xor c q) r (xor_lt 64 c q hc hq) er e d hd hr
      ∙ ap (λ (x : ℕ). ahead (x * 2 ^ 64 + bit_xor d r) (drop 24 bs)) (sym (zero-add e))
      ∙ divided_next 24 32 (omega arith) (omega arith) (bit_xor d r) s (xor_lt 64 d r hd hr) es 0 e he hs
      ∙ ap (λ (x : ℕ). ahead x (drop 32 bs)) (zero-add (bit_xor e s))
      ∙ divided_last 32 40 (omega arith) (omega arith) (bit_xor e s) u (xor_lt 64 e s he hs) eu)
