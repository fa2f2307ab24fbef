-- A number moved many places, digit by digit through a table. Assumes nothing.
use mathlib.Core.Path.{◌≡◌, sym, ap, ap₂, ◌∙◌, subst}
use mathlib.Core.List.{List}
use Prim.Native.Nat.{ℕ, zero, suc, ◌+◌, ◌-◌, ◌*◌, ◌/◌, ◌%◌, ◌^◌, ◌≤◌, ◌<◌}
use native.Mathlib.Nat.{add-zero, zero-mul, zero-add, suc-mul, mul-suc, add_comm, mod-lt, mul-one, mul-zero, mul-le-mul_right}
use native.Mathlib.Omega.{arith}
use lib.Arith.{lt-one}
use lib.Bits.{bit_xor, xor_comm, xor_zero_r}
use lib.Dec.{T}
use lib.ListN.{length, get_or, take, drop, length-drop}
use lib.Pow.{pow_pos, shr_lt}
use lib.Seq.{length-take-le, get_or-take, get_or-drop}
use Rattle.checksum.specs.Tables.{shifts, Moved}
use Rattle.checksum.proofs.Follow.{follow, followed, up_from, get_d_up_from}
use Rattle.checksum.proofs.Register.{shifts_add, shifts-parts, shifts-zero}
use Rattle.checksum.proofs.Xor.{xor_assoc}

-- the rule, from tests that antt computes: the first part by the register itself, and each other one from the part before it by a look into
-- the first, since the register's way takes antt more than twice as long
module _ (w n : ℕ) (t : List ℕ) where
  abbrev through : ℕ → ℕ
  through x = bit_xor (x / 2 ^ w) (get_or t (x % 2 ^ w) 0)

  module _ (whole : length t ≡ n * 2 ^ w)
      (first : T (follow (shifts w) (up_from 0 (2 ^ w)) (take (2 ^ w) t)))
      (others : T (follow through t (drop (2 ^ w) t))) where
    one : 0 < n → (v : ℕ) → v < 2 ^ w → get_or t v 0 ≡ shifts w v
    one hn v hv =
        let l : length (take (2 ^ w) t) ≡ 2 ^ w = length-take-le (2 ^ w) t (omega (arith, suc-mul 0 (2 ^ w), zero-mul (2 ^ w), mul-le-mul_right (2 ^ w) hn)) in
        sym (get_or-take (2 ^ w) t v 0 hv)
        ∙ followed (shifts w) (up_from 0 (2 ^ w)) (take (2 ^ w) t) first v (omega arith)
        ∙ ap (shifts w) (get_d_up_from 0 (2 ^ w) v hv ∙ zero-add v)

    moved : 0 < n → (x : ℕ) → through x ≡ shifts w x
    unfolding shifts
    moved hn x =
        ap (bit_xor (x / 2 ^ w)) (one hn (x % 2 ^ w) (mod-lt x (pow_pos w)))
        ∙ ap (λ (k : ℕ). bit_xor (x / 2 ^ w) (shifts k (x % 2 ^ w))) (sym (add-zero w))
        ∙ sym (shifts-parts w 0 x)
        ∙ ap (λ (k : ℕ). shifts k x) (add-zero w)

    entry : (j v : ℕ) → j < n → v < 2 ^ w → get_or t (j * 2 ^ w + v) 0 ≡ shifts (w * suc j) v
    entry zero v hj hv =
        let e : 0 * 2 ^ w + v ≡ v = omega (arith, zero-mul (2 ^ w)) in
        ap (λ (k : ℕ). get_or t k 0) e ∙ one hj v hv ∙ ap (λ (k : ℕ). shifts k v) (sym (mul-one w))
    entry (suc j) v hj hv =
        let e : suc j * 2 ^ w + v ≡ 2 ^ w + (j * 2 ^ w + v) = omega (arith, suc-mul j (2 ^ w)) in
        let l : j * 2 ^ w + v < length (drop (2 ^ w) t) = omega (arith, length-drop (2 ^ w) t, suc-mul (suc j) (2 ^ w), mul-le-mul_right (2 ^ w) hj) in
        ap (λ (k : ℕ). get_or t k 0) e
        ∙ sym (get_or-drop (2 ^ w) t (j * 2 ^ w + v) 0)
        ∙ followed through t (drop (2 ^ w) t) others (j * 2 ^ w + v) l
        ∙ moved (omega arith) (get_or t (j * 2 ^ w + v) 0)
        ∙ ap (shifts w) (entry j v (omega arith) hv)
        ∙ sym (shifts_add (w * suc j) w v)
        ∙ ap (λ (k : ℕ). shifts k v) (sym (mul-suc w (suc j)))

    pub rule-of : Moved w n t
    rule-of = record { rule = entry }

-- one digit more
pub look_next : (w n : ℕ) (t : List ℕ) → Moved w n t → (a j x : ℕ) → j < n
    → bit_xor (bit_xor a (get_or t (j * 2 ^ w + x % 2 ^ w) 0)) (shifts (w * j) (x / 2 ^ w)) ≡ bit_xor a (shifts (w * suc j) x)
look_next w n t m a j x h =
    let e : w + w * j ≡ w * suc j = add_comm w (w * j) ∙ sym (mul-suc w j) in
    xor_assoc a (get_or t (j * 2 ^ w + x % 2 ^ w) 0) (shifts (w * j) (x / 2 ^ w))
    ∙ ap (bit_xor a)
    (xor_comm (get_or t (j * 2 ^ w + x % 2 ^ w) 0) (shifts (w * j) (x / 2 ^ w))
    ∙ ap (bit_xor (shifts (w * j) (x / 2 ^ w)))
    (m.rule j (x % 2 ^ w) h (mod-lt x (pow_pos w)) ∙ ap (λ (k : ℕ). shifts k (x % 2 ^ w)) (sym e))
    ∙ sym (shifts-parts w (w * j) x)
    ∙ ap (λ (k : ℕ). shifts k x) e)

-- a number of `all` digits is being looked up, its lowest first, and `left` digits of it, x, are left; r is what the others came to
pub record Looking (w all base number r x left : ℕ) : Type 0 where
  pub most : left ≤ all
  pub small : x < 2 ^ (w * left)
  pub same : bit_xor r (shifts (w * (base + left)) x) ≡ shifts (w * (base + all)) number

pub look_turn : {w n all base number r x left : ℕ} (t : List ℕ) → Moved w n t → base + left ≤ n → 0 < left
    → Looking w all base number r x left
    → Looking w all base number (bit_xor r (get_or t ((base + (left - 1)) * 2 ^ w + x % 2 ^ w) 0)) (x / 2 ^ w) (left - 1)
look_turn {w} {n} {all} {base} {number} {r} {x} {left} t m h p l =
    let e : left ≡ suc (left - 1) = omega arith in
    let f : suc (base + (left - 1)) ≡ base + left = omega arith in
    record {
      most = omega arith;
      small = shr_lt (w * (left - 1)) w (subst (λ (k : ℕ). x < 2 ^ k) (ap (◌*◌ w) e ∙ mul-suc w (left - 1)) l.small);
      same = look_next w n t m r (base + (left - 1)) x (omega arith) ∙ ap (λ (k : ℕ). bit_xor r (shifts (w * k) x)) f ∙ l.same;
    }

pub look_end : {w all base number r x left : ℕ} → left ≡ 0 → Looking w all base number r x left → r ≡ shifts (w * (base + all)) number
look_end {w} {all} {base} {number} {r} {x} {left} e l =
    let z : x ≡ 0 = lt-one (subst (λ (k : ℕ). x < 2 ^ k) (ap (◌*◌ w) e ∙ mul-zero w) l.small) in
    sym (ap (λ (y : ℕ). bit_xor r (shifts (w * (base + left)) y)) z ∙ ap (bit_xor r) (shifts-zero (w * (base + left))) ∙ xor_zero_r r)
    ∙ l.same

-- a byte by its two digits
pub look_byte : (t : List ℕ) → Moved 4 16 t → (y : ℕ) → y < 256 → bit_xor (get_or t (y / 16) 0) (get_or t (16 + y % 16) 0) ≡ shifts 8 y
look_byte t m y h =
    ap₂ bit_xor
    (ap (λ (k : ℕ). get_or t k 0) (sym (zero-add (y / 16))) ∙ m.rule 0 (y / 16) (omega arith) (omega arith))
    (m.rule 1 (y % 16) (omega arith) (omega arith))
    ∙ sym (shifts-parts 4 4 y)
