-- Laws of `put` and `Wrote`. Only the store of one byte has a side condition: a write past the end is what `put` says.
-- Assumes nothing.
use mathlib.Core.Path.{◌≡◌, refl, sym, ap, ap₂, ◌∙◌}
use mathlib.Core.Logic.{◌⊎◌, inl, inr, ⊎_elim}
use mathlib.Core.List.{List, [], ◌∷◌, ◌++◌, append_assoc, append-nil}
use Prim.Native.Nat.{ℕ, zero, suc, ◌+◌, ◌-◌, ◌^◌, ◌≤◌, ◌<◌, ◌/◌, zero-le, suc-le-suc}
use native.Mathlib.Nat.{add-zero, add_assoc, pow-suc}
use native.Mathlib.Numerals.{add-one}
use native.Mathlib.Omega.{arith}
use lib.ListN.{length, take, drop, set, get_or, length-append, take-append-drop, drop_of_length-le}
use lib.Seq.{take_all, take-length, take_at, drop_at, drop-drop, drop-cons, get_or-take, length-take-le, set_split}
use borrow.Rule.Slice.PartMut.{put_mid}
use Rattle.std.proofs.lemmas.Slice.{put_mid-paste}
use Rattle.words.specs.Words.{little}
use Rattle.output.specs.Put.{put, Wrote, le, joined}

le_or_le : (a b : ℕ) → (a ≤ b) ⊎ (b ≤ a)
le_or_le zero b = inl zero-le
le_or_le (suc a) zero = inr zero-le
le_or_le (suc a) (suc b) = ⊎_elim (λ p. inl (suc-le-suc p)) (λ q. inr (suc-le-suc q)) (le_or_le a b)

pub put_nil : (l : List ℕ) (at : ℕ) → put l at [] ≡ l
unfolding put
put_nil l at = simp (append-nil, add-zero, take-append-drop)

-- a write at or past the end goes behind what is there
far : (l : List ℕ) (at : ℕ) (bs : List ℕ) → length l ≤ at → put l at bs ≡ l ++ bs
unfolding put
far l at bs h =
    let e : take at l ≡ l = take_all at l h in
    let g : drop (at + length bs) l ≡ [] = drop_of_length-le l {i = at + length bs} (omega arith) in
    rw (e, g, append-nil)

near-put : (l : List ℕ) (at : ℕ) (a b : List ℕ) → at ≤ length l → put (put l at a) (at + length a) b ≡ put l at (a ++ b)
unfolding put
near-put l at a b h =
    let p : List ℕ = take at l ++ a in
    let q : List ℕ = drop (at + length a) l in
    let e : length p ≡ at + length a = length-append (take at l) a ∙ ap (λ (n : ℕ). n + length a) (length-take-le at l h) in
    let d : drop (at + length a + length b) (p ++ q) ≡ drop (at + length a + length b) l =
    sym (drop-drop (length b) (at + length a) (p ++ q)) ∙ ap (drop (length b)) (drop_at p q (at + length a) e) ∙ drop-drop (length b) (at + length a) l in
    ap₂ (λ (x y : List ℕ). x ++ b ++ y) (take_at p q (at + length a) e) d ∙ simp (length-append, append_assoc, add_assoc)

far-put : (l : List ℕ) (at : ℕ) (a b : List ℕ) → length l ≤ at → put (put l at a) (at + length a) b ≡ put l at (a ++ b)
far-put l at a b h =
    ap (λ (p : List ℕ). put p (at + length a) b) (far l at a h)
    ∙ far (l ++ a) (at + length a) b (simp length-append (omega arith))
    ∙ append_assoc l a b ∙ sym (far l at (a ++ b) h)

-- two writes, one behind the other, are one
pub put-put : (l : List ℕ) (at : ℕ) (a b : List ℕ) → put (put l at a) (at + length a) b ≡ put l at (a ++ b)
put-put l at a b = ⊎_elim (near-put l at a b) (far-put l at a b) (le_or_le at (length l))

set-put : (l : List ℕ) (at b : ℕ) → at < length l → set l at b ≡ put l at (b ∷ [])
unfolding put
set-put l at b h = set_split l at b h ∙ rw (append_assoc, add-one)

-- bytes copied over a part (`copy_from_slice`)
pub copied : (l : List ℕ) (at : ℕ) (bs copy : List ℕ) → copy ≡ bs → put_mid at (at + length bs - at) l copy ≡ put l at bs
unfolding put
copied l at bs copy e =
    let k : length bs ≡ at + length bs - at = omega arith in
    let whole : take (length bs) bs ≡ bs = take-length bs in
    put_mid-paste at (at + length bs - at) l copy bs (length bs) e k refl ∙ rw whole

-- one write after another, and what is left of a write
pub wrote_nil : (l : List ℕ) (at : ℕ) → Wrote l at [] l at
wrote_nil l at = record { next = sym (add-zero at); bytes = sym (put_nil l at) }

infixl 5 ◌⨾◌
pub ◌⨾◌ : {o : List ℕ} {at : ℕ} {a m : List ℕ} {r : ℕ} {b n : List ℕ} {s : ℕ} → Wrote o at a m r → Wrote m r b n s → Wrote o at (a ++ b) n s
◌⨾◌ {o} {at} {a} {m} {r} {b} {n} {s} x y =
    record {
      next = y.next ∙ simp length-append (omega (arith, x.next));
      bytes = y.bytes ∙ ap₂ (λ (l : List ℕ) (k : ℕ). put l k b) x.bytes x.next ∙ put-put o at a b;
    }

-- of a write of a and then b, a was written: b is left
pub rest : {o : List ℕ} {at : ℕ} {a b m f : List ℕ} {r e : ℕ} → Wrote o at (a ++ b) f e → Wrote o at a m r → Wrote m r b f e
rest {o} {at} {a} {b} {m} {f} {r} {e} w x =
    record {
      next = w.next ∙ simp length-append (omega (arith, x.next));
      bytes = w.bytes ∙ sym (put-put o at a b) ∙ sym (ap₂ (λ (l : List ℕ) (k : ℕ). put l k b) x.bytes x.next);
    }

pub stored : (l : List ℕ) (at b : ℕ) → at < length l → Wrote l at (b ∷ []) (set l at b) (at + 1)
stored l at b h = record { next = refl; bytes = set-put l at b h }

-- what was written from the front on stands there
pub wrote-front : {o a m : List ℕ} {r : ℕ} → Wrote o 0 a m r → take r m ≡ a
unfolding put
wrote-front {o} {a} {m} {r} w = ap (take r) w.bytes ∙ take_at a (drop (0 + length a) o) r (omega (arith, w.next))

-- what is written first fits where the whole does
pub room : (a b : List ℕ) {o : List ℕ} {at : ℕ} {f : List ℕ} {e : ℕ} → Wrote o at (a ++ b) f e → at + length a ≤ e
room a b w = omega (arith, w.next, length-append a b)

-- where a loop begins all is left, and where it ends nothing is
pub all_left : (l : List ℕ) (at : ℕ) (bs : List ℕ) → Wrote l at bs (put l at bs) (at + length bs)
all_left l at bs = record { next = refl; bytes = refl }

pub none_left : {l : List ℕ} {at : ℕ} {bs m : List ℕ} {r : ℕ} → Wrote m r [] (put l at bs) (at + length bs) → Wrote l at bs m r
none_left {l} {at} {bs} {m} {r} w =
    record { next = omega (arith, w.next); bytes = sym (put_nil m r) ∙ sym w.bytes }

-- a number in n bytes has n bytes, and reads back as itself
pub length-le : (n x : ℕ) → length (le n x) ≡ n
unfolding le
length-le zero x = refl
length-le (suc n) x = ap suc (length-le n (x / 256))

pub little-le : (n x : ℕ) → x < 256 ^ n → little (le n x) ≡ x
unfolding le little
little-le zero x h = omega arith
little-le (suc n) x h = let e = rw pow-suc at h in omega (arith, little-le n (x / 256) (omega arith))

-- a loop over the first n of a list of places writes what f gives for each
module _ (f : ℕ → List ℕ) (os : List ℕ) (n : ℕ) (fits : n ≤ length os) (i : ℕ) where
  pub joined-turn : i < n → joined f (drop i (take n os)) ≡ f (get_or os i 0) ++ joined f (drop (i + 1) (take n os))
  unfolding joined
  joined-turn h =
      let e : i < length (take n os) = omega (arith, length-take-le n os fits) in
      rw (add-one, drop-cons (take n os) i 0, get_or-take n os i 0)

  pub joined_end : n ≤ i → joined f (drop i (take n os)) ≡ []
  unfolding joined
  joined_end h =
      let e : drop i (take n os) ≡ [] = drop_of_length-le (take n os) {i = i} (omega (arith, length-take-le n os fits)) in
      rw e

  -- the i-th has room, it was written, and all were
  module _ {o : List ℕ} {at : ℕ} {z : List ℕ} {e : ℕ} (w : Wrote o at (joined f (drop i (take n os))) z e) where
    pub joined-room : i < n → at + length (f (get_or os i 0)) ≤ e
    joined-room h = room (f (get_or os i 0)) (joined f (drop (i + 1) (take n os))) (rw (joined-turn h) at w)

    pub joined-rest : {m : List ℕ} {r : ℕ} → i < n → Wrote o at (f (get_or os i 0)) m r → Wrote m r (joined f (drop (i + 1) (take n os))) z e
    joined-rest h x = rest (rw (joined-turn h) at w) x

  pub joined-done : {l : List ℕ} {at : ℕ} {bs m : List ℕ} {r : ℕ} → n ≤ i → Wrote m r (joined f (drop i (take n os))) (put l at bs) (at + length bs) → Wrote l at bs m r
  joined-done h w = none_left (rw (joined_end h) at w)
