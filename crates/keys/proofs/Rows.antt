-- A row stored whole, in one go. Assumes nothing.
use Prim.Native.Nat.{ℕ, ◌+◌, ◌-◌, ◌*◌, ◌≤◌}
use mathlib.Core.List.{List, [], ◌∷◌, ◌++◌}
use mathlib.Core.Path.{◌≡◌, sym, ap, ◌∙◌}
use native.Mathlib.Omega.{arith}
use lib.ListN.{get_or, set, take, drop, length, length-drop, take-append-drop}
use lib.Seq.{length-take-le, get_or-drop}
use borrow.Rule.Slice.PartMut.{put_mid}
use Rattle.std.proofs.lemmas.List.{set-append_right}
use Rattle.std.proofs.lemmas.Slice.{put_mid-paste}
use Rattle.std.specs.List.{copy_within}
use Rattle.keys.specs.Keys.{id_at, mark_at, row_put_of}

-- a store behind a
behind : (a b : List ℕ) (n i v : ℕ) → length a ≡ n → set (a ++ b) (n + i) v ≡ a ++ set b i v
behind a b n i v e =
    let z : n + i - n ≡ i = omega arith in
    set-append_right a b n (n + i) v e (omega arith) ∙ rw z

-- over the four words behind a
four : (a b : List ℕ) (n t x id mark : ℕ) → length a ≡ n → 4 ≤ length b
    → set (set (set (set (a ++ b) n t) (n + 1) x) (n + 2) id) (n + 3) mark ≡ a ++ (t ∷ x ∷ id ∷ mark ∷ drop 4 b)
four a [] n t x id mark e h = absurd (omega arith)
four a (b ∷ []) n t x id mark e h = absurd (omega arith)
four a (b ∷ c ∷ []) n t x id mark e h = absurd (omega arith)
four a (b ∷ c ∷ d ∷ []) n t x id mark e h = absurd (omega arith)
four a (b ∷ c ∷ d ∷ f ∷ l) n t x id mark e h =
    let z : n ≡ n + 0 = omega arith in
    ap (λ (m : ℕ). set (set (set (set (a ++ (b ∷ c ∷ d ∷ f ∷ l)) m t) (n + 1) x) (n + 2) id) (n + 3) mark) z
    ∙ ap (λ (m : List ℕ). set (set (set m (n + 1) x) (n + 2) id) (n + 3) mark) (behind a (b ∷ c ∷ d ∷ f ∷ l) n 0 t e)
    ∙ ap (λ (m : List ℕ). set (set m (n + 2) id) (n + 3) mark) (behind a (t ∷ c ∷ d ∷ f ∷ l) n 1 x e)
    ∙ ap (λ (m : List ℕ). set m (n + 3) mark) (behind a (t ∷ x ∷ d ∷ f ∷ l) n 2 id e)
    ∙ behind a (t ∷ x ∷ id ∷ f ∷ l) n 3 mark e

pub row-set : (rows : List ℕ) (p t x id mark : ℕ) → 4 * p + 4 ≤ length rows
    → put_mid (4 * p) (4 * p + 4 - 4 * p) rows (t ∷ x ∷ id ∷ mark ∷ []) ≡ row_put_of rows p t x id mark
row-set rows p t x id mark h =
    let k : 4 * p + 4 - 4 * p ≡ 4 = omega arith in
    let fits : 4 ≤ length (drop (4 * p) rows) = rw length-drop (omega arith) in
    rw k (sym (four (take (4 * p) rows) (drop (4 * p) rows) (4 * p) t x id mark (length-take-le (4 * p) rows (omega arith)) fits)) ∙ ap (λ (l : List ℕ). row_put_of l p t x id mark) (take-append-drop (4 * p) rows)

words_of : (l : List ℕ) → 4 ≤ length l → take 4 l ≡ get_or l 0 0 ∷ get_or l 1 0 ∷ get_or l 2 0 ∷ get_or l 3 0 ∷ []
words_of [] h = absurd (omega arith)
words_of (a ∷ []) h = absurd (omega arith)
words_of (a ∷ b ∷ []) h = absurd (omega arith)
words_of (a ∷ b ∷ c ∷ []) h = absurd (omega arith)
words_of (a ∷ b ∷ c ∷ d ∷ l) h = cc

-- row q over row p (`copy_within`)
pub row-copied : (rows : List ℕ) (q p : ℕ) → 4 * q + 4 ≤ length rows → 4 * p + 4 ≤ length rows
    → copy_within rows (4 * q) (4 * q + 4) (4 * p) ≡ row_put_of rows p (get_or rows (4 * q) 0) (get_or rows (4 * q + 1) 0) (id_at rows q) (mark_at rows q)
row-copied rows q p h k =
    let f : 4 * q + 4 - 4 * q ≡ 4 = omega arith in
    let z : 4 * q + 0 ≡ 4 * q = omega arith in
    let ws : List ℕ = get_or rows (4 * q) 0 ∷ get_or rows (4 * q + 1) 0 ∷ id_at rows q ∷ mark_at rows q ∷ [] in
    let e : take 4 (drop (4 * q) rows) ≡ ws =
    words_of (drop (4 * q) rows) (rw length-drop (omega arith))
    ∙ rw (get_or-drop (4 * q) rows 0 0, get_or-drop (4 * q) rows 1 0, get_or-drop (4 * q) rows 2 0, get_or-drop (4 * q) rows 3 0, z) in
    let w : 4 ≡ length ws = cc in
    rw f (ap (λ (l : List ℕ). take (4 * p) rows ++ l ++ drop (4 * p + 4) rows) e)
    ∙ sym (put_mid-paste (4 * p) (4 * p + 4 - 4 * p) rows ws ws 4 (cc) (omega arith) w)
    ∙ row-set rows p (get_or rows (4 * q) 0) (get_or rows (4 * q + 1) 0) (id_at rows q) (mark_at rows q) k
