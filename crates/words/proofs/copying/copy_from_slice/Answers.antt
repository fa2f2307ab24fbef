-- `copy_from_slice` meets its contract. The invariant: the first i are pasted. Assumes nothing.
use mathlib.Core.Path.{◌≡◌, refl, sym, ap, ◌∙◌}
use mathlib.Core.List.{List, [], append-nil}
use Prim.Native.Nat.{ℕ, ◌+◌, ◌<◌}
use native.Mathlib.Nat.{zero-add}
use native.Mathlib.Numerals.{add-one}
use native.Mathlib.Omega.{arith}
use borrow.Author.Rules.{rules}
use lib.ListN.{length, get_or, set, take, drop, length-set, drop_of_length-le}
use lib.Seq.{paste, paste-zero, paste-suc, take_all}
use Rattle.words.proofs.copying.copy_from_slice.Goals as goal

-- one element more
turn : {A : Type 0} (d s : List A) (i : ℕ) (x : A) → i < length d → i < length s → x ≡ get_or s i x → set (paste d 0 s i) i x ≡ paste d 0 s (i + 1)
turn d s i x h k e =
    let p = paste d 0 s i in
    ap (λ (n : ℕ). set p n x) (sym (zero-add i)) ∙ ap (set p (0 + i)) e ∙ paste-suc d 0 s i x (omega arith) k ∙ ap (paste d 0 s) (sym (add-one i))

pub loop-i-init : goal.loop-i-init
loop-i-init g c = (refl, paste-zero c.args.to.now 0 c.args.from.now)

pub loop-i-preserved : goal.loop-i-preserved
loop-i-preserved g c =
    let a = c.args in
    let l = c.loop-i in
    let x = c.index-from-i.result in
    let read : x ≡ get_or a.from.now l.i x = search rules in (
      length-set l.to _ _ ∙ l.invariant.0,
      ap (λ s. set s l.i x) l.invariant.1 ∙ turn a.to.now a.from.now l.i x (omega arith) (omega arith) read,
    )

pub returns : goal.returns
returns g c =
    let a = c.args in
    let l = c.loop-i in
    let e : l.i ≡ length a.from.now = omega arith in
    let whole : take (length a.from.now) a.from.now ≡ a.from.now = take_all (length a.from.now) a.from.now (omega arith) in
    let none : drop (0 + length a.from.now) a.to.now ≡ [] = drop_of_length-le a.to.now {i = 0 + length a.from.now} (omega arith) in
    let done : l.to ≡ a.from.now = l.invariant.1 ∙ rw (e, whole, none) (append-nil a.from.now) in
    record { len = l.invariant.0; after = done }
