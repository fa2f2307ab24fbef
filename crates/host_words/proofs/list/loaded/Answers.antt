-- Each of the parts is read, and so the list. Assumes nothing.
use Rattle.std.proofs.Common.{◌≡◌, ◌-◌, length, sym, ap, ◌∙◌, arith}
use Prim.Native.Nat.{ℕ}
use lib.ListN.{take, drop}
use Rattle.host_words.specs.Inner.{drops_read}
use Rattle.host_words.proofs.Parts.{drops_part, counts_part, list_short, first_refused, second_refused, both_read}
use Rattle.host_words.proofs.list.loaded.Goals as goal

pub returns-then-words-ne38 : goal.returns-then-words-ne38
returns-then-words-ne38 c = list_short _ c.if-words-ne38.true

pub returns-in_err-drops_of : goal.returns-in_err-drops_of
returns-in_err-drops_of c =
    let w = c.args.words.now in
    c.from_residual.ensures ∙ first_refused w c.if-words-ne38.false (sym (drops_part w 4) ∙ sym c.drops_of.ensures ∙ c.in_err-drops_of.was)

pub returns-in_err-drops_of-2 : goal.returns-in_err-drops_of-2
returns-in_err-drops_of-2 c =
    let w = c.args.words.now in
    let long : length w - 21 ≡ 17 = omega arith in
    c.from_residual-in_err-drops_of-2.ensures
    ∙ second_refused w c.if-words-ne38.false (sym (ap (λ (n : ℕ). drops_read (take n (drop 21 w)) 0) long ∙ drops_part w 21) ∙ sym c.drops_of-2.ensures ∙ c.in_err-drops_of-2.was)

pub returns : goal.returns
returns c =
    let w = c.args.words.now in
    let long : length w - 21 ≡ 17 = omega arith in
    both_read w c.if-words-ne38.false _ _ _
    (sym (drops_part w 4) ∙ sym c.drops_of.ensures ∙ c.in_ok-drops_of.was)
    (sym (ap (λ (n : ℕ). drops_read (take n (drop 21 w)) 0) long ∙ drops_part w 21) ∙ sym c.drops_of-2.ensures ∙ c.in_ok-drops_of-2.was)
    (c.counts_of.ensures ∙ counts_part w 1)
