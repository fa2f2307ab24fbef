-- A word more, unless it is no table's number. Assumes nothing.
use Rattle.std.proofs.Common.{◌≡◌, ◌-◌, length, sym, ap, ◌∙◌, arith}
use lib.ListN.{take, drop, length-drop, length-set}
use lib.Seq.{take_all, get_or-drop}
use Rattle.words.proofs.Choices.{if_false}
use Rattle.numbers.specs.Numbers.{all_below}
use Rattle.host_words.proofs.Laws.{fill_turn}
use Rattle.host_words.proofs.Parts.{word_below, word_above, narrowed, not_narrowed}
use Rattle.host_words.proofs.list.drops_of.Goals as goal

pub returns-in_err-tables : goal.returns-in_err-tables
returns-in_err-tables c =
    let w = c.args.words.now in
    let whole : take (length w - 1) (drop 1 w) ≡ drop 1 w = take_all (length w - 1) (drop 1 w) (omega (arith, length-drop 1 w)) in
    let all : take 16 (drop 1 w) ≡ drop 1 w = take_all 16 (drop 1 w) (omega (arith, length-drop 1 w)) in
    let low = rw whole at (not_narrowed _ _ _ c.try_from.ensures c.in_err-tables.ensures.value) in
    c.from_residual.ensures ∙ sym (if_false (all_below 65536 (take 16 (drop 1 w))) _ _ (ap (all_below 65536) all ∙ sym c.loop-i.invariant.left ∙ word_above 65536 (drop 1 w) c.loop-i.i (omega (arith, length-drop 1 w)) low))

pub loop-i-preserved : goal.loop-i-preserved
loop-i-preserved c =
    let w = c.args.words.now in
    let i = c.loop-i.i in
    let whole : take (length w - 1) (drop 1 w) ≡ drop 1 w = take_all (length w - 1) (drop 1 w) (omega (arith, length-drop 1 w)) in
    let low = rw whole at (narrowed _ _ _ _ c.try_from.ensures c.in_ok-tables.ensures.value) in
    record {
      long = rw length-set c.loop-i.invariant.long;
      tables = rw (low.1, get_or-drop 1 w i 0) (fill_turn c.loop-i.tables w 1 i (omega arith) (omega arith) c.loop-i.invariant.tables);
      left = word_below 65536 (drop 1 w) i (omega (arith, length-drop 1 w)) low.0 ∙ c.loop-i.invariant.left;
    }
