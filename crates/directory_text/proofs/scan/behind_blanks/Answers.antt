-- `behind_blanks` meets its contract. Assumes nothing.
use Rattle.std.proofs.Common.{◌≡◌, true, false, ◌-◌, length, drop, ◌∙◌, rules, arith}
use lib.ListN.{length-drop}
use lib.Seq.{take_all}
use Rattle.std.proofs.lemmas.Iterator.{YieldsList-from_slice, IsFirst-from_position}
use Rattle.directory_text.specs.Scan.{is_blank}
use Rattle.directory_text.proofs.Laws.{cut-behind}
use Rattle.directory_text.proofs.scan.behind_blanks.Goals as goal

pub returns : goal.returns
returns c =
    let text = c.args.text.now in
    let end = c.unwrap_or-end.result in
    let first = IsFirst-from_position _ _ _ (λ b. is_blank b ≡ false) (λ b. is_blank b ≡ true) c.position.ensures.ran (YieldsList-from_slice text cc) (λ x q k. search rules) (λ x q k. search rules) in
    take_all (length text - end) (drop end text) (omega (arith, length-drop end text)) ∙ cut-behind is_blank text c.position.result first end c.unwrap_or-end.ensures
