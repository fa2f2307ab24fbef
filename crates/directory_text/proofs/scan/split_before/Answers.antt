-- `split_before` meets its contract. Assumes nothing.
use Rattle.std.proofs.Common.{◌≡◌, true, false, ◌∙◌, rules}
use Rattle.std.proofs.lemmas.Iterator.{YieldsList-from_slice, IsFirst-from_position}
use Rattle.directory_text.specs.Scan.{is_before}
use Rattle.directory_text.proofs.Laws.{is_it, is_other, cut_front, cut-behind}
use Rattle.directory_text.proofs.scan.split_before.Goals as goal

pub returns-clause-before : goal.returns-clause-before
returns-clause-before c =
    let text = c.args.text.now in
    let p = is_before c.args.other in
    let first = IsFirst-from_position _ _ _ (λ b. p b ≡ false) (λ b. p b ≡ true) c.position.ensures.ran (YieldsList-from_slice text cc) (λ x q k. is_it c.args.other _ (search rules)) (λ x q k. (search rules, is_other c.args.other _ (search rules))) in
    c.split_at.ensures.front ∙ cut_front p text c.position.result first c.unwrap_or-end.result c.unwrap_or-end.ensures

pub returns-clause-rest : goal.returns-clause-rest
returns-clause-rest c =
    let text = c.args.text.now in
    let p = is_before c.args.other in
    let first = IsFirst-from_position _ _ _ (λ b. p b ≡ false) (λ b. p b ≡ true) c.position.ensures.ran (YieldsList-from_slice text cc) (λ x q k. is_it c.args.other _ (search rules)) (λ x q k. (search rules, is_other c.args.other _ (search rules))) in
    c.split_at.ensures.back ∙ cut-behind p text c.position.result first c.unwrap_or-end.result c.unwrap_or-end.ensures
