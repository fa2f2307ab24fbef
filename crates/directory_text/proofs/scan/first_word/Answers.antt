-- `first_word` meets its contract. Assumes nothing.
use Rattle.std.proofs.Common.{◌≡◌, true, false, ◌∙◌, ap, rules}
use Rattle.std.proofs.lemmas.Iterator.{YieldsList-from_slice, IsFirst-from_position}
use Rattle.directory_text.specs.Scan.{is_wordy, front, behind, word_of, behind_word}
use Rattle.directory_text.proofs.Laws.{wordy, blank, cut_front, cut-behind}
use Rattle.directory_text.proofs.scan.first_word.Goals as goal

pub returns-clause-word : goal.returns-clause-word
unfolding word_of
returns-clause-word c =
    let text = c.behind_blanks-text.result.now in
    let first = IsFirst-from_position _ _ _ (λ b. is_wordy b ≡ false) (λ b. is_wordy b ≡ true) c.position.ensures.ran (YieldsList-from_slice text cc) (λ x q k. blank _ (search rules)) (λ x q k. (search rules, wordy _ (search rules))) in
    c.split_at.ensures.front ∙ cut_front is_wordy text c.position.result first c.unwrap_or-end.result c.unwrap_or-end.ensures ∙ ap (front is_wordy) c.behind_blanks-text.ensures

pub returns-clause-rest : goal.returns-clause-rest
unfolding behind_word
returns-clause-rest c =
    let text = c.behind_blanks-text.result.now in
    let first = IsFirst-from_position _ _ _ (λ b. is_wordy b ≡ false) (λ b. is_wordy b ≡ true) c.position.ensures.ran (YieldsList-from_slice text cc) (λ x q k. blank _ (search rules)) (λ x q k. (search rules, wordy _ (search rules))) in
    c.split_at.ensures.back ∙ cut-behind is_wordy text c.position.result first c.unwrap_or-end.result c.unwrap_or-end.ensures ∙ ap (behind is_wordy) c.behind_blanks-text.ensures
