-- Each table's number as a word, behind their count. Assumes nothing.
use Rattle.std.proofs.Common.{rules, ◌≡◌, ℕ, length, ap, ◌∙◌, arith}
use mathlib.Core.List.{List, ◌∷◌, append-nil}
use Rattle.host_words.proofs.Arrays.{alike}
use Rattle.host_words.proofs.list.drops_words.Goals as goal

pub returns : goal.returns
returns c =
    let sized : length c.args.drops.tables ≡ 16 = search rules in
    let same : c.map.result ≡ c.args.drops.tables = alike _ _ (omega (arith, c.map.ensures.items.long)) (λ i h. let t = c.map.ensures.items.at i 0 0 (omega (arith, c.map.ensures.items.long)) in search rules) in
    ap (λ (l : List ℕ). c.args.drops.count ∷ l) (append-nil _ ∙ c.copy_from_slice.ensures.after ∙ same)
