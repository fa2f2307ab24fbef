-- `all_kept` meets its contract: two lengths, then the three kinds in turn. Assumes nothing.
use Rattle.std.proofs.Common.{◌≡◌, ◌∙◌, sym, true, false}
use Rattle.memory.proofs.Kept.{other-words, other-bytes, index-fails, value-fails, last_says}
use Rattle.memory.proofs.together.all_kept.Goals as goal
use Rattle.memory.proofs.together.all_kept.Goals.{then-words-words_all-via-then-words-words_all, then-words-words_all-via-else-words-words_all+then-bytes-bytes_all, then-kept_in, else-kept_in}

pub returns-then-words-words_all : goal.returns-then-words-words_all
returns-then-words-words_all c =
    let a = c.args in
    elim c.then-words-words_all.branch [
      | then-words-words_all-via-then-words-words_all w ↦ other-words a.holder a.counts a.words.now a.bytes.now (λ e. w.if-words-words_all.true (e ∙ sym c.words_all.ensures))
      | then-words-words_all-via-else-words-words_all+then-bytes-bytes_all w ↦ other-bytes a.holder a.counts a.words.now a.bytes.now (λ e. w.if-bytes-bytes_all.true (e ∙ sym w.bytes_all.ensures))
    ]

pub returns-then-kept_in-2 : goal.returns-then-kept_in-2
returns-then-kept_in-2 c =
    let a = c.args in
    elim c.if-kept_in.branch [
      | then-kept_in w ↦
          c.kept_in-then-kept_in-2.ensures
          ∙ last_says a.holder a.counts a.words.now a.bytes.now (c.if-words-words_all.false ∙ c.words_all.ensures) (c.if-bytes-bytes_all.false ∙ c.bytes_all.ensures) (sym c.kept_in.ensures ∙ w.if-kept_in.true) (sym w.kept_in-then-kept_in.ensures ∙ sym w.value-is ∙ c.if-kept_in-2.true)
      | else-kept_in w ↦ let z : true ≡ false = sym c.if-kept_in-2.true ∙ w.value-is ∙ w.if-kept_in.false in cc
    ]

pub returns-else-kept_in-2 : goal.returns-else-kept_in-2
returns-else-kept_in-2 c =
    let a = c.args in
    elim c.if-kept_in.branch [
      | then-kept_in w ↦
          c.if-kept_in-2.false
          ∙ value-fails a.holder a.counts a.words.now a.bytes.now (c.if-words-words_all.false ∙ c.words_all.ensures) (c.if-bytes-bytes_all.false ∙ c.bytes_all.ensures) (sym c.kept_in.ensures ∙ w.if-kept_in.true) (sym w.kept_in-then-kept_in.ensures ∙ sym w.value-is ∙ c.if-kept_in-2.false)
      | else-kept_in w ↦
          c.if-kept_in-2.false
          ∙ index-fails a.holder a.counts a.words.now a.bytes.now (c.if-words-words_all.false ∙ c.words_all.ensures) (c.if-bytes-bytes_all.false ∙ c.bytes_all.ensures) (sym c.kept_in.ensures ∙ w.if-kept_in.false)
    ]
