-- What each turn keeps.
use mathlib.Core.Path.{◌≡◌}
use lib.ListN.{drop}
use Rattle.directory_text.specs.Number.{number_from, word_number}
use Rattle.directory_text.proofs.number.number_of.Given as goal

-- the digits left give the number so far what the word is
abbrev pub invariant-loop-character : goal.invariant-loop-character
invariant-loop-character l = number_from l.number (drop l.character-index l.word) ≡ word_number l.word
