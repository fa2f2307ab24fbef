-- The parts of a text: blanks, words, lines. Assumes nothing.
use Rattle.std.specs.Prelude.{Bool, true, false, ◌&&◌, ◌||◌, not, List, [], ◌∷◌, ℕ, eqb}
use Rattle.std.specs.Prelude.{if◌then◌else◌}

-- a space, a tab, or a carriage return
unfoldable pub is_blank : ℕ → Bool
is_blank b = eqb b 32 || (eqb b 9 || eqb b 13)

-- a character of a word
unfoldable pub is_wordy : ℕ → Bool
is_wordy b = not (is_blank b)

-- any character but one
unfoldable pub is_before : ℕ → ℕ → Bool
is_before c b = not (eqb b c)

-- the bytes in front that pass, up to the first that doesn't
unfoldable pub front : (ℕ → Bool) → List ℕ → List ℕ
front p [] = []
front p (b ∷ bs) = if p b then b ∷ front p bs else []

-- what stands behind them
unfoldable pub behind : (ℕ → Bool) → List ℕ → List ℕ
behind p [] = []
behind p (b ∷ bs) = if p b then behind p bs else b ∷ bs

-- the first word, and what stands behind it
unfoldable pub word_of : List ℕ → List ℕ
word_of bs = front is_wordy (behind is_blank bs)

-- what stands behind the first word
unfoldable pub behind_word : List ℕ → List ℕ
behind_word bs = behind is_wordy (behind is_blank bs)

-- whether there are no bytes
unfoldable pub is_none : List ℕ → Bool
is_none [] = true
is_none (b ∷ bs) = false

-- whether two words are one
unfoldable pub same_bytes : List ℕ → List ℕ → Bool
same_bytes [] [] = true
same_bytes [] (b ∷ bs) = false
same_bytes (a ∷ l) [] = false
same_bytes (a ∷ l) (b ∷ bs) = eqb a b && same_bytes l bs

-- a byte in front of the first line
unfoldable pub on_first : ℕ → List (List ℕ) → List (List ℕ)
on_first b [] = (b ∷ []) ∷ []
on_first b (l ∷ ls) = (b ∷ l) ∷ ls

-- the lines of a text: each ends at a line feed, the last one may lack it
unfoldable pub text_lines : List ℕ → List (List ℕ)
text_lines [] = []
text_lines (b ∷ bs) = if eqb b 10 then [] ∷ text_lines bs else on_first b (text_lines bs)
