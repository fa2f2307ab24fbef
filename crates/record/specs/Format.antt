-- What bytes are asked for, one after the other, and what is made of them. A format looks at nothing behind what it has asked for.
use Rattle.std.specs.Prelude.{Bool, true, false, List, ℕ, ◌+◌, ◌-◌, ltb, length, take, drop, get_or}
use Rattle.std.specs.Prelude.{if◌then◌else◌}
use Rattle.answer.specs.declared.answer.Answer.{Answer}

-- a format: a need of bytes, a refusal, or what the bytes read so far come to
pub data Format (A : Type 0) : Type 0 where
  -- k bytes, and on with them; where fewer are left, the answer is `short`
  need : (k : ℕ) → (short : Answer) → (List ℕ → Format A) → Format A
  refuse : Answer → Format A
  give : A → Format A

-- what reading comes to: a refusal, or a value and the position behind its bytes
pub data Got (A : Type 0) : Type 0 where
  stopped : Answer → Got A
  got : A → (end : ℕ) → Got A

-- the bytes of a log from a position on, read as the format says
unfoldable pub read_at : {A : Type 0} → Format A → ℕ → List ℕ → Got A
read_at (need k short f) at log = if ltb (length log - at) k then stopped short else read_at (f (take k (drop at log))) (at + k) log
read_at (refuse answer) at log = stopped answer
read_at (give a) at log = got a at

-- one format, and then another by what the first gave: `do` is written with these
infixl 20 ◌>>=◌ ◌>>◌
abbrev pub ◌>>=◌ : {A B : Type 0} → Format A → (A → Format B) → Format B
◌>>=◌ (need k short f) g = need k short (λ bs. f bs >>= g)
◌>>=◌ (refuse answer) g = refuse answer
◌>>=◌ (give a) g = g a

-- the same where the first gives nothing to go by
abbrev pub ◌>>◌ : {A B : Type 0} → Format A → Format B → Format B
◌>>◌ f g = f >>= λ a. g

-- k bytes as they are; one byte as a number
abbrev pub bytes : ℕ → Answer → Format (List ℕ)
bytes k short = need k short give

-- one byte as a number
abbrev pub byte : Answer → Format ℕ
byte short = need 1 short (λ bs. give (get_or bs 0 0))

-- on if the test holds
abbrev pub test : Bool → Answer → Format (Unit {0})
test true answer = give tt
test false answer = refuse answer
