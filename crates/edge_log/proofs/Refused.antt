-- What a host holds after a call that was refused: the words as it lent them. Assumes nothing.
use mathlib.Core.Path.{◌≡◌}
use mathlib.Core.List.{List}
use Prim.Native.Nat.{ℕ, ◌<◌}
use native.Mathlib.Omega.{arith}
use lib.ListN.{length}
use Rattle.std.specs.Prelude.{Result, Ok, Err}
use Rattle.answer.specs.Answer.{number_of, answer_in}
use Rattle.answer.specs.declared.answer.Answer.{Answer}
use Rattle.log_calls.specs.Begin.{begun_next}
use Rattle.log_calls.specs.declared.begin.Begun.{Begun}
use Rattle.log_calls.specs.declared.clear_replay.LogsCleared.{LogsCleared}
use Rattle.edge_log.specs.Ending.{begin_in, begun_list, Heads, ClearLeft}

-- ---- `begin_record`: the next id and the list's words
module _ (next after answer : ℕ) (list are : List ℕ) where
  by-begun : (r : Result Begun Answer) → answer ≡ number_of (answer_in r) → after ≡ begun_next next r → are ≡ begun_list list r → 0 < answer → (after ≡ next) × (are ≡ list)
  by-begun (Ok b) a n l h = let e : answer ≡ 0 = a in absurd (omega (arith, e))
  by-begun (Err x) a n l h = (n, l)

  pub begin-leaves : answer ≡ number_of (answer_in (begin_in next (length list)))
      → after ≡ begun_next next (begin_in next (length list))
      → are ≡ begun_list list (begin_in next (length list))
      → 0 < answer → (after ≡ next) × (are ≡ list)
  begin-leaves = by-begun (begin_in next (length list))

-- ---- `clear_replay_logs`: the words of the overlays and of the queues
pub clear-replay-leaves : (r : Result LogsCleared Answer) (was are : Heads) (answer : ℕ) → ClearLeft r was answer are → 0 < answer
    → (are.overlays ≡ was.overlays) × (are.queues ≡ was.queues)
clear-replay-leaves (Ok c) was are answer p h = let e : answer ≡ 0 = p.0.0 in absurd (omega (arith, e))
clear-replay-leaves (Err a) was are answer p h = (p.1, p.2)
