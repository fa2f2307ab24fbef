-- A list that `begin_record` never hands out, `end_record` never takes. Assumes nothing.
use mathlib.Core.Path.{◌≡◌, refl}
use mathlib.Core.Bool.{Bool, true, false}
use mathlib.Core.List.{List}
use Prim.Native.Nat.{ℕ, ◌<◌}
use native.Mathlib.Omega.{arith}
use Rattle.answer.specs.Answer.{last_record_id}
use Rattle.directory.specs.declared.directory.Directory.{Directory}
use Rattle.memory.specs.declared.overlays.LogOverlays.{LogOverlays}
use Rattle.change.specs.Change.{new_list}
use Rattle.files.specs.declared.queues.Queues.{Queues}
use Rattle.ending.specs.EndRecord.{Handed, handed_of, end_answer, is_done}
use Rattle.ending.proofs.Decided.{accepted}

-- no next id follows 2^64-1
pub last-refused : (d : Directory) (h : Handed)
    → h.list.id ≡ last_record_id
    → h.next < 18446744073709551616  -- the next id is one of its type
    → is_done (end_answer d h) ≡ false
last-refused d h e small = by (is_done (end_answer d h)) refl
  where
    by : (b : Bool) → is_done (end_answer d h) ≡ b → b ≡ false
    by true f = absurd (omega (arith, (accepted d h f).next))
    by false f = refl

-- a list of the id that `begin_record` never hands out: `end_record` never takes it
pub not_begun-refused : (d : Directory) (lw lb : List ℕ) (o : LogOverlays) (w b : List ℕ) (q : Queues) (next : ℕ) (out : List ℕ)
    → next < 18446744073709551616  -- the next id is one of its type
    → is_done (end_answer d (handed_of (new_list last_record_id) lw lb o w b q next out)) ≡ false
unfolding handed_of
not_begun-refused d lw lb o w b q next out small = last-refused d (handed_of (new_list last_record_id) lw lb o w b q next out) refl small
