-- `kept` meets its contract: two lengths, then the keys in the two parts. Assumes nothing.
use Rattle.std.proofs.Common.{◌*◌, ◌≤◌, ◌∙◌, sym, ap, arith, ℕ}
use native.Mathlib.Nat.{mul-le-mul}
use Rattle.overlay.proofs.Parts.{other-words, other-bytes, then_keys}
use Rattle.overlay.proofs.rules.kept.Goals as goal
use Rattle.overlay.proofs.rules.kept.Goals.{then-words-room-via-then-words-room, then-words-room-via-else-words-room+then-bytes-slot_size}

pub overflow_mul-slot_size : goal.overflow_mul-slot_size
overflow_mul-slot_size c = let h : c.slot_size.result * c.args.room ≤ 1024 * 256 = mul-le-mul c.slot_size.ensures.1 c.requires in omega (arith, h)

pub returns-then-words-room : goal.returns-then-words-room
returns-then-words-room c =
    let a = c.args in
    elim c.then-words-room.branch [
      | then-words-room-via-then-words-room w ↦ other-words a.kind a.room a.words.now a.bytes.now a.n w.if-words-room.true
      | then-words-room-via-else-words-room+then-bytes-slot_size w ↦ other-bytes a.kind a.room a.words.now a.bytes.now a.n (λ e. w.if-bytes-slot_size.true (e ∙ ap (λ (s : ℕ). s * a.room) (sym w.slot_size.ensures.0)))
    ]

pub returns : goal.returns
returns c =
    let a = c.args in
    c.keys_ruled.ensures
    ∙ rw (c.split_at.ensures.front, c.split_at.ensures.back) (then_keys a.kind a.room a.words.now a.bytes.now a.n c.if-words-room.false (c.if-bytes-slot_size.false ∙ ap (λ (s : ℕ). s * a.room) c.slot_size.ensures.0))
