-- `put` meets its contract: over the place where the key stands, or into the next one. Assumes nothing.
use Rattle.std.proofs.Common.{arith, ◌≡◌, ◌*◌, ◌∙◌, sym, ap, length, ℕ}
use lib.Seq.{paste}
use Rattle.numbers.specs.Numbers.{put_in}
use Rattle.keys.specs.Keys.{rank, row_put_of}
use Rattle.overlay.specs.Rules.{Overlay, overlay_of, lists_of}
use Rattle.overlay.proofs.Ruled.{shows}
use Rattle.overlay.proofs.Parts.{words_long, joined}
use Rattle.overlay.proofs.Seats.{seat_says, placed, order_with, goes, spot-low, free_at, put-goes}
use Rattle.overlay.proofs.entry.put.Goals as goal
use Rattle.overlay.proofs.entry.put.Goals.{in-Over, in-Next}

pub seat_of-seat-requires : goal.seat_of-seat-requires
seat_of-seat-requires c =
    let a = c.args in
    let k = shows a.kind a.room (overlay_of a.room a.words.now a.bytes.now a.n) c.requires.0 in
    (words_long a.room a.words.now k.rows_long k.order-long, k.fits, k.in_order)

pub overflow_mul-room : goal.overflow_mul-room
overflow_mul-room c =
    let a = c.args in
    let k = shows a.kind a.room (overlay_of a.room a.words.now a.bytes.now a.n) c.requires.0 in
    omega (arith, words_long a.room a.words.now k.rows_long k.order-long)

pub split_at_mut-rows-requires : goal.split_at_mut-rows-requires
split_at_mut-rows-requires c =
    let a = c.args in
    let k = shows a.kind a.room (overlay_of a.room a.words.now a.bytes.now a.n) c.requires.0 in
    omega (arith, words_long a.room a.words.now k.rows_long k.order-long)

pub put-requires : goal.put-requires
put-requires c =
    let a = c.args in
    let over : Overlay = overlay_of a.room a.words.now a.bytes.now a.n in
    let q = c.seat_of-seat.result in
    let seat = seat_says over.rows over.order over.bytes a.n c.from-t.result a.e.table a.e.index q c.seat_of-seat.ensures c.from-t.ensures in
    let k = shows a.kind a.room over c.requires.0 in
    let key = rank a.e.table a.e.index in (
      spot-low a.kind a.room over c.requires.0 key c.in-Next.j (seat ∙ c.in-Next.is),
      omega (arith, words_long a.room a.words.now k.rows_long k.order-long, c.split_at_mut-rows.ensures.back_len, free_at a.kind a.room over c.requires.0 key c.in-Next.j c.requires.2 (seat ∙ c.in-Next.is)),
    )

pub overflow_add-p : goal.overflow_add-p
overflow_add-p c =
    let a = c.args in
    let over : Overlay = overlay_of a.room a.words.now a.bytes.now a.n in
    let q = c.seat_of-seat.result in
    let seat = seat_says over.rows over.order over.bytes a.n c.from-t.result a.e.table a.e.index q c.seat_of-seat.ensures c.from-t.ensures in
    let k = shows a.kind a.room over c.requires.0 in
    omega (arith, words_long a.room a.words.now k.rows_long k.order-long, free_at a.kind a.room over c.requires.0 (rank a.e.table a.e.index) c.in-Next.j c.requires.2 (seat ∙ c.in-Next.is))

pub row_put-requires : goal.row_put-requires
row_put-requires c =
    let a = c.args in
    let over : Overlay = overlay_of a.room a.words.now a.bytes.now a.n in
    let q = c.seat_of-seat.result in
    let seat = seat_says over.rows over.order over.bytes a.n c.from-t.result a.e.table a.e.index q c.seat_of-seat.ensures c.from-t.ensures in
    let at : c.match-seat.p ≡ placed a.n q = elim c.match-seat.branch [
      | in-Over w ↦ w.p-is ∙ ap (placed a.n) (sym w.in-Over.is)
      | in-Next w ↦ w.p-is ∙ ap (placed a.n) (sym w.in-Next.is)
    ] in
    let g = goes a.kind a.room over c.requires.0 (rank a.e.table a.e.index) c.requires.2 q seat in
    let p = ap (λ (x : ℕ × ℕ). x.0) at in
    omega (arith, g.low, p, c.split_at_mut-rows.ensures.front_len)

pub overflow_mul-slot_size : goal.overflow_mul-slot_size
overflow_mul-slot_size c =
    let a = c.args in
    let over : Overlay = overlay_of a.room a.words.now a.bytes.now a.n in
    let q = c.seat_of-seat.result in
    let seat = seat_says over.rows over.order over.bytes a.n c.from-t.result a.e.table a.e.index q c.seat_of-seat.ensures c.from-t.ensures in
    let at : c.match-seat.p ≡ placed a.n q = elim c.match-seat.branch [
      | in-Over w ↦ w.p-is ∙ ap (placed a.n) (sym w.in-Over.is)
      | in-Next w ↦ w.p-is ∙ ap (placed a.n) (sym w.in-Next.is)
    ] in
    let g = goes a.kind a.room over c.requires.0 (rank a.e.table a.e.index) c.requires.2 q seat in
    let p = ap (λ (x : ℕ × ℕ). x.0) at in
    rw (c.slot_size.ensures.0, p) (omega (arith, g.slot))

pub copy_in-requires : goal.copy_in-requires
copy_in-requires c =
    let a = c.args in
    let over : Overlay = overlay_of a.room a.words.now a.bytes.now a.n in
    let q = c.seat_of-seat.result in
    let seat = seat_says over.rows over.order over.bytes a.n c.from-t.result a.e.table a.e.index q c.seat_of-seat.ensures c.from-t.ensures in
    let at : c.match-seat.p ≡ placed a.n q = elim c.match-seat.branch [
      | in-Over w ↦ w.p-is ∙ ap (placed a.n) (sym w.in-Over.is)
      | in-Next w ↦ w.p-is ∙ ap (placed a.n) (sym w.in-Next.is)
    ] in
    let g = goes a.kind a.room over c.requires.0 (rank a.e.table a.e.index) c.requires.2 q seat in
    let p = ap (λ (x : ℕ × ℕ). x.0) at in
    rw (c.slot_size.ensures.0, p) (omega (arith, g.slot, c.requires.1))

pub returns : goal.returns
returns c =
    let a = c.args in
    let over : Overlay = overlay_of a.room a.words.now a.bytes.now a.n in
    let q = c.seat_of-seat.result in
    let seat = seat_says over.rows over.order over.bytes a.n c.from-t.result a.e.table a.e.index q c.seat_of-seat.ensures c.from-t.ensures in
    let at : c.match-seat.p ≡ placed a.n q = elim c.match-seat.branch [
      | in-Over w ↦ w.p-is ∙ ap (placed a.n) (sym w.in-Over.is)
      | in-Next w ↦ w.p-is ∙ ap (placed a.n) (sym w.in-Next.is)
    ] in
    let g = goes a.kind a.room over c.requires.0 (rank a.e.table a.e.index) c.requires.2 q seat in
    let p = ap (λ (x : ℕ × ℕ). x.0) at in
    let k = shows a.kind a.room over c.requires.0 in
    let order : c.match-seat.order ≡ order_with a.n over.order q = elim c.match-seat.branch [
      | in-Over w ↦ w.order-is ∙ c.split_at_mut-rows.ensures.back ∙ ap (order_with a.n over.order) (sym w.in-Over.is)
      | in-Next w ↦ w.order-is ∙ w.put.ensures ∙ ap (put_in w.in-Next.j a.n a.n) c.split_at_mut-rows.ensures.back ∙ ap (order_with a.n over.order) (sym w.in-Next.is)
    ] in
    let rows : c.row_put.new.rows ≡ row_put_of over.rows (placed a.n q).0 a.e.table a.e.index a.e.id a.e.mark = c.row_put.ensures ∙ rw (c.split_at_mut-rows.ensures.front, p, c.from-t.ensures) in
    let bytes : c.copy_in.new.dst ≡ paste over.bytes (c.slot_size.result * (placed a.n q).0) a.e.bytes.now (length a.e.bytes.now) = c.copy_in.ensures ∙ rw p in
    let count = ap (λ (x : ℕ × ℕ). x.1) at in
    joined a.room c.row_put.new.rows c.match-seat.order c.copy_in.new.dst c.match-seat.p.1 (omega (arith, c.row_put.auto.rows, c.split_at_mut-rows.ensures.front_len))
    ∙ ap (lists_of c.row_put.new.rows c.match-seat.order c.copy_in.new.dst) count
    ∙ put-goes a.kind a.room over c.requires.0 a.e.table a.e.index a.e.id a.e.mark a.e.bytes.now c.row_put.new.rows c.match-seat.order c.copy_in.new.dst c.slot_size.result c.slot_size.ensures.0 q seat rows order bytes
