-- `remove` meets its contract: the entry goes where the key stands with that id, and the last place's entry moves into its place.
-- Assumes nothing.
use Rattle.std.proofs.Common.{arith, ◌≡◌, ◌-◌, ◌∙◌, sym, ℕ}
use Rattle.std.specs.Prelude.{Some}
use Rattle.keys.specs.Keys.{rank, cut_out, rename_all}
use Rattle.overlay.specs.Rules.{Overlay, overlay_of}
use Rattle.overlay.specs.Overlay.{row_moved}
use Rattle.overlay.specs.Inner.{leaving_in}
use Rattle.overlay.proofs.Ruled.{shows}
use Rattle.overlay.proofs.Parts.{words_long, joined}
use Rattle.overlay.proofs.Leaves.{leaving_says, leaves, left_is, removal_is}
use Rattle.overlay.proofs.removal.remove.Goals as goal

pub keys_in-requires : goal.keys_in-requires
keys_in-requires c =
    let a = c.args in
    let k = shows a.kind a.room (overlay_of a.room a.words.now a.bytes.now a.n) c.requires in
    (words_long a.room a.words.now k.rows_long k.order-long, k.fits, k.in_order)

pub overflow_sub-last : goal.overflow_sub-last
overflow_sub-last c =
    let a = c.args in
    let over : Overlay = overlay_of a.room a.words.now a.bytes.now a.n in
    let key : ℕ = rank a.table a.index in
    let said = leaving_says a.kind a.room a.words.now a.bytes.now a.n c.requires c.keys_in.result c.keys_in.ensures.rows c.keys_in.ensures.order c.from.result a.table a.index a.id c.leaving_of.result c.leaving_of.ensures c.from.ensures in
    let plan : leaving_in over key a.id ≡ Some (c.in-Some.j, c.in-Some.p) = said ∙ c.in-Some.is in
    let t = leaves a.kind a.room over c.requires key a.id c.in-Some.j c.in-Some.p plan in
    omega (arith, t.spot-low)

pub overflow_mul-room : goal.overflow_mul-room
overflow_mul-room c =
    let a = c.args in
    let k = shows a.kind a.room (overlay_of a.room a.words.now a.bytes.now a.n) c.requires in
    omega (arith, words_long a.room a.words.now k.rows_long k.order-long)

pub split_at_mut-rows-requires : goal.split_at_mut-rows-requires
split_at_mut-rows-requires c =
    let a = c.args in
    let k = shows a.kind a.room (overlay_of a.room a.words.now a.bytes.now a.n) c.requires in
    omega (arith, words_long a.room a.words.now k.rows_long k.order-long)

pub order_move-requires : goal.order_move-requires
order_move-requires c =
    let a = c.args in
    let over : Overlay = overlay_of a.room a.words.now a.bytes.now a.n in
    let key : ℕ = rank a.table a.index in
    let said = leaving_says a.kind a.room a.words.now a.bytes.now a.n c.requires c.keys_in.result c.keys_in.ensures.rows c.keys_in.ensures.order c.from.result a.table a.index a.id c.leaving_of.result c.leaving_of.ensures c.from.ensures in
    let plan : leaving_in over key a.id ≡ Some (c.in-Some.j, c.in-Some.p) = said ∙ c.in-Some.is in
    let t = leaves a.kind a.room over c.requires key a.id c.in-Some.j c.in-Some.p plan in
    let k = shows a.kind a.room over c.requires in
    (omega (arith, t.spot-low), omega (arith, t.spot-low, t.most, words_long a.room a.words.now k.rows_long k.order-long, c.split_at_mut-rows.ensures.back_len))

pub row_move-requires : goal.row_move-requires
row_move-requires c =
    let a = c.args in
    let over : Overlay = overlay_of a.room a.words.now a.bytes.now a.n in
    let key : ℕ = rank a.table a.index in
    let said = leaving_says a.kind a.room a.words.now a.bytes.now a.n c.requires c.keys_in.result c.keys_in.ensures.rows c.keys_in.ensures.order c.from.result a.table a.index a.id c.leaving_of.result c.leaving_of.ensures c.from.ensures in
    let plan : leaving_in over key a.id ≡ Some (c.in-Some.j, c.in-Some.p) = said ∙ c.in-Some.is in
    let t = leaves a.kind a.room over c.requires key a.id c.in-Some.j c.in-Some.p plan in
    (omega (arith, t.place-low, t.most, c.split_at_mut-rows.ensures.front_len), omega (arith, t.spot-low, t.most, c.split_at_mut-rows.ensures.front_len))

pub slot_move-requires : goal.slot_move-requires
slot_move-requires c =
    let a = c.args in
    let over : Overlay = overlay_of a.room a.words.now a.bytes.now a.n in
    let key : ℕ = rank a.table a.index in
    let said = leaving_says a.kind a.room a.words.now a.bytes.now a.n c.requires c.keys_in.result c.keys_in.ensures.rows c.keys_in.ensures.order c.from.result a.table a.index a.id c.leaving_of.result c.leaving_of.ensures c.from.ensures in
    let plan : leaving_in over key a.id ≡ Some (c.in-Some.j, c.in-Some.p) = said ∙ c.in-Some.is in
    let t = leaves a.kind a.room over c.requires key a.id c.in-Some.j c.in-Some.p plan in
    (omega (arith, t.place-low), rw c.slot_size.ensures.0 t.slot)

pub returns-in-None : goal.returns-in-None
returns-in-None c =
    let a = c.args in
    let over : Overlay = overlay_of a.room a.words.now a.bytes.now a.n in
    let key : ℕ = rank a.table a.index in
    let said = leaving_says a.kind a.room a.words.now a.bytes.now a.n c.requires c.keys_in.result c.keys_in.ensures.rows c.keys_in.ensures.order c.from.result a.table a.index a.id c.leaving_of.result c.leaving_of.ensures c.from.ensures in
    left_is a.kind over key a.id (sym (said ∙ c.in-None.is))

pub returns-in-Some : goal.returns-in-Some
returns-in-Some c =
    let a = c.args in
    let over : Overlay = overlay_of a.room a.words.now a.bytes.now a.n in
    let key : ℕ = rank a.table a.index in
    let said = leaving_says a.kind a.room a.words.now a.bytes.now a.n c.requires c.keys_in.result c.keys_in.ensures.rows c.keys_in.ensures.order c.from.result a.table a.index a.id c.leaving_of.result c.leaving_of.ensures c.from.ensures in
    let plan : leaving_in over key a.id ≡ Some (c.in-Some.j, c.in-Some.p) = said ∙ c.in-Some.is in
    let t = leaves a.kind a.room over c.requires key a.id c.in-Some.j c.in-Some.p plan in
    let rows : c.row_move.new.rows ≡ row_moved over.rows (a.n - 1) c.in-Some.p = c.row_move.ensures ∙ rw c.split_at_mut-rows.ensures.front in
    let order : c.order_move.new.order ≡ rename_all (a.n - 1) (a.n - 1) c.in-Some.p (cut_out c.in-Some.j (a.n - 1) over.order) = c.order_move.ensures ∙ rw c.split_at_mut-rows.ensures.back in
    joined a.room c.row_move.new.rows c.order_move.new.order c.slot_move.new.bytes (a.n - 1) (omega (arith, c.row_move.auto.rows, c.split_at_mut-rows.ensures.front_len))
    ∙ removal_is a.kind over key a.id c.row_move.new.rows c.order_move.new.order c.slot_move.new.bytes c.slot_size.result c.slot_size.ensures.0 c.in-Some.j c.in-Some.p plan rows order c.slot_move.ensures
