-- `checksum::long::carry_all` meets its contract. Assumes nothing.
use mathlib.Core.Path.{◌≡◌, sym, ap, ◌∙◌}
use mathlib.Core.List.{List}
use Prim.Native.Nat.{ℕ, ◌+◌, ◌*◌, ◌/◌, ◌<◌}
use native.Mathlib.Nat.{zero-add}
use native.Mathlib.Omega.{arith}
use lib.ListN.{length, get_or, take}
use lib.Seq.{length-take-le}
use Rattle.std.specs.Int.{w64, from_le_bytes}
use Rattle.words.specs.Words.{little_at}
use Rattle.words.proofs.Cut.{little-cut}
use Rattle.checksum.specs.Inner.{ahead, carried_behind}
use Rattle.checksum.proofs.Carry.{carried_at, ahead-updated}
use Rattle.checksum.proofs.Words.{word-of}
use Rattle.checksum.proofs.long.carry_all.Goals as goal

pub loop-word-init : goal.loop-word-init
loop-word-init c =
    let a = c.args in
    rw c.from.ensures (ap (λ (n : ℕ). ahead n a.bytes.now) (zero-add a.register) ∙ ahead-updated a.register a.bytes.now (λ k. (c.type_inv.bytes k).fits))

pub loop-word-preserved : goal.loop-word-preserved
loop-word-preserved c =
    let bs = c.args.bytes.now in
    let to = c.args.to in
    let s = c.loop-word.s in
    let i = c.loop-word.word-index in
    let part : length (take to bs) ≡ to = length-take-le to bs (omega (arith, c.requires.1)) in
    let few : i < length (take to bs) / 8 = omega (arith, c.loop-word-test.true, c.as_chunks.ensures.front_len) in
    let word : c.from_le_bytes.result ≡ little_at 8 bs (i * 8) =
    c.from_le_bytes.ensures
    ∙ ap (λ (ws : List (List ℕ)). from_le_bytes w64 (get_or ws i _)) c.as_chunks.ensures.front
    ∙ word-of (take to bs) _ (length (take to bs) / 8) i few (omega arith)
    ∙ little-cut 8 (i * 8) to bs (omega arith)
    in
    let next : (i + 1) * 8 ≡ i * 8 + 8 = omega arith in
    rw (next, c.carry-s.ensures.1, word)
    (sym (carried_at bs (λ k. (c.type_inv.bytes k).fits) (i * 8) (carried_behind s) s.0 c.carry-s.ensures.0 (omega arith)) ∙ c.loop-word.invariant)

pub returns : goal.returns
returns c =
    let bs = c.args.bytes.now in
    let part : length (take c.args.to bs) ≡ c.args.to = length-take-le c.args.to bs (omega (arith, c.requires.1)) in
    let e : c.args.to ≡ c.loop-word.word-index * 8 = omega (arith, c.as_chunks.ensures.front_len, c.loop-word-test.false, c.loop-word.auto.word-index-end, c.requires.0) in
    rw e c.loop-word.invariant
