-- `checksum::bytes_in` meets its contract. Assumes nothing.
use mathlib.Core.Path.{◌≡◌, ap, sym, ◌∙◌}
use mathlib.Core.List.{List}
use Prim.Native.Nat.{ℕ, ◌+◌, ◌*◌, ◌/◌, ◌<◌}
use native.Mathlib.Omega.{arith}
use lib.ListN.{length, get_or}
use Rattle.std.specs.Int.{w64, from_le_bytes}
use Rattle.words.specs.Words.{little_at}
use Rattle.checksum.proofs.Register.{updated-next, updated-end}
use Rattle.checksum.proofs.Words.{updated-word, word-of}
use Rattle.checksum.proofs.bytes_in.Goals as goal

pub loop-word-preserved : goal.loop-word-preserved
loop-word-preserved c =
    let bs = c.args.bytes.now in
    let l = c.loop-word in
    let i = l.word-index in
    let few : i < length bs / 8 = omega (arith, c.loop-word-test.true, c.as_chunks.ensures.front_len) in
    let word : c.from_le_bytes.result ≡ little_at 8 bs (i * 8) = c.from_le_bytes.ensures ∙ ap (λ (ws : List (List ℕ)). from_le_bytes w64 (get_or ws i _)) c.as_chunks.ensures.front ∙ word-of bs _ (length bs / 8) i few (omega arith) in
    let next : (i + 1) * 8 ≡ i * 8 + 8 = omega arith in
    record {
      small = omega (arith, c.word_in-r.type_inv);
      left =
          rw (next, c.word_in-r.ensures, c.from.ensures, word)
          (sym (updated-word bs (λ k. (c.type_inv.bytes k).fits) 8 l.r (i * 8) (omega arith)) ∙ l.invariant.left);
    }

pub loop-b-init : goal.loop-b-init
loop-b-init c =
    let e : length c.args.bytes.now / 8 ≡ c.loop-word.word-index = omega (arith, c.as_chunks.ensures.front_len, c.loop-word-test.false, c.loop-word.auto.word-index-end) in
    rw (c.as_chunks.ensures.back, e) c.loop-word.invariant.left

pub loop-b-preserved : goal.loop-b-preserved
loop-b-preserved c = rw (c.byte_in-r.ensures) (sym (updated-next c.loop-b.r c.as_chunks.result.1.now c.loop-b.b-index c.loop-b-test.true) ∙ c.loop-b.invariant)

pub returns : goal.returns
returns c = sym (updated-end c.loop-b.r c.as_chunks.result.1.now c.loop-b.b-index c.loop-b-test.false) ∙ c.loop-b.invariant
