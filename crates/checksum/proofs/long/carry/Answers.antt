-- `checksum::long::carry` meets its contract, word by word. Assumes nothing.
use Prim.Native.Nat.{◌<◌, ◌^◌}
use lib.Bits.{bit_xor, xor_lt}
use mir.Val.{Fits}
use mir.Syntax.{w64}
use borrow.Author.Rules.{rules}
use Rattle.checksum.proofs.Carry.{carried_words}
use Rattle.checksum.proofs.long.carry.Goals as goal

pub returns : goal.returns
returns c =
    let a = c.args in
    let s = a.s in
    let f0 : Fits w64 s.0 = search rules in
    let f1 : Fits w64 s.1 = search rules in
    let f2 : Fits w64 s.2 = search rules in
    let f3 : Fits w64 s.3 = search rules in
    let f4 : Fits w64 s.4 = search rules in
    let fw : Fits w64 a.word = search rules in
    let h : bit_xor s.0 a.word < 2 ^ 64 = xor_lt 64 s.0 a.word f0.fits fw.fits in
    (f0.fits, carried_words (bit_xor s.0 a.word) h s.1 s.2 s.3 s.4 f1.fits f2.fits f3.fits f4.fits)
