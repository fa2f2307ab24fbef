-- `checksum::forty_in` meets its contract: five words in turn. Assumes nothing.
use mir.Val.{Fits}
use mir.Syntax.{w64}
use native.Mathlib.Omega.{arith}
use borrow.Author.Rules.{rules}
use Rattle.checksum.proofs.Carry.{forty_turns}
use Rattle.checksum.proofs.forty_in.Goals as goal

pub returns : goal.returns
returns c =
    let fits : Fits w64 c.args.s.0 × Fits w64 c.args.s.1 × Fits w64 c.args.s.2 × Fits w64 c.args.s.3 × Fits w64 c.args.s.4 = search rules in
    let a = c.args in
    let f = fits in
    forty_turns a.bytes.now (λ k. (c.type_inv.bytes k).fits) a.s.0 a.s.1 a.s.2 a.s.3 a.s.4
    c.word_in-a.result c.word_in-b.result c.word_in-c.result c.word_in-d.result c.word_in.result c.requires.forty
    f.0.fits f.1.fits f.2.fits f.3.fits f.4.fits
    (omega (arith, c.word_in-a.type_inv)) (omega (arith, c.word_in-b.type_inv)) (omega (arith, c.word_in-c.type_inv)) (omega (arith, c.word_in-d.type_inv))
    (cc) (cc) (cc) (cc) (cc)
