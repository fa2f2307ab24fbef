-- So many times that byte stands at the front, and what lay behind stays.
use Rattle.std.proofs.Common.{◌≡◌, ◌∙◌, ℕ, length, take, replicate, ap, arith, rules}
use Rattle.compare_lines.proofs.Front.{filled}
use Rattle.compare_lines.proofs.buffer.Buffer.hold.Goals as goal

pub returns-clause-room : goal.returns-clause-room
returns-clause-room g c =
    let a = c.args in
    let room = a.self.now.room in
    let front : c.fill.new.self ≡ replicate (length (take a.n room)) a.byte = c.fill.ensures.after (λ y e. search rules) in
    let k : length (take a.n room) ≡ a.n = grind arith in
    filled room _ a.n a.byte (front ∙ ap (λ (n : ℕ). replicate n a.byte) k)
