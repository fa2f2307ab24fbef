-- Whether the byte taken is 0.
use Rattle.std.proofs.Common.{◌∙◌, ℕ, not, eqb, ap}
use Rattle.compare_lines.proofs.Numbers.{byte}
use Rattle.compare_lines.proofs.fields.Fields.flag.Goals as goal

pub returns : goal.returns
returns c =
    let taken = c.in_ok-u8.ensures in
    record {
      enough = taken.enough;
      first = ap (λ (n : ℕ). not (eqb n 0)) (taken.first ∙ byte c.args.self.now.rest.now taken.enough);
      rest = taken.rest;
    }
