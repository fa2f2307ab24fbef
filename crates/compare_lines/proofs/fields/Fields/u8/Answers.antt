-- The byte taken.
use Rattle.std.proofs.Common.{refl}
use Rattle.compare_lines.proofs.Numbers.{one}
use Rattle.compare_lines.proofs.fields.Fields.u8.Goals as goal

pub returns : goal.returns
returns c =
    let taken = c.in_ok-byte.ensures in
    record {
      enough = taken.enough;
      first = one c.args.self.now.rest.now c.in_ok-byte.field-0 _ taken.enough taken.first refl;
      rest = taken.rest;
    }
