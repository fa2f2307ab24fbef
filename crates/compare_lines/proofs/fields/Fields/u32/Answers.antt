-- The number of the bytes taken.
use Rattle.compare_lines.proofs.Numbers.{four}
use Rattle.compare_lines.proofs.fields.Fields.u32.Goals as goal

pub returns : goal.returns
returns c =
    let taken = c.in_ok-array.ensures in
    record {
      enough = taken.enough;
      first = four c.args.self.now.rest.now c.in_ok-array.field-0 _ taken.enough taken.first c.from_le_bytes.ensures;
      rest = taken.rest;
    }
