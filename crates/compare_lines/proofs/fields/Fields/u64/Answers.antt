-- The number of the bytes taken.
use Rattle.compare_lines.proofs.Numbers.{eight}
use Rattle.compare_lines.proofs.fields.Fields.u64.Goals as goal

pub returns : goal.returns
returns c =
    let taken = c.in_ok-array.ensures in
    record {
      enough = taken.enough;
      first = eight c.args.self.now.rest.now c.in_ok-array.field-0 _ taken.enough taken.first c.from_le_bytes.ensures;
      rest = taken.rest;
    }
