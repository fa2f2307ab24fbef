-- The bytes copied stand at the front, and what lay behind stays.
use Rattle.compare_lines.proofs.Front.{copied}
use Rattle.compare_lines.proofs.buffer.Buffer.hold_copy.Goals as goal

pub returns-clause-room : goal.returns-clause-room
returns-clause-room g c = copied c.args.self.now.room c.args.bytes.now _ c.copy_from_slice.ensures.after
