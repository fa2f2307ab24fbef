-- The id, the counts and both kinds' drops, one behind the other. Assumes nothing.
use Rattle.std.proofs.Common.{rules, ◌≡◌, length}
use Rattle.host_words.proofs.Laid.{laid}
use Rattle.host_words.proofs.list.list_words.Goals as goal

pub returns : goal.returns
returns c =
    let first : length c.args.list.dropped_tables.tables ≡ 16 = search rules in
    let second : length c.args.list.dropped_ref_count_tables.tables ≡ 16 = search rules in
    rw (c.copy_from_slice.ensures.after, c.copy_from_slice-2.ensures.after, c.copy_from_slice-3.ensures.after, c.counts_words.ensures, c.drops_words.ensures, c.drops_words-2.ensures)
    (laid c.args.list first second)
