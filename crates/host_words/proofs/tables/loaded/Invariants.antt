-- The rows that are left, behind the tables so far, make the directory. Assumes nothing.
use Rattle.std.proofs.Common.{◌≡◌, ◌%◌, length}
use Rattle.host_words.specs.Tables.{directory_from}
use Rattle.host_words.proofs.Rows.{rows_left}
use Rattle.host_words.proofs.tables.loaded.Given as goal

abbrev pub invariant-loop-row : goal.invariant-loop-row
invariant-loop-row l = record {
  six : l.row-iterator.size ≡ 6;
  whole : length l.row-iterator.rest.now % 6 ≡ 0;
  left : rows_left l.row-iterator.rest.now l.d ≡ directory_from l.words;
}
