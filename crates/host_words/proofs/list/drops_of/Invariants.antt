-- The tables so far are the words passed; those that are left decide whether all are table numbers. Assumes nothing.
use Rattle.std.proofs.Common.{◌≡◌, length, take, drop}
use Rattle.numbers.specs.Numbers.{all_below}
use Rattle.host_words.proofs.list.drops_of.Given as goal

abbrev pub invariant-loop-i : goal.invariant-loop-i
invariant-loop-i l = record {
  long : length l.tables ≡ 16;
  tables : take l.i l.tables ≡ take l.i (drop 1 l.words);
  left : all_below 65536 (drop l.i (drop 1 l.words)) ≡ all_below 65536 (drop 1 l.words);
}
