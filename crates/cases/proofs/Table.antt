-- Document 01's cases: the table holds. Assumes nothing.
use Rattle.cases.specs.Table.{Table}
use Rattle.cases.proofs.Records as records
use Rattle.cases.proofs.Openings as openings
use Rattle.cases.proofs.Files.{k-no_flush, l_highest_removed}

pub table : Table
table = record {
  a = (records.cases).0;
  a-length = (records.lengths).0;
  b = (records.cases).1;
  b-length = (records.lengths).1;
  c = (records.cases).2;
  c-length = (records.lengths).2;
  d = (records.cases).3;
  d-length = (records.lengths).3;
  e = (records.cases).4;
  e-length = (records.lengths).4;
  f = λ d kept validate a b c e f g h. (openings.cases d kept validate a b c e f g h).0;
  g = λ d kept validate. (openings.cases d kept validate 0 0 0 0 0 0 0).1;
  h = λ d kept validate. (openings.cases d kept validate 0 0 0 0 0 0 0).2;
  i = λ d kept validate a b. (openings.cases d kept validate a b 0 0 0 0 0).3;
  j-63 = (records.cases).5;
  j-mask = (records.cases).6;
  j-64 = (records.cases).7;
  k = k-no_flush;
  l = l_highest_removed.0;
  l-kept = l_highest_removed.1;
}
