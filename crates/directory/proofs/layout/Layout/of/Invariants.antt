-- What each turn keeps.
use mathlib.Core.Path.{◌≡◌}
use Prim.Native.Nat.{ℕ, ◌*◌, ◌<◌, ◌≤◌}
use lib.ListN.{length, take, get_or}
use Rattle.directory.specs.Directory.{sizes_of, start_of}
use Rattle.directory.proofs.layout.Layout.of.Given as goal

-- the rows that were passed have their starts, and the next table begins behind theirs
abbrev pub invariant-loop-row : goal.invariant-loop-row
invariant-loop-row l = record {
  long : length l.starts ≡ 16;
  small : l.at ≤ l.row * 4294967296;
  next : l.at ≡ sizes_of (take l.row l.t-items);
  begin : (k : ℕ) → k < l.row → get_or l.starts k 0 ≡ start_of l.fn.directory k;
}
