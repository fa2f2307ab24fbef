-- What each turn keeps.
use mathlib.Core.Path.{◌≡◌}
use Prim.Native.Nat.{◌+◌, ◌≤◌}
use lib.ListN.{length}
use Rattle.directory_text.specs.Scan.{text_lines}
use Rattle.directory_text.specs.Text.{parse_lines, parse}
use Rattle.directory_text.proofs.text.parse.Given as goal

-- the lines that are left make of the directory so far what the text comes to
abbrev pub invariant-loop-rest : goal.invariant-loop-rest
invariant-loop-rest l = record {
  few : l.line + length l.rest ≤ length l.text;
  left : parse_lines l.line l.directory (text_lines l.rest) ≡ parse l.text;
}

abbrev pub decreases-loop-rest : goal.decreases-loop-rest
decreases-loop-rest l = length l.rest
