-- A directory in its plain text form, a line a table, parsed up to the first fault. Assumes nothing.
use Rattle.std.specs.Prelude.{not, List, [], ◌∷◌, ℕ, ◌+◌, leb, set, Option, Some, None, Result, Ok, Err, is_some}
use Rattle.std.specs.Prelude.{if◌then◌else◌}
use Rattle.directory.specs.Table.{table_kept}
use Rattle.directory.specs.Directory.{no_tables, find_table}
use Rattle.directory.specs.declared.table.TableDescription.{TableDescription}
use Rattle.directory.specs.declared.directory.Directory.{Directory}
use Rattle.directory_text.specs.Scan.{text_lines}
use Rattle.directory_text.specs.Line.{line_in}
use Rattle.directory_text.specs.declared.fault.Fault.{Fault}
use Rattle.directory_text.specs.declared.fault.Fault.TheVariants as fault
use Rattle.directory_text.specs.declared.text.LineFault.{LineFault}
use Rattle.directory_text.specs.declared.text.Parsed.{Parsed}
use Rattle.directory_text.specs.declared.text.Broken.{Broken}

-- the directory with a table more
abbrev pub added : Directory → TableDescription → Directory
added d t = record { tables = set d.tables d.count t; count = d.count + 1 }

-- one table more, unless it breaks a rule: "Up to 16 tables", its own rules, "No two of one kind share a number."
unfoldable pub with_table : Directory → TableDescription → Result Directory Fault
with_table d t =
    if leb 16 d.count
    then Err fault.SeventeenthTable
    else if not (table_kept t)
    then Err fault.RuleBroken
    else if is_some (find_table d t.kind t.number)
    then Err fault.NameTaken
    else Ok (added d t)

-- what a line makes of the directory so far
unfoldable pub of_line : Directory → Result (Option TableDescription) Fault → Result Directory Fault
of_line d (Ok None) = Ok d
of_line d (Ok (Some t)) = with_table d t
of_line d (Err f) = Err f

-- one line more
unfoldable pub with_line : Directory → List ℕ → Result Directory Fault
with_line d bs = of_line d (line_in bs)

-- a fault in line n
abbrev pub in_line : ℕ → Fault → LineFault
in_line n f = record { line = n; fault = f }

-- what comes of the directory behind line n
abbrev pub behind_line : ℕ → Result Directory Fault → (Directory → Result Directory LineFault) → Result Directory LineFault
behind_line n (Ok d) go = go d
behind_line n (Err f) go = Err (in_line n f)

-- the lines behind line n, up to the first fault
unfoldable pub from_lines : ℕ → Directory → List (List ℕ) → Result Directory LineFault
from_lines n d [] = Ok d
from_lines n d (l ∷ ls) = behind_line (n + 1) (with_line d l) (λ e. from_lines (n + 1) e ls)

-- the whole text: its directory, or its first fault and the number of that line, from 1 on
unfoldable pub parsed : List ℕ → Result Directory LineFault
parsed text = from_lines 0 no_tables (text_lines text)

-- ---- the same with how far the text was read, and what it had come to there

-- a text of n lines
abbrev pub after-line : ℕ → Directory → Parsed
after-line n d = record { directory = d; line = n }

-- a fault in line n, behind the tables of the lines before
abbrev pub broken_in : ℕ → Directory → Fault → Broken
broken_in n d f = record { directory = d; at = record { line = n; fault = f } }

-- what comes of the directory behind line n; d is that of the lines before
abbrev pub parse_behind : ℕ → Directory → Result Directory Fault → (Directory → Result Parsed Broken) → Result Parsed Broken
parse_behind n d (Ok e) go = go e
parse_behind n d (Err f) go = Err (broken_in n d f)

-- the lines behind line n, up to the first fault
unfoldable pub parse_lines : ℕ → Directory → List (List ℕ) → Result Parsed Broken
parse_lines n d [] = Ok (after-line n d)
parse_lines n d (l ∷ ls) = parse_behind (n + 1) d (with_line d l) (λ e. parse_lines (n + 1) e ls)

-- the whole text: its directory with the number of its lines, or its first fault, the number of that line, from 1 on, and the directory of
-- the lines before
unfoldable pub parse : List ℕ → Result Parsed Broken
parse text = parse_lines 0 no_tables (text_lines text)

-- of that, what `parsed` says: the directory alone, or the fault in its line
abbrev pub directory_alone : Result Parsed Broken → Result Directory LineFault
directory_alone (Ok p) = Ok p.directory
directory_alone (Err b) = Err b.at
