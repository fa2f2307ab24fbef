-- Laws of a line and of the whole text. Assumes nothing.
use mathlib.Core.Path.{◌≡◌, refl}
use mathlib.Core.List.{List, [], ◌∷◌}
use Prim.Native.Nat.{ℕ, ◌+◌, ◌<◌}
use lib.ListN.{length, drop}
use Rattle.std.specs.Prelude.{if◌then◌else◌, None, Result, Ok, Err}
use Rattle.directory.specs.Table.{description}
use Rattle.directory.specs.declared.table.TableKind.{TableKind}
use Rattle.directory.specs.Directory.{no_tables}
use Rattle.directory.specs.declared.directory.Directory.{Directory}
use Rattle.directory_text.specs.Scan.{is_blank, is_before, front, behind, word_of, behind_word, is_none, text_lines}
use Rattle.directory_text.specs.Line.{number_in, length_in, table_in, kind_of, of_kind, code_in, line_in}
use Rattle.directory_text.specs.Text.{with_line, in_line, behind_line, from_lines, parsed, after-line, broken_in, parse_behind, parse_lines, parse, directory_alone}
use Rattle.directory_text.specs.declared.fault.Fault.{Fault}
use Rattle.directory_text.specs.declared.fault.Fault.TheVariants as fault
use Rattle.directory_text.specs.declared.text.LineFault.{LineFault}
use Rattle.directory_text.specs.declared.text.Parsed.{Parsed}
use Rattle.directory_text.specs.declared.text.Broken.{Broken}
use Rattle.directory_text.proofs.Laws.{next-line, no_line}

-- four numbers that were read, one behind the other
pub table-read : (kind : TableKind) (code : List ℕ) {n m k l : ℕ} {c₁ c₂ c₃ c₄ : List ℕ}
    → Ok (n, c₁) ≡ number_in 1 65535 code → Ok (m, c₂) ≡ number_in 2 255 c₁ → Ok (k, c₃) ≡ number_in 3 65535 c₂ → Ok (l, c₄) ≡ length_in kind c₃
    → table_in kind code ≡ (if is_none (behind is_blank c₄) then Ok (description kind n m k l) else Err fault.MoreWords)
unfolding table_in
table-read kind code a b c d = rw (← a, ← b, ← c, ← d) refl

-- a line by its first word
pub line-read : (line code word rest : List ℕ) → code ≡ front (is_before 35) line → word ≡ word_of code → rest ≡ behind_word code
    → line_in line ≡ (if is_none word then Ok None else of_kind (kind_of word) rest)
unfolding line_in code_in
line-read line code word rest e f g = rw (f, g, e) refl

-- one line more
module _ (n : ℕ) (d : Directory) (text line : List ℕ) (h : 0 < length text) (e : line ≡ front (is_before 10) text) where
  pub line-fault : {f : Fault} → with_line d line ≡ Err f → from_lines n d (text_lines text) ≡ Err (in_line (n + 1) f)
  unfolding from_lines
  line-fault w = rw (next-line text h, ← e, w) refl

  pub line-goes : {longer : Directory} {rest : List ℕ} → with_line d line ≡ Ok longer → rest ≡ drop 1 (behind (is_before 10) text)
      → from_lines n d (text_lines text) ≡ from_lines (n + 1) longer (text_lines rest)
  unfolding from_lines
  line-goes w r = rw (next-line text h, ← e, w, r) refl

  pub parse-fault : {f : Fault} → with_line d line ≡ Err f → parse_lines n d (text_lines text) ≡ Err (broken_in (n + 1) d f)
  unfolding parse_lines
  parse-fault w = rw (next-line text h, ← e, w) refl

  pub parse-goes : {longer : Directory} {rest : List ℕ} → with_line d line ≡ Ok longer → rest ≡ drop 1 (behind (is_before 10) text)
      → parse_lines n d (text_lines text) ≡ parse_lines (n + 1) longer (text_lines rest)
  unfolding parse_lines
  parse-goes w r = rw (next-line text h, ← e, w, r) refl

pub lines_end : (n : ℕ) (d : Directory) (text : List ℕ) → length text ≡ 0 → from_lines n d (text_lines text) ≡ Ok d
unfolding from_lines
lines_end n d text h = rw (no_line text h) refl

pub parse_end : (n : ℕ) (d : Directory) (text : List ℕ) → length text ≡ 0 → parse_lines n d (text_lines text) ≡ Ok (after-line n d)
unfolding parse_lines
parse_end n d text h = rw (no_line text h) refl

-- ---- both ways of reading come to the same directory, or to the same fault

behind-same : (n : ℕ) (d : Directory) (r : Result Directory Fault) (goes : Directory → Result Directory LineFault) (parses : Directory → Result Parsed Broken)
    → ((e : Directory) → goes e ≡ directory_alone (parses e)) → behind_line n r goes ≡ directory_alone (parse_behind n d r parses)
behind-same n d (Ok e) goes parses same = same e
behind-same n d (Err f) goes parses same = refl

pub same_lines : (n : ℕ) (d : Directory) (ls : List (List ℕ)) → from_lines n d ls ≡ directory_alone (parse_lines n d ls)
unfolding from_lines parse_lines
same_lines n d [] = refl
same_lines n d (l ∷ ls) = behind-same (n + 1) d (with_line d l) _ _ (λ e. same_lines (n + 1) e ls)

pub same_text : (text : List ℕ) → parsed text ≡ directory_alone (parse text)
unfolding parsed parse
same_text text = same_lines 0 no_tables (text_lines text)
