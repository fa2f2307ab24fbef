-- The files found, one by one. Nothing here has to be believed: `Logs` says what `log_files` answers.
use Rattle.std.specs.Prelude.{ℕ, suc, List, [], ◌∷◌, ◌++◌, get_or, take, drop}
use Rattle.std.specs.Prelude.{if◌then◌else◌}
use Rattle.words.specs.Words.{little_at}
use Rattle.numbers.specs.Numbers.{some_of}
use Rattle.found.specs.Names.{log_name}
use Rattle.found.specs.Logs.{removed_one, kept_one, in_front, before}
use Rattle.found.specs.declared.sorted.LogFile.{LogFile}
use Rattle.found.specs.declared.files.FoundFile.{FoundFile}

-- each of the files that are handed in
abbrev pub found_files : List ℕ → List ℕ → List ℕ → List ℕ → List FoundFile
found_files names [] lengths heads = []
found_files names (n ∷ ns) lengths heads =
    record { number = log_name (take n names); size = get_or lengths 0 0; id = little_at 8 heads 1 } ∷ found_files (drop n names) ns (drop 1 lengths) (drop 9 heads)

-- the numbers of those with a taken name
abbrev pub numbers_in : List FoundFile → List ℕ
numbers_in [] = []
numbers_in (f ∷ fs) = some_of f.number ++ numbers_in fs

-- those to remove
abbrev pub removed_in : List FoundFile → List ℕ
removed_in [] = []
removed_in (f ∷ fs) = some_of (removed_one f.number f.size) ++ removed_in fs

-- those that are kept
abbrev pub kept_in : List FoundFile → List LogFile
kept_in [] = []
kept_in (f ∷ fs) = in_front (kept_one f.number f.size f.id) (kept_in fs)

-- how many stand before a file, from the front
abbrev pub spot_file : LogFile → List LogFile → ℕ
spot_file f [] = 0
spot_file f (a ∷ l) = if before a f then suc (spot_file f l) else 0
