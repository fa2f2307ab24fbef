-- The count of a directory that keeps its rules. Assumes nothing.
use mathlib.Core.Path.{◌≡◌}
use mathlib.Core.Bool.{true, ◌&&◌, and-eq-true_iff}
use Prim.Native.Nat.{◌≤◌}
use borrow.Author.Tests.{leb-true}
use lib.Dec.{leb}
use Rattle.directory.specs.Directory.{tables_of, each_kept, apart, directory_kept}
use Rattle.directory.specs.declared.directory.Directory.{Directory}

pub kept-few : (d : Directory) → directory_kept d ≡ true → d.count ≤ 16
unfolding directory_kept
kept-few d e = leb-true d.count 16 ((and-eq-true_iff (leb d.count 16) (each_kept (tables_of d) && apart (tables_of d))).0 e).0
